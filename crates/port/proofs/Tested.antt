-- What the tests leave of an order that passed them.
use Prim.Native.Nat.{ℕ}
use mathlib.Core.Path.{◌≡◌, refl}
use mathlib.Core.Bool.{Bool, true, false}
use Rattle.std.specs.Prelude.{Ok, Some}
use Rattle.basis.specs.Choice.{pick}
use Rattle.rules.specs.declared.drive.Drive.{Drive}
use Rattle.rules.specs.declared.order.Needs.{Needs}
use Rattle.rules.specs.Order.{illegal, test5, test6, has_room, first_fault, fault_by}

-- an order that passed has the room that it asks for
pub fine_has_room : (online : Bool) (d : Drive) (l : ℕ) (n : Needs) → fault_by online d l (Some n) ≡ Ok tt → has_room n.room d.head l ≡ true
unfolding pick fault_by
fine_has_room online d l n e = go (illegal online d n) (test5 d n) (test6 d n) (has_room n.room d.head l) e
  where
    go : (i c p r : Bool) → first_fault i c p r ≡ Ok tt → r ≡ true
    go true c p r e = cc
    go false true p r e = cc
    go false false true r e = cc
    go false false false true e = refl
    go false false false false e = cc
