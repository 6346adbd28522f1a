-- The tests of an order, by its code.
use Prim.Native.Nat.{ℕ, ◌+◌}
use mathlib.Core.Path.{◌≡◌, refl, ap}
use mathlib.Core.Bool.{Bool, true, false, not, ◌&&◌, ◌||◌}
use mathlib.Core.List.{[], ◌∷◌, ◌++◌}
use lib.Dec.{leb, eqb}
use lib.ListN.{length}
use Rattle.std.specs.Prelude.{Result, Ok, Err, Option, None, Some}
use Rattle.basis.specs.Choice.{pick}
use Rattle.rules.specs.declared.drive.Mode.{Mode}
use Rattle.rules.specs.declared.drive.Mode.TheVariants.{Idle, Writing, Reading}
use Rattle.rules.specs.declared.order.Order.TheVariants.{ReadStatus}
use Rattle.rules.specs.declared.order.Needs.{Needs}
use Rattle.rules.specs.declared.order.Fault.{Fault}
use Rattle.rules.specs.declared.order.Fault.TheVariants.{Full}
use Rattle.rules.specs.Order.{order_of, row_for, needs_of, in_sequence, has_room, illegal, first_fault, fault_by}
use Rattle.rules.specs.Effect.{fault_of}
use Rattle.rules.specs.Promises.Orders.{among, selecting, moving, taping, telling, fits1, fits3, fits4, room_asked, decided, FirstTestDecides, StatusPasses}
use Rattle.rules.proofs.Codes.{by_code}

-- What the row of an order says, by its code; a code without a row is none of them.
abbrev is_code : ℕ → Bool
is_code k = among k (selecting ++ (moving ++ (taping ++ telling)))

record Row (k : ℕ) (n : Needs) : Type 0 where
  known : is_code k ≡ true
  status : n.status ≡ among k telling
  writing : n.writing ≡ among k (96 ∷ 192 ∷ [])
  reading : n.reading ≡ among k (160 ∷ 192 ∷ [])
  online : n.online ≡ among k taping
  cartridge : n.cartridge ≡ among k (moving ++ taping)
  plug : n.plug ≡ among k (34 ∷ 64 ∷ 96 ∷ [])
  room : n.room ≡ room_asked k

abbrev RowOf : ℕ → Option Needs → Type 0
RowOf k None = is_code k ≡ false
RowOf k (Some n) = Row k n

row_of : (k : ℕ) → RowOf k (needs_of (order_of k))
unfolding pick
row_of =
    by_code (λ k o. RowOf k (needs_of o))
    (record {
      at1 = record { known = refl; status = refl; writing = refl; reading = refl; online = refl; cartridge = refl; plug = refl; room = refl };
      at2 = record { known = refl; status = refl; writing = refl; reading = refl; online = refl; cartridge = refl; plug = refl; room = refl };
      at4 = record { known = refl; status = refl; writing = refl; reading = refl; online = refl; cartridge = refl; plug = refl; room = refl };
      at8 = record { known = refl; status = refl; writing = refl; reading = refl; online = refl; cartridge = refl; plug = refl; room = refl };
      at33 = record { known = refl; status = refl; writing = refl; reading = refl; online = refl; cartridge = refl; plug = refl; room = refl };
      at34 = record { known = refl; status = refl; writing = refl; reading = refl; online = refl; cartridge = refl; plug = refl; room = refl };
      at36 = record { known = refl; status = refl; writing = refl; reading = refl; online = refl; cartridge = refl; plug = refl; room = refl };
      at64 = record { known = refl; status = refl; writing = refl; reading = refl; online = refl; cartridge = refl; plug = refl; room = refl };
      at96 = record { known = refl; status = refl; writing = refl; reading = refl; online = refl; cartridge = refl; plug = refl; room = refl };
      at128 = record { known = refl; status = refl; writing = refl; reading = refl; online = refl; cartridge = refl; plug = refl; room = refl };
      at160 = record { known = refl; status = refl; writing = refl; reading = refl; online = refl; cartridge = refl; plug = refl; room = refl };
      at192 = record { known = refl; status = refl; writing = refl; reading = refl; online = refl; cartridge = refl; plug = refl; room = refl };
    })
    (λ k n. rw (n.not1, n.not2, n.not4, n.not8, n.not33, n.not34, n.not36, n.not64, n.not96, n.not128, n.not160, n.not192))

sequence : (k : ℕ) (n : Needs) → Row k n → (m : Mode) → not (in_sequence m n) ≡ fits3 m k
sequence k n r Idle = refl
sequence k n r Writing = ap not r.writing
sequence k n r Reading = ap not r.reading

-- who asks for no room has it
room_asked_lem : (k h size : ℕ) → not (has_room (room_asked k) h size) ≡ (among k (64 ∷ 96 ∷ []) && not (leb (h + room_asked k) size))
unfolding pick
room_asked_lem k h size = go (eqb k 64) (eqb k 96)
  where
    go : (w m : Bool) → not (has_room (pick w 514 (pick m 1 0)) h size) ≡ ((w || (m || false)) && not (leb (h + pick w 514 (pick m 1 0)) size))
    go true m = refl
    go false true = refl
    go false false = refl

room_or_none : (r : Bool) → pick {A = Result (Unit {0}) Fault} r (Ok tt) (Err Full) ≡ pick (not r) (Err Full) (Ok tt)
unfolding pick
room_or_none true = refl
room_or_none false = refl

-- an unknown code is illegal, whatever the tests beside it say
second_fits : (a b : Bool) → (a || (true || b)) ≡ true
second_fits true b = refl
second_fits false b = refl

pub first_test_decides : FirstTestDecides
unfolding fault_of fault_by illegal pick
first_test_decides s k = go (needs_of (order_of k)) (row_of k)
  where
    go : (n : Option Needs) → RowOf k n → fault_by s.port.online s.drive (length s.tape) n ≡ decided s k
    go None r = rw (r, second_fits (fits1 s.drive k) (fits3 s.drive.mode k || fits4 s.port.online k))
    go (Some n) r =
        rw (
          sequence k n r s.drive.mode,
          r.status,
          r.known,
          r.online,
          r.cartridge,
          r.plug,
          r.room,
          room_or_none (has_room (room_asked k) s.drive.head (length s.tape)),
          room_asked_lem k s.drive.head (length s.tape),
        )

-- ---- READ STATUS

pub status_passes : StatusPasses
unfolding fault_of fault_by illegal pick
status_passes s = go s.drive.exception s.drive.mode
  where
    go : (e : Bool) (m : Mode) → first_fault (e && false || (not (in_sequence m (row_for ReadStatus)) || false)) false false true ≡ Ok tt
    go true Idle = refl
    go true Writing = refl
    go true Reading = refl
    go false Idle = refl
    go false Writing = refl
    go false Reading = refl
