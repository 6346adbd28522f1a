-- What the laws of a counter come to.
use Rattle.std.proofs.Common.{ℕ, ◌+◌, ◌≤◌, ◌≡◌, min, Bool, true, false, refl, arith, ltb}
use borrow.Author.Tests.{ltb-true, ltb-false}
use Rattle.basis.specs.Choice.{pick}
use Rattle.rules.specs.declared.drive.Drive.{Drive}
use Rattle.rules.specs.Drive.{highest, counted}
use Rattle.rules.specs.Counter.{CounterLaws, NeverAbove}

-- one more is the lesser of the next number and the highest
pub counted_stops : (n : ℕ) → n ≤ highest → min (n + 1) highest ≡ counted n
unfolding counted pick
counted_stops n low = go (ltb n highest) refl
  where
    go : (b : Bool) → ltb n highest ≡ b → min (n + 1) highest ≡ pick b (n + 1) n
    go true e = omega (arith, ltb-true n highest e)
    go false e = omega (arith, ltb-false n highest e)

pub never_above : {C : Type 0} {number : C → ℕ} {held : Drive → C} {put : C → Drive → Drive} {raised : Drive → Drive}
    → CounterLaws number held put raised → NeverAbove number held raised
never_above {number = number} {held = held} laws d low = omega (arith, laws.one_more d, counted_stops (number (held d)) low)
