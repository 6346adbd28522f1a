-- Demand 2: a fresh unit is possible, a possible one stays possible, tapes keep their lengths.
use Rattle.std.specs.Prelude.{ℕ, ◌≤◌, ◌≡◌, true, List, length}
use Rattle.rules.specs.declared.unit.Core.{Core}
use Rattle.rules.specs.Unit.{Lent, fresh_core, tape_at, Whole}
use Rattle.rules.specs.Refusal.{possible}
use Rattle.rules.specs.Step.{step_of}

abbrev pub FreshIsPossible : Type 0
FreshIsPossible = possible fresh_core ≡ true

abbrev pub StaysPossible : Type 0
StaysPossible = (c : Core) (l : Lent) (event : List ℕ) → Whole l → possible c ≡ true → possible (step_of c l event).turn.core ≡ true

-- The tape of every drive, and the staging block.
abbrev pub LengthsStay : Type 0
LengthsStay = (c : Core) (l : Lent) (event : List ℕ) (i : ℕ) → i ≤ 3 → Whole l → length (tape_at (step_of c l event).lent i) ≡ length (tape_at l i)

abbrev pub StagingStaysWhole : Type 0
StagingStaysWhole = (c : Core) (l : Lent) (event : List ℕ) → Whole l → Whole (step_of c l event).lent
