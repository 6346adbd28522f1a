-- An answer by its number: what refuses, and what puts the lines down.
use mathlib.Core.Path.{◌≡◌, refl}
use lib.Dec.{ltb, eqb}
use Rattle.rules.specs.declared.answer.Answer.{Answer}
use Rattle.rules.specs.declared.answer.Answer.TheVariants.{Taken, Raised, OutOfStep, WrongSlot, Malformed, Impossible, TooLong}
use Rattle.rules.specs.Answer.{row_of}

pub refuses_by : (a : Answer) → ltb 1 (row_of a).number ≡ (row_of a).refuses
refuses_by Taken = refl
refuses_by Raised = refl
refuses_by OutOfStep = refl
refuses_by WrongSlot = refl
refuses_by Malformed = refl
refuses_by Impossible = refl
refuses_by TooLong = refl

pub down_by : (a : Answer) → eqb (row_of a).number 5 ≡ (row_of a).lines_down
down_by Taken = refl
down_by Raised = refl
down_by OutOfStep = refl
down_by WrongSlot = refl
down_by Malformed = refl
down_by Impossible = refl
down_by TooLong = refl
