-- Answers: the number of each, and what it leaves.
use Rattle.std.specs.Prelude.{ℕ, Bool, true, false}
use Rattle.rules.specs.declared.answer.Answer.{Answer}
use Rattle.rules.specs.declared.answer.Answer.TheVariants.{Taken, Raised, OutOfStep, WrongSlot, Malformed, Impossible, TooLong}

-- A row of the table of answers: its number; whether it refuses, and so leaves all as found; whether it puts the three lines down;
-- whether a byte may come with it.
pub record Row : Type 0 where
  pub number : ℕ
  pub refuses : Bool
  pub lines_down : Bool
  pub may_give : Bool

abbrev pub row : ℕ → Bool → Bool → Bool → Row
row n r d g = record { number = n; refuses = r; lines_down = d; may_give = g }

abbrev pub row_of : Answer → Row
row_of Taken = row 0 false false true
row_of Raised = row 1 false false true
row_of OutOfStep = row 2 true false false
row_of WrongSlot = row 3 true false false
row_of Malformed = row 4 true false false
row_of Impossible = row 5 true true false
row_of TooLong = row 6 true false false
