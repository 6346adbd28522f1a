-- What a line has, and that an answer's number is one digit.
use Prim.Native.Nat.{ℕ, ◌<◌}
use Rattle.std.specs.Prelude.{Option}
use mathlib.Core.Path.{◌≡◌}
use native.Mathlib.Omega.{arith}
use lib.ListN.{length, length-append}
use Rattle.basis.specs.Text.{decimal}
use Rattle.rules.specs.declared.answer.Answer.{Answer}
use Rattle.rules.specs.declared.answer.Answer.TheVariants.{Taken, Raised, OutOfStep, WrongSlot, Malformed, Impossible, TooLong}
use Rattle.rules.specs.declared.answer.Lines.{Lines}
use Rattle.rules.specs.Answer.{row_of}
use Rattle.trace.specs.Line.{fields_of, line_of, line_size}

pub line_length : (n : ℕ) (a : Answer) (l : Lines) (byte : Option ℕ) → length (line_of n a l byte) ≡ line_size n
unfolding line_of line_size fields_of
line_length n a l byte = length-append (decimal n) (fields_of a l byte)

-- An answer's number is one digit.
pub one_digit : (a : Answer) → (row_of a).number < 16
one_digit Taken = omega arith
one_digit Raised = omega arith
one_digit OutOfStep = omega arith
one_digit WrongSlot = omega arith
one_digit Malformed = omega arith
one_digit Impossible = omega arith
one_digit TooLong = omega arith
