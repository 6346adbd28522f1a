-- One answered event as a line: number, answer, lines, byte, each byte of it.
use Rattle.std.specs.Prelude.{ℕ, ◌+◌, Bool, List, [], ◌∷◌, ◌++◌, length, leb, Option, Some, None}
use Rattle.std.specs.Option.{option_map_or}
use Rattle.basis.specs.Choice.{pick}
use Rattle.basis.specs.Placed.{placed}
use Rattle.basis.specs.Text.{digit, high_digit, low_digit, decimal}
use Rattle.rules.specs.declared.answer.Answer.{Answer}
use Rattle.rules.specs.declared.answer.Lines.{Lines}
use Rattle.rules.specs.Answer.{row_of}

-- The characters of a line.
abbrev pub newline : ℕ
newline = 10

abbrev pub space : ℕ
space = 32

abbrev pub dash : ℕ
dash = 45

abbrev pub letter_d : ℕ
letter_d = 68

abbrev pub letter_e : ℕ
letter_e = 69

abbrev pub letter_r : ℕ
letter_r = 82

-- A character where something is so, else a dash.
unfoldable pub or_dash : Bool → ℕ → ℕ
or_dash b character = pick b character dash

-- What follows the number: the answer's number, R, E and D for the lines that are up, the byte as two hex digits or --.
unfoldable pub fields_of : Answer → Lines → Option ℕ → List ℕ
fields_of a l byte =
    space ∷ digit (row_of a).number
    ∷ space ∷ or_dash l.ready letter_r ∷ or_dash l.exception letter_e ∷ or_dash l.direction letter_d
    ∷ space ∷ option_map_or high_digit byte dash ∷ option_map_or low_digit byte dash
    ∷ newline ∷ []

abbrev pub fields_size : ℕ
fields_size = 10

unfoldable pub line_of : ℕ → Answer → Lines → Option ℕ → List ℕ
line_of n a l byte = decimal n ++ fields_of a l byte

-- The bytes that the line of event n takes.
unfoldable pub line_size : ℕ → ℕ
line_size n = length (decimal n) + fields_size

-- What an order to show a line hands back: the answer, and the buffer as it is left.
pub record Page : Type 0 where
  pub shown : Option ℕ
  pub out : List ℕ

abbrev pub page : Option ℕ → List ℕ → Page
page s o = record { shown = s; out = o }

-- The line at an offset, if it has room; else the buffer as found.
unfoldable pub shown_at : List ℕ → ℕ → List ℕ → Page
shown_at o at l = pick (leb (at + length l) (length o)) (page (Some (at + length l)) (placed o at l)) (page None o)
