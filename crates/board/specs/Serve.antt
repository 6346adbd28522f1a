-- What the exported functions are handed and leave, all of it bytes.
use Rattle.std.specs.Prelude.{ℕ, ◌≡◌, Bool, true, false, ◌&&◌, List, [], ◌∷◌, is_some, unwrap_or}
use Rattle.basis.specs.Choice.{pick}
use Rattle.rules.specs.declared.answer.Answer.TheVariants.{Taken, Impossible}
use Rattle.rules.specs.declared.answer.Lines.{Lines}
use Rattle.rules.specs.declared.unit.Core.{Core}
use Rattle.rules.specs.declared.answer.Turn.{Turn}
use Rattle.rules.specs.Unit.{Lent, lent, fresh_unit}
use Rattle.rules.specs.Answer.{row_of}
use Rattle.rules.specs.Lines.{lines_of, lines_down}
use Rattle.rules.specs.Refusal.{possible}
use Rattle.rules.specs.Step.{Steps}
use Rattle.unit.specs.declared.many.Handed.{Handed}
use Rattle.unit.specs.declared.tapes.Tapes as lends
use Rattle.unit.specs.Handover.{GivesOver, TakesOver}
use Rattle.layout.specs.Written.{flag, unit, Sized, unit_bytes}
use Rattle.layout.specs.Read.{fits, is_record, core_of, staging_of}

-- The four tapes; with the staging block they are what a step is lent.
pub record Tapes : Type 0 where
  pub tape0 : List ℕ
  pub tape1 : List ℕ
  pub tape2 : List ℕ
  pub tape3 : List ℕ

abbrev pub tapes : List ℕ → List ℕ → List ℕ → List ℕ → Tapes
tapes a b c d = record { tape0 = a; tape1 = b; tape2 = c; tape3 = d }

abbrev pub tapes_of : lends.Tapes → Tapes
tapes_of t = tapes t.tape0.now t.tape1.now t.tape2.now t.tape3.now

abbrev pub lent_with : List ℕ → Tapes → Lent
lent_with g t = lent g t.tape0 t.tape1 t.tape2 t.tape3

-- A result: the answer's number, whether a byte was given, the byte or 0, the three lines.
abbrev pub lines_bytes : Lines → List ℕ
lines_bytes l = flag l.ready ∷ flag l.exception ∷ flag l.direction ∷ []

abbrev pub result_bytes : Turn → List ℕ
result_bytes r = (row_of r.answer).number ∷ flag (is_some r.byte) ∷ unwrap_or r.byte 0 ∷ lines_bytes r.lines

-- Of a buffer that is no record: 5, no byte, the lines down.
abbrev pub no_record : List ℕ
no_record = (row_of Impossible).number ∷ flag false ∷ 0 ∷ lines_bytes lines_down

-- The unit's step on the record that a buffer holds, with this turn; what it leaves is written back.
pub record SteppedIn (l : List ℕ) (t : Tapes) (event : List ℕ) (turn : Turn) (l' : List ℕ) (t' : Tapes) : Type 0 where
  pub staging : List ℕ
  pub steps : Steps (core_of l) (lent_with (staging_of l) t) event turn (lent_with staging t')
  pub left : l' ≡ unit_bytes (unit turn.core staging)
  pub sized : Sized (unit turn.core staging)

-- A buffer that is a record: the unit's step on what it holds. Its turn is the result, and what it leaves is written back.
pub record Served (l : List ℕ) (t : Tapes) (event out l' : List ℕ) (t' : Tapes) : Type 0 where
  pub turn : Turn
  pub staging : List ℕ
  pub steps : Steps (core_of l) (lent_with (staging_of l) t) event turn (lent_with staging t')
  pub result : out ≡ result_bytes turn
  pub left : l' ≡ unit_bytes (unit turn.core staging)
  pub sized : Sized (unit turn.core staging)

-- A buffer that is none: all as found.
pub record NotServed (l : List ℕ) (t : Tapes) (out l' : List ℕ) (t' : Tapes) : Type 0 where
  pub result : out ≡ no_record
  pub left : l' ≡ l
  pub tapes : t' ≡ t

-- THE CONTRACT of one event over bytes.
pub data Serves (l : List ℕ) (t : Tapes) (event out l' : List ℕ) (t' : Tapes) : Type 0 where
  of_record : is_record l ≡ true → Served l t event out l' t' → Serves l t event out l' t'
  of_none : is_record l ≡ false → NotServed l t out l' t' → Serves l t event out l' t'

-- Many bytes on a buffer that is a record: a call of the unit on what it holds. Its last turn is the result, and what it leaves is written back.
pub record ServedMany (took : Core → Lent → Handed → Lent → Type 0) (l : List ℕ) (t : Tapes) (r : ℕ) (out l' : List ℕ) (t' : Tapes) : Type 0 where
  pub handed : Handed
  pub staging : List ℕ
  pub is : took (core_of l) (lent_with (staging_of l) t) handed (lent_with staging t')
  pub count : r ≡ handed.count
  pub result : out ≡ result_bytes handed.last
  pub left : l' ≡ unit_bytes (unit handed.last.core staging)
  pub sized : Sized (unit handed.last.core staging)

-- THE CONTRACTS of many bytes given, and of many taken into a buffer.
pub data Gives (l : List ℕ) (t : Tapes) (bytes : List ℕ) (r : ℕ) (out l' : List ℕ) (t' : Tapes) : Type 0 where
  of_record : is_record l ≡ true → ServedMany (λ c lent h lent'. GivesOver c lent bytes h lent') l t r out l' t' → Gives l t bytes r out l' t'
  of_none : is_record l ≡ false → NotServed l t out l' t' → r ≡ 0 → Gives l t bytes r out l' t'

pub data Takes (l : List ℕ) (t : Tapes) (bytes : List ℕ) (r : ℕ) (out l' : List ℕ) (t' : Tapes) (bytes' : List ℕ) : Type 0 where
  of_record : is_record l ≡ true → ServedMany (λ c lent h lent'. TakesOver c lent bytes h lent' bytes') l t r out l' t' → Takes l t bytes r out l' t' bytes'
  of_none : is_record l ≡ false → NotServed l t out l' t' → r ≡ 0 → bytes' ≡ bytes → Takes l t bytes r out l' t' bytes'

-- A fresh record, into a buffer of a record's size and no other.
pub record Freshens (l : List ℕ) (r : ℕ) (l' : List ℕ) : Type 0 where
  pub answer : r ≡ pick (fits l) (row_of Taken).number (row_of Impossible).number
  pub left : l' ≡ pick (fits l) (unit_bytes fresh_unit) l

-- Whether a buffer holds a possible record.
unfoldable pub holds : List ℕ → Bool
holds l = is_record l && possible (core_of l)

-- The lines of a buffer that does; else they are down.
pub record Shows (l : List ℕ) (r : ℕ) (out : List ℕ) : Type 0 where
  pub answer : r ≡ pick (holds l) (row_of Taken).number (row_of Impossible).number
  pub result : out ≡ lines_bytes (pick (holds l) (lines_of (core_of l)) lines_down)
