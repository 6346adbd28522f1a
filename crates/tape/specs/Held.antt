-- Bytes that stand on a tape: a record that was made is there, and what lies before the head is not lost by what comes behind it.
use Rattle.std.specs.Prelude.{ℕ, suc, ◌+◌, ◌≤◌, ◌<◌, ◌≡◌, List, ◌++◌, length, get_or, take, drop, Ok}
use Rattle.tape.specs.declared.found.Kind.TheVariants.{Block, Mark}
use Rattle.tape.specs.Record.{body_size, mark_record, block_record, found_at}
use Rattle.tape.specs.Recording.{recorded}
use Rattle.tape.specs.Walk.{trail, past_marks, passed}

-- The bytes of a record, or of several in a row, stand at offset h of the tape t.
abbrev pub Holds : List ℕ → ℕ → List ℕ → Type 0
Holds t h bytes = take (length bytes) (drop h t) ≡ bytes

-- What was recorded stands there.
abbrev pub RecordedHolds : Type 0
RecordedHolds = (t rec : List ℕ) (h : ℕ) → h + length rec ≤ length t → Holds (recorded t h rec) h rec

-- One record made right behind another is the two of them made at once.
abbrev pub RecordedOn : Type 0
RecordedOn = (t a b : List ℕ) (h : ℕ) → h + length a ≤ length t → recorded (recorded t h a) (h + length a) b ≡ recorded t h (a ++ b)

-- What stands before an offset stands on every tape that is the same up to there.
abbrev pub HoldsBefore : Type 0
HoldsBefore =
    (t t' bytes : List ℕ) (k h : ℕ) → k + length bytes ≤ h → take h t' ≡ take h t → Holds t k bytes → Holds t' k bytes

-- Two in a row: the first, and the second behind it.
abbrev pub HoldsParts : Type 0
HoldsParts = (t a b : List ℕ) (h : ℕ) → Holds t h (a ++ b) → Holds t h a × Holds t (h + length a) b

-- Each byte stands in its place; a block and a mark that stand there are found there, and a block that is found stands there.
abbrev pub HeldByte : Type 0
HeldByte = (t bytes : List ℕ) (h i : ℕ) → i < length bytes → Holds t h bytes → get_or t (h + i) 0 ≡ get_or bytes i 0

abbrev pub HeldBlock : Type 0
HeldBlock = (t body : List ℕ) (h : ℕ) → length body ≡ body_size → Holds t h (block_record body) → found_at t h ≡ Ok Block

abbrev pub HeldMark : Type 0
HeldMark = (t : List ℕ) (h : ℕ) → Holds t h mark_record → found_at t h ≡ Ok Mark

abbrev pub body_at : List ℕ → ℕ → List ℕ
body_at t h = take body_size (drop (h + 1) t)

abbrev pub FoundHolds : Type 0
FoundHolds = (t : List ℕ) (h : ℕ) → found_at t h ≡ Ok Block → (length (body_at t h) ≡ body_size) × Holds t h (block_record (body_at t h))

-- A way past n marks is the same on every tape that is the same up to where it ends.
abbrev pub PastSame : Type 0
PastSame =
    (t u : List ℕ) (h n a : ℕ) → past_marks n (trail t h) ≡ Ok a → take a t ≡ take a u → a ≤ length u → past_marks n (trail u h) ≡ Ok a

-- Past one mark more: past the next one, and from there past the others.
pub record Next (t : List ℕ) (h n a : ℕ) : Type 0 where
  pub mark : ℕ
  pub first : passed t h ≡ Ok mark
  pub others : past_marks n (trail t mark) ≡ Ok a

abbrev pub PastNext : Type 0
PastNext = (t : List ℕ) (h n a : ℕ) → past_marks (suc n) (trail t h) ≡ Ok a → Next t h n a
