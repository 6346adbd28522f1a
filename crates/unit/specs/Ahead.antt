-- Bytes that come before the last of a block: each moves the phase alone, so that many of them go by one copy.
use Rattle.std.specs.Prelude.{ℕ, suc, ◌+◌, ◌-◌, ◌≤◌, ◌≡◌, Bool, true, false, ◌&&◌, ◌||◌, List, [], ◌∷◌, ◌++◌, length, take, drop, ltb, min, Option, None, Some, is_some}
use Rattle.basis.specs.Choice.{pick}
use Rattle.basis.specs.Placed.{placed}
use Rattle.tape.specs.Record.{found_at}
use Rattle.rules.specs.declared.drive.Drive.{Drive}
use Rattle.rules.specs.declared.phase.Phase.{Phase}
use Rattle.rules.specs.declared.phase.Phase.TheVariants.{Taking, Giving}
use Rattle.rules.specs.declared.unit.Core.{Core}
use Rattle.rules.specs.declared.answer.Turn.{Turn}
use Rattle.rules.specs.Drive.{writes, reads}
use Rattle.rules.specs.Phase.{last_place, at_rest, given_before, taken_before}
use Rattle.rules.specs.Unit.{Lent, drive_at, tape_at, put_staging, moved_to}
use Rattle.rules.specs.Refusal.{possible, short}
use Rattle.rules.specs.Edge.{is_block}
use Rattle.rules.specs.Run.{World, world, given_each, taken_times}
use Rattle.rules.specs.Ran.{Ran}
use Rattle.rules.specs.Promises.Strike.{handed_out}
use Rattle.answers.specs.Moved.{moved_on}
use Rattle.unit.specs.declared.many.Handed.{Handed}
use Rattle.unit.specs.Handover.{is_zero, up_to, went_in, went_out, count_of, last_of}

-- ---- How many

-- Of so many bytes, those before the last of a block in which n went over; at Rest a block begins.
unfoldable pub ahead_of : Bool → ℕ → ℕ → ℕ
ahead_of rest n want =
    pick (rest || ltb 0 n) (pick (ltb n last_place) (min want (last_place - n)) 0) 0

-- Given to a drive that writes; `calm` says that the record is possible and no tape too long.
unfoldable pub given_ahead : Core → Bool → ℕ → ℕ
given_ahead c calm want =
    pick (calm && writes (drive_at c c.port.selected)) (ahead_of (at_rest c.port.phase) (given_before c.port.phase) want) 0

-- Taken from a drive that reads, with a whole block at its head.
unfoldable pub read_ahead : Drive → List ℕ → Phase → ℕ → ℕ
read_ahead d t ph want =
    pick (reads d) (pick (is_block (found_at t d.head)) (ahead_of (at_rest ph) (taken_before ph) want) 0) 0

unfoldable pub taken_ahead : Core → Bool → List ℕ → ℕ → ℕ
taken_ahead c calm t want = pick calm (read_ahead (drive_at c c.port.selected) t c.port.phase want) 0

-- The k bytes of a block that come next.
abbrev pub next_bytes : Drive → List ℕ → Phase → ℕ → List ℕ
next_bytes d t ph k = take k (drop (d.head + 1 + taken_before ph) t)

-- Copied to the front of a buffer, as many as it has room for.
pub record ReadsOn (d : Drive) (t : List ℕ) (ph : Phase) (out : List ℕ) (r : ℕ) (out' : List ℕ) : Type 0 where
  pub count : r ≡ read_ahead d t ph (length out)
  pub bytes : out' ≡ placed out 0 (next_bytes d t ph r)

-- Copied to a buffer from an offset on, as many as it has room for.
pub record TakesAhead (c : Core) (calm : Bool) (t out : List ℕ) (at r : ℕ) (out' : List ℕ) : Type 0 where
  pub count : r ≡ taken_ahead c calm t (length out - at)
  pub bytes : out' ≡ placed out at (next_bytes (drive_at c c.port.selected) t c.port.phase r)

-- ---- That the short way is the long one

-- The turns of such bytes, one after the other: in which phase, and what is handed out at each, from place n on.
abbrev pub glided : Core → (ℕ → Phase) → (ℕ → Option ℕ) → ℕ → List ℕ → List Turn
glided c ph out n [] = []
glided c ph out n (b ∷ bs) = moved_on c (ph (suc n)) (out b) (is_some (out b)) ∷ glided c ph out (suc n) bs

-- Bytes given: they are staged side by side, and no byte is handed out.
abbrev pub GivenGlide : Type 0
GivenGlide =
    (c : Core) (l : Lent) (bs : List ℕ) (want : ℕ) → length l.staging ≡ 512
    → length bs ≡ given_ahead c (possible c && short l) want → 1 ≤ length bs
    → let n = given_before c.port.phase in
    Ran (world c l) (given_each bs) (glided c Taking (λ b. None) n bs)
    (world (moved_to c (Taking (n + length bs))) (put_staging l (placed l.staging n bs)))

-- Bytes taken: they are the tape's own, and nothing that is lent changes.
abbrev pub TakenGlide : Type 0
TakenGlide =
    (c : Core) (l : Lent) (k want : ℕ) → length l.staging ≡ 512
    → k ≡ taken_ahead c (possible c && short l) (tape_at l c.port.selected) want → 1 ≤ k
    → let n = taken_before c.port.phase in
    Ran (world c l) (taken_times k)
    (glided c Giving Some n (next_bytes (drive_at c c.port.selected) (tape_at l c.port.selected) c.port.phase k))
    (world (moved_to c (Giving (n + k))) l)

-- ---- A leg of a call

-- Some events of those to come, by one copy or by one step: which were run, and what then comes of all.
pub record Leg (went : Turn → Bool) (w : World) (es : List (List ℕ)) (r : Handed) (l' : Lent) (rest : List (List ℕ)) (rs : List Turn) : Type 0 where
  pub some : List (List ℕ)
  pub ran : Ran w some rs (world r.last.core l')
  pub last : (x : Turn) → last_of x rs ≡ r.last
  pub count : count_of went rs ≡ r.count
  pub goes_on : is_zero r.last ≡ true → up_to w es ≡ some ++ up_to (world r.last.core l') rest
  pub ends : is_zero r.last ≡ false → up_to w es ≡ some
  pub moves : is_zero r.last ≡ true → 1 ≤ r.count

-- Of bytes given, and of bytes taken into a buffer from an offset on.
pub record GivesSome (c : Core) (l : Lent) (bytes : List ℕ) (r : Handed) (l' : Lent) : Type 0 where
  pub rs : List Turn
  pub leg : Leg went_in (world c l) (given_each bytes) r l' (given_each (drop r.count bytes)) rs
  pub fits : r.count ≤ length bytes

pub record TakesSome (c : Core) (l : Lent) (out : List ℕ) (at : ℕ) (r : Handed) (l' : Lent) (out' : List ℕ) : Type 0 where
  pub rs : List Turn
  pub leg : Leg went_out (world c l) (taken_times (length out - at)) r l' (taken_times (length out - (at + r.count))) rs
  pub fits : at + r.count ≤ length out
  pub bytes : out' ≡ placed out at (handed_out rs)
