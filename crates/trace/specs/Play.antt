-- A run written down: events answered one after the other and a line for each, while there are events and room, up to and with the first answer 4.
use Rattle.std.specs.Prelude.{ℕ, ◌+◌, ◌≤◌, ◌≡◌, Bool, true, false, ◌&&◌, List, [], ◌∷◌, ◌++◌, length, drop, ltb, leb, eqb}
use Rattle.rules.specs.declared.unit.Core.{Core}
use Rattle.rules.specs.declared.answer.Answer.{Answer}
use Rattle.rules.specs.Answer.{row_of}
use Rattle.rules.specs.Unit.{Lent}
use Rattle.rules.specs.Run.{World, world, after, turn_of}
use Rattle.trace.specs.declared.run.Halt.{Halt}
use Rattle.trace.specs.declared.run.Halt.TheVariants.{InputOut, RoomOut, Stopped}
use Rattle.trace.specs.declared.run.Played.{Played}
use Rattle.trace.specs.declared.run.Answered.{Answered}
use Rattle.trace.specs.Cut.{events_of}
use Rattle.basis.specs.Placed.{placed}
use Rattle.trace.specs.Line.{line_of, line_size}

-- The highest number of an event: that of 64 bits.
abbrev pub last_number : ℕ
last_number = 18446744073709551615

-- Whether there is room for the line of the event after n, in a buffer of which `full` bytes are written.
unfoldable pub has_room : ℕ → ℕ → ℕ → Bool
has_room room full n = ltb n last_number && leb (full + line_size (n + 1)) room

-- The line of an event that comes as number n.
unfoldable pub line_in : World → List ℕ → ℕ → List ℕ
line_in w e n = line_of n (turn_of w e).answer (turn_of w e).lines (turn_of w e).byte

-- After an answer 4 reading stops.
abbrev pub stop_number : ℕ
stop_number = 4

unfoldable pub stops : Answer → Bool
stops a = eqb (row_of a).number stop_number

-- A run: the world that it leaves, the bytes that its events took, the count of events answered in all, why it halted, the text of its lines.
pub record Run : Type 0 where
  pub world : World
  pub used : ℕ
  pub count : ℕ
  pub halt : Halt
  pub text : List ℕ

-- A run that answers nothing.
abbrev pub still : World → ℕ → Halt → Run
still w n h = record { world = w; used = 0; count = n; halt = h; text = [] }

-- A run with what was used and written before it.
abbrev pub since : ℕ → List ℕ → Run → Run
since used text r = record { world = r.world; used = used + r.used; count = r.count; halt = r.halt; text = text ++ r.text }

-- Events in their order, from a world in which n were answered, with `full` bytes of the buffer written.
abbrev pub play : ℕ → ℕ → World → ℕ → List (List ℕ) → Run
play room full w n [] = still w n InputOut
play room full w n (e ∷ es) =
    elim (has_room room full n) [
      | true ↦ since (length e) (line_in w e (n + 1))
          (elim (stops (turn_of w e).answer) [
            | true ↦ still (after w e) (n + 1) Stopped
            | false ↦ play room (full + line_size (n + 1)) (after w e) (n + 1) es
          ])
      | false ↦ still w n RoomOut
    ]

-- What a run leaves: its answer, and the buffer with the text at its front and nothing else changed.
pub record Left : Type 0 where
  pub world : World
  pub used : ℕ
  pub count : ℕ
  pub halt : Halt
  pub written : ℕ
  pub out : List ℕ

abbrev pub leaves : List ℕ → Run → Left
leaves o r =
    record {
      world = r.world;
      used = r.used;
      count = r.count;
      halt = r.halt;
      written = length r.text;
      out = r.text ++ drop (length r.text) o;
    }

abbrev pub left : Played → Lent → List ℕ → Left
left p l o = record { world = world p.core l; used = p.used; count = p.count; halt = p.halt; written = p.written; out = o }

-- THE CONTRACT of a run over a buffer of input:
-- what it hands back, every byte that it leaves of what it was lent, and that it stays inside input and output.
pub record Plays (c : Core) (l : Lent) (input : List ℕ) (ending : Bool) (n : ℕ) (o : List ℕ) (p : Played) (l' : Lent) (o' : List ℕ) : Type 0 where
  pub is : left p l' o' ≡ leaves o (play (length o) 0 (world c l) n (events_of ending input))
  pub within : p.used ≤ length input
  pub fits : p.written ≤ length o

-- One event answered and shown: the world after it, the buffer with its line at `full`, and whether reading stops.
pub record Turned : Type 0 where
  pub world : World
  pub stop : Bool
  pub full : ℕ
  pub out : List ℕ

abbrev pub turned : Answered → Lent → List ℕ → Turned
turned a l o = record { world = world a.core l; stop = a.stop; full = a.full; out = o }

unfoldable pub turn : World → List ℕ → ℕ → List ℕ → ℕ → Turned
turn w e n o full =
    record { world = after w e; stop = stops (turn_of w e).answer; full = full + line_size n; out = placed o full (line_in w e n) }

abbrev pub AnswersOne : Core → Lent → List ℕ → ℕ → List ℕ → ℕ → Answered → Lent → List ℕ → Type 0
AnswersOne c l e n o full a l' o' = turned a l' o' ≡ turn (world c l) e (n + 1) o full
