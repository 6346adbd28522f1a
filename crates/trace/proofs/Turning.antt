-- One event answered and shown: what the step and the line leave is the turn.
use Prim.Native.Nat.{ℕ, ◌+◌, ◌≤◌, ◌<◌}
use mathlib.Core.Bool.{true, false}
use mathlib.Core.List.{List}
use mathlib.Core.Path.{◌≡◌, refl}
use lib.Dec.{ltb, leb}
use borrow.Author.Tests.{ltb-true, leb-true}
use Rattle.rules.specs.declared.unit.Core.{Core}
use Rattle.rules.specs.declared.answer.Answer.{Answer}
use Rattle.rules.specs.declared.answer.Answer.TheVariants.{Taken, Raised, OutOfStep, WrongSlot, Malformed, Impossible, TooLong}
use Rattle.rules.specs.declared.answer.Turn.{Turn}
use Rattle.rules.specs.Unit.{Lent}
use Rattle.rules.specs.Step.{Steps}
use Rattle.rules.specs.Run.{world}
use Rattle.rules.proofs.Ran.{steps_are_the_books}
use Rattle.basis.proofs.Choosing.{both}
use Rattle.basis.specs.Placed.{placed}
use Rattle.trace.specs.Line.{line_of, line_size}
use Rattle.trace.specs.Play.{last_number, has_room, stops, line_in, Turned, turn}

-- Where there is room, the number fits, and the line ends inside the buffer.
pub room_fits : (room full n : ℕ) → has_room room full n ≡ true → (n < last_number) × (full + line_size (n + 1) ≤ room)
unfolding has_room
room_fits room full n p =
    let q = both (ltb n last_number) (leb (full + line_size (n + 1)) room) p in
    (ltb-true n last_number q.0, leb-true (full + line_size (n + 1)) room q.1)

pub turn_made : (c : Core) (l : Lent) (e : List ℕ) (r : Turn) (l' : Lent) → Steps c l e r l' → (n full : ℕ) (o : List ℕ)
    → ◌≡◌ {A = Turned}
    (record {
      world = world r.core l';
      stop = stops r.answer;
      full = full + line_size n;
      out = placed o full (line_of n r.answer r.lines r.byte);
    })
    (turn (world c l) e n o full)
unfolding turn line_in
turn_made c l e r l' s n full o = let one = steps_are_the_books c l e r l' s in rw (one.left, one.answered)

-- No other answer stops the reading.
pub stops_not : (a : Answer) → (a ≡ Malformed → ⊥) → false ≡ stops a
unfolding stops
stops_not Taken h = refl
stops_not Raised h = refl
stops_not OutOfStep h = refl
stops_not WrongSlot h = refl
stops_not Malformed h = absurd (h refl)
stops_not Impossible h = refl
stops_not TooLong h = refl
