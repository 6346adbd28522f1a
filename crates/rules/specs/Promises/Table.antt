-- Demand 1: whatever the bytes, the record and the tapes, there is one answer, and the table of document 01 says which.
use Rattle.std.specs.Prelude.{ℕ, ◌≤◌, ◌≡◌, ◌↔◌, Bool, true, false, not, List, Option, None, Some}
use Rattle.rules.specs.declared.unit.Core.{Core}
use Rattle.rules.specs.declared.event.Event.{Event}
use Rattle.rules.specs.declared.event.What.{What}
use Rattle.rules.specs.declared.event.What.TheVariants.{In, Out, Error, Underrun}
use Rattle.rules.specs.declared.event.Event.TheVariants.{Reset, Named, Own}
use Rattle.rules.specs.declared.answer.Answer.{Answer}
use Rattle.rules.specs.declared.answer.Answer.TheVariants.{Taken, Raised, OutOfStep, WrongSlot, Malformed, Impossible, TooLong}
use Rattle.rules.specs.Unit.{Lent, drive_at}
use Rattle.rules.specs.Event.{event_of}
use Rattle.rules.specs.Answer.{row_of}
use Rattle.rules.specs.Refusal.{possible, short, in_step_at}
use Rattle.rules.specs.Slot.{is_out}
use Rattle.rules.specs.Step.{act, seat_of, staged_in, step_of}

-- The conditions of the table, in the order they are tried. 5 and 6: the record is impossible, a lent tape too long.
abbrev pub impossible : Core → Bool
impossible c = not (possible c)

abbrev pub too_long : Lent → Bool
too_long l = not (short l)

-- 4: the bytes are no event.
abbrev pub malformed : Option Event → Bool
malformed None = true
malformed (Some e) = false

-- 2: an act of the host that is out of step.
abbrev pub out_of_step : Core → Option Event → Bool
out_of_step c None = false
out_of_step c (Some Reset) = false
out_of_step c (Some (Named i w)) = false
out_of_step c (Some (Own a)) = not (in_step_at c.port.phase (drive_at c c.port.selected) a)

-- 3: the slot is not as the event wants it: empty for a cartridge that comes in, full for all else.
abbrev pub slot_fits : Bool → What → Bool
slot_fits loaded (In p) = not loaded
slot_fits loaded Out = loaded
slot_fits loaded Error = loaded
slot_fits loaded Underrun = loaded

abbrev pub wrong_slot : Core → Option Event → Bool
wrong_slot c None = false
wrong_slot c (Some Reset) = false
wrong_slot c (Some (Named i w)) = not (slot_fits (drive_at c i).loaded w)
wrong_slot c (Some (Own a)) = false

-- 1: a rule raises EXCEPTION: RESET's, that of a cartridge pulled, and that of an act where it says so.
abbrev pub raises : Core → Lent → Option Event → Bool
raises c l None = false
raises c l (Some Reset) = true
raises c l (Some (Named i w)) = is_out w
raises c l (Some (Own a)) = (act (staged_in c a l).staging (seat_of c (staged_in c a l)) a).moved.raised

abbrev pub answer_to : Core → Lent → List ℕ → Answer
answer_to c l event = (step_of c l event).turn.answer

-- The table, a line for each answer: it is given exactly when its condition holds and none tried before it does.
pub record Table (c : Core) (l : Lent) (event : List ℕ) : Type 0 where
  pub line5 : (answer_to c l event ≡ Impossible) ↔ (impossible c ≡ true)
  pub line6 : (answer_to c l event ≡ TooLong) ↔ ((impossible c ≡ false) × (too_long l ≡ true))
  pub line4 : (answer_to c l event ≡ Malformed) ↔ ((impossible c ≡ false) × (too_long l ≡ false) × (malformed (event_of event) ≡ true))
  pub line2 : (answer_to c l event ≡ OutOfStep)
      ↔ ((impossible c ≡ false) × (too_long l ≡ false) × (malformed (event_of event) ≡ false) × (out_of_step c (event_of event) ≡ true))
  pub line3 : (answer_to c l event ≡ WrongSlot)
      ↔ ((impossible c ≡ false) × (too_long l ≡ false) × (malformed (event_of event) ≡ false) × (out_of_step c (event_of event) ≡ false)
      × (wrong_slot c (event_of event) ≡ true))
  pub line1 : (answer_to c l event ≡ Raised)
      ↔ ((impossible c ≡ false) × (too_long l ≡ false) × (malformed (event_of event) ≡ false) × (out_of_step c (event_of event) ≡ false)
      × (wrong_slot c (event_of event) ≡ false) × (raises c l (event_of event) ≡ true))
  pub line0 : (answer_to c l event ≡ Taken)
      ↔ ((impossible c ≡ false) × (too_long l ≡ false) × (malformed (event_of event) ≡ false) × (out_of_step c (event_of event) ≡ false)
      × (wrong_slot c (event_of event) ≡ false) × (raises c l (event_of event) ≡ false))

abbrev pub AnswersByTheTable : Type 0
AnswersByTheTable = (c : Core) (l : Lent) (event : List ℕ) → Table c l event

-- By its number it is one of 0 to 6, and two answers of one number are the same answer.
abbrev pub OneOfSeven : Type 0
OneOfSeven = (a : Answer) → (row_of a).number ≤ 6

abbrev pub NumbersTellApart : Type 0
NumbersTellApart = (a b : Answer) → (row_of a).number ≡ (row_of b).number → a ≡ b
