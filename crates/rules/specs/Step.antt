-- One event: first whether it is refused, then what it does.
use Rattle.std.specs.Prelude.{ℕ, ◌≡◌, Bool, true, false, List, eqb, Option, None, Some}
use Rattle.basis.specs.Choice.{pick}
use Rattle.rules.specs.declared.phase.Phase.{Phase}
use Rattle.rules.specs.declared.unit.Core.{Core}
use Rattle.rules.specs.declared.event.Act.{Act}
use Rattle.rules.specs.declared.event.Act.TheVariants.{Command, Give, Take, Online, Offline}
use Rattle.rules.specs.declared.event.What.{What}
use Rattle.rules.specs.declared.event.Event.{Event}
use Rattle.rules.specs.declared.event.Event.TheVariants.{Reset, Named, Own}
use Rattle.rules.specs.declared.answer.Answer.{Answer}
use Rattle.rules.specs.declared.answer.Answer.TheVariants.{Taken, Raised}
use Rattle.rules.specs.declared.answer.Turn.{Turn}
use Rattle.rules.specs.Unit.{Lent, drive_at, put_drive, tape_at, put_tape, put_staging, at_phase, reset_core}
use Rattle.rules.specs.Event.{event_of}
use Rattle.rules.specs.Answer.{row_of}
use Rattle.rules.specs.Refusal.{refusal_of}
use Rattle.rules.specs.Lines.{lines_of, lines_down}
use Rattle.rules.specs.Order.{order_of}
use Rattle.rules.specs.Effect.{Seat, seat, Acted, fault_of, commanded}
use Rattle.rules.specs.Phase.{given_before}
use Rattle.rules.specs.Bytes.{staged_byte, byte_given, byte_taken}
use Rattle.rules.specs.Online.{levelled, dropped}
use Rattle.rules.specs.Slot.{befallen, is_out, phase_after}

-- The staging block as an act finds it: a byte given is in it.
abbrev pub staged : Phase → Act → List ℕ → List ℕ
staged ph (Command c) g = g
staged ph (Give b) g = staged_byte (given_before ph) b g
staged ph Take g = g
staged ph Online g = g
staged ph Offline g = g

-- What the selected drive does: a function of the staging block, the port, its own record and its own tape alone.
abbrev pub act : List ℕ → Seat → Act → Acted
act g s (Command c) = commanded s (order_of c) (fault_of s (order_of c))
act g s (Give b) = byte_given g s (given_before s.port.phase)
act g s Take = byte_taken s s.port.phase
act g s Online = levelled true s
act g s Offline = dropped s

-- What a step hands back: the answer, the byte, the lines and the core, and what was lent as it is left.
pub record Stepped : Type 0 where
  pub turn : Turn
  pub lent : Lent

abbrev pub stepped : Turn → Lent → Stepped
stepped r l = record { turn = r; lent = l }

-- Taken: answer 1 where a rule raised EXCEPTION on a drive, else 0.
abbrev pub taken_turn : Bool → Option ℕ → Core → Turn
taken_turn raised byte c = record { answer = pick raised Raised Taken; byte = byte; lines = lines_of c; core = c }

abbrev pub done : Bool → Option ℕ → Core → Lent → Stepped
done raised byte c l = stepped (taken_turn raised byte c) l

-- Refused: all as found, no byte; after 5 the three lines are down.
abbrev pub refused_turn : Answer → Core → Turn
refused_turn a c = record { answer = a; byte = None; lines = pick (row_of a).lines_down lines_down (lines_of c); core = c }

abbrev pub refused : Answer → Core → Lent → Stepped
refused a c l = stepped (refused_turn a c) l

-- The seat of the selected drive, and what its act leaves put back.
abbrev pub seat_of : Core → Lent → Seat
seat_of c l = seat c.port (drive_at c c.port.selected) (tape_at l c.port.selected)

abbrev pub landed : Core → Lent → Acted → Stepped
landed c l m =
    done m.moved.raised m.moved.byte (put_drive c m.moved.port c.port.selected m.moved.drive)
    (put_tape l c.port.selected m.tape)

-- An act of the host: the byte staged first, then the act of the selected drive.
abbrev pub staged_in : Core → Act → Lent → Lent
staged_in c a l = put_staging l (staged c.port.phase a l.staging)

abbrev pub owned : Core → Lent → Act → Stepped
owned c l a = landed c l (act l.staging (seat_of c l) a)

-- What befalls drive i: its record changed, and the phase where it is the selected one.
abbrev pub befallen_at : Core → ℕ → What → Core
befallen_at c i w =
    put_drive c (at_phase (phase_after w (eqb i c.port.selected) c.port.phase) c.port) i (befallen w (drive_at c i))

-- What an event does where nothing refuses it.
abbrev pub effect_of : Core → Lent → Option Event → Stepped
effect_of c l None = done false None c l
effect_of c l (Some Reset) = done true None (reset_core c) l
effect_of c l (Some (Named i w)) = done (is_out w) None (befallen_at c i w) l
effect_of c l (Some (Own a)) = owned c (staged_in c a l) a

abbrev pub settled : Core → Lent → Option Event → Answer → Stepped
settled c l e a = pick (row_of a).refuses (refused a c l) (effect_of c l e)

unfoldable pub step_by : Core → Lent → Option Event → Stepped
step_by c l e = settled c l e (refusal_of c l e)

unfoldable pub step_of : Core → Lent → List ℕ → Stepped
unfolding step_by
step_of c l event = step_by c l (event_of event)

-- THE CONTRACT of one event step: the turn that it hands back and every byte that it leaves of what it was lent.
pub record Steps (c : Core) (l : Lent) (event : List ℕ) (r : Turn) (l' : Lent) : Type 0 where
  pub is : stepped r l' ≡ step_of c l event
