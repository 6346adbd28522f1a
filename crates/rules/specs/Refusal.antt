-- What refuses an event: 5, 6, 4, 2, 3, tried in that order.
use Rattle.std.specs.Prelude.{ℕ, Bool, true, false, not, ◌&&◌, ◌||◌, length, leb, eqb, Option, None, Some}
use Rattle.basis.specs.Choice.{pick}
use Rattle.tape.specs.Record.{longest}
use Rattle.rules.specs.declared.drive.Drive.{Drive}
use Rattle.rules.specs.declared.drive.Mode.{Mode}
use Rattle.rules.specs.declared.drive.Mode.TheVariants.{Idle, Writing, Reading}
use Rattle.rules.specs.declared.phase.Phase.{Phase}
use Rattle.rules.specs.declared.phase.Phase.TheVariants.{Rest, Taking, Giving, Status}
use Rattle.rules.specs.declared.unit.Core.{Core}
use Rattle.rules.specs.declared.event.Act.{Act}
use Rattle.rules.specs.declared.event.Act.TheVariants.{Command, Give, Take, Online, Offline}
use Rattle.rules.specs.declared.event.What.{What}
use Rattle.rules.specs.declared.event.What.TheVariants.{In, Out, Error, Underrun}
use Rattle.rules.specs.declared.event.Event.{Event}
use Rattle.rules.specs.declared.event.Event.TheVariants.{Reset, Named, Own}
use Rattle.rules.specs.declared.answer.Answer.{Answer}
use Rattle.rules.specs.declared.answer.Answer.TheVariants.{Taken, OutOfStep, WrongSlot, Malformed, Impossible, TooLong}
use Rattle.rules.specs.Drive.{is_writing, is_reading, writes, reads}
use Rattle.rules.specs.Late.{late_blocks}
use Rattle.rules.specs.Phase.{last_place, report_size, at_rest}
use Rattle.rules.specs.Unit.{Lent, drive_at}

-- 5, possible or not. What each mode asks of the slot: a plug wants a cartridge, Reading too, and Writing wants one that is open.
abbrev pub mode_fits : Mode → Bool → Bool → Bool
mode_fits Idle loaded protected = loaded || not protected
mode_fits Writing loaded protected = loaded && not protected
mode_fits Reading loaded protected = loaded

-- Late blocks: at most two, and none outside Writing.
abbrev pub late_fits : Mode → ℕ → Bool
late_fits Idle late = eqb late 0
late_fits Writing late = leb late late_blocks
late_fits Reading late = eqb late 0

-- A head above 16,777,216 is impossible.
unfoldable pub possible_drive : Drive → Bool
possible_drive d = leb d.head longest && (mode_fits d.mode d.loaded d.protected && late_fits d.mode d.late)

-- How far a block or a report can be, and the mode that goes with a part block.
unfoldable pub possible_phase : Phase → Mode → Bool
possible_phase Rest m = true
possible_phase (Taking n) m = leb 1 n && (leb n last_place && is_writing m)
possible_phase (Giving n) m = leb 1 n && (leb n last_place && is_reading m)
possible_phase (Status k) m = leb 1 k && leb k report_size

-- A selected drive above 3 is impossible.
unfoldable pub possible : Core → Bool
possible c =
    leb c.port.selected 3
    && (possible_phase c.port.phase (drive_at c c.port.selected).mode
    && (possible_drive c.drive0 && (possible_drive c.drive1 && (possible_drive c.drive2 && possible_drive c.drive3))))

-- 6, too long or not: each of the four lent tapes is looked at, with a cartridge or without.
unfoldable pub short : Lent → Bool
short l =
    leb (length l.tape0) longest
    && (leb (length l.tape1) longest && (leb (length l.tape2) longest && leb (length l.tape3) longest))

-- 2, in step or not. Commands and the level of ONLINE want Rest.
-- A byte given wants a drive that writes, between blocks or in the middle of one.
abbrev pub takes : Phase → Bool → Bool
takes Rest writing = writing
takes (Taking n) writing = writing
takes (Giving n) writing = false
takes (Status k) writing = false

-- A byte taken wants octets or a part block, or at Rest a drive that reads.
abbrev pub gives : Phase → Bool → Bool
gives Rest reading = reading
gives (Taking n) reading = false
gives (Giving n) reading = true
gives (Status k) reading = true

abbrev pub in_step : Phase → Bool → Bool → Act → Bool
in_step ph writing reading (Command c) = at_rest ph
in_step ph writing reading (Give b) = takes ph writing
in_step ph writing reading Take = gives ph reading
in_step ph writing reading Online = at_rest ph
in_step ph writing reading Offline = at_rest ph

abbrev pub in_step_at : Phase → Drive → Act → Bool
in_step_at ph d a = in_step ph (writes d) (reads d) a

-- 3, the slot: a cartridge wants an empty one, everything else a full one. The answer of a slot with a cartridge in it, or without.
abbrev pub slot_answer : Bool → What → Answer
slot_answer loaded (In p) = pick (not loaded) Taken WrongSlot
slot_answer loaded Out = pick loaded Taken WrongSlot
slot_answer loaded Error = pick loaded Taken WrongSlot
slot_answer loaded Underrun = pick loaded Taken WrongSlot

-- What refuses an event in a possible record with short tapes; `Taken` where nothing does.
abbrev pub refusal_in : Core → Option Event → Answer
refusal_in c None = Malformed
refusal_in c (Some Reset) = Taken
refusal_in c (Some (Named i w)) = slot_answer (drive_at c i).loaded w
refusal_in c (Some (Own a)) = pick (in_step_at c.port.phase (drive_at c c.port.selected) a) Taken OutOfStep

-- 5 before 6, and 6 before the others.
abbrev pub refusal_by : Bool → Bool → Answer → Answer
refusal_by possible short a = pick possible (pick short a TooLong) Impossible

unfoldable pub refusal_of : Core → Lent → Option Event → Answer
refusal_of c l e = refusal_by (possible c) (short l) (refusal_in c e)
