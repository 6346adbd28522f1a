-- Plug open: what changes the selected drive's tape, and when.
use Rattle.std.specs.Prelude.{ℕ, ◌+◌, ◌≤◌, ◌≡◌, true, false, List, length, set, take, replicate, eqb, Some}
use Rattle.basis.specs.Choice.{pick}
use Rattle.tape.specs.Record.{mark_size, block_size, mark_record, block_record}
use Rattle.tape.specs.Recording.{recorded}
use Rattle.tape.specs.Laws.{Kept}
use Rattle.rules.specs.declared.unit.Core.{Core}
use Rattle.rules.specs.declared.phase.Phase.TheVariants.{Taking}
use Rattle.rules.specs.declared.event.Act.TheVariants.{Command, Give, Offline}
use Rattle.rules.specs.declared.event.Event.TheVariants.{Own}
use Rattle.rules.specs.declared.answer.Answer.TheVariants.{Taken}
use Rattle.rules.specs.Drive.{writes}
use Rattle.rules.specs.Unit.{Lent, Whole, drive_at, tape_at}
use Rattle.rules.specs.Event.{event_of}
use Rattle.rules.specs.Answer.{row_of}
use Rattle.rules.specs.Step.{step_of}
use Rattle.rules.specs.Promises.Table.{answer_to}
use Rattle.rules.specs.Promises.Plug.{tape_after}

-- An order that is accepted: the command octet k, answered 0. ERASE is 22, WRITE FILE MARK 60.
pub record Accepted (c : Core) (l : Lent) (event : List ℕ) (k : ℕ) : Type 0 where
  pub order : event_of event ≡ Some (Own (Command k))
  pub answer : answer_to c l event ≡ Taken

-- The line falls while the selected drive is Writing without EXCEPTION, and is answered 0.
pub record LineFalls (c : Core) (l : Lent) (event : List ℕ) : Type 0 where
  pub line : event_of event ≡ Some (Own Offline)
  pub up : c.port.online ≡ true
  pub writing : writes (drive_at c c.port.selected) ≡ true
  pub answer : answer_to c l event ≡ Taken

-- The room that a block asks for: 1541 bytes from the head on, in a late WRITE 514.
abbrev pub block_asks : ℕ → ℕ
block_asks late = pick (eqb late 0) 1541 514

-- The 512th byte of a block is given and taken, with room for the block or without.
pub record LastGiven (c : Core) (l : Lent) (event : List ℕ) (b : ℕ) : Type 0 where
  pub byte : event_of event ≡ Some (Own (Give b))
  pub place : c.port.phase ≡ Taking 511
  pub taken : (row_of (answer_to c l event)).refuses ≡ false

-- The same with room, whether or not EOM follows.
pub record LastByte (c : Core) (l : Lent) (event : List ℕ) (b : ℕ) : Type 0 where
  pub given : LastGiven c l event b
  pub room : (drive_at c c.port.selected).head + block_asks (drive_at c c.port.selected).late ≤ length (tape_at l c.port.selected)

-- The tape with every byte 0; with a mark at the head; and with a block, whose last byte is b and whose others are the 511 given before.
abbrev pub all_zero : Core → Lent → List ℕ
all_zero c l = replicate (length (tape_at l c.port.selected)) 0

abbrev pub mark_there : Core → Lent → List ℕ
mark_there c l = recorded (tape_at l c.port.selected) (drive_at c c.port.selected).head mark_record

abbrev pub block_there : Core → Lent → ℕ → List ℕ
block_there c l b = recorded (tape_at l c.port.selected) (drive_at c c.port.selected).head (block_record (set l.staging 511 b))

-- Where its tape is changed, it is so and for that reason; and there was room.
pub data Change (c : Core) (l : Lent) (event : List ℕ) : List ℕ → Type 0 where
  unchanged : Change c l event (tape_at l c.port.selected)
  erased_whole : Accepted c l event 34 → Change c l event (all_zero c l)
  mark_made : Accepted c l event 96 → (drive_at c c.port.selected).head + 1 ≤ length (tape_at l c.port.selected)
      → Change c l event (mark_there c l)
  mark_left : LineFalls c l event → (drive_at c c.port.selected).head + 1 ≤ length (tape_at l c.port.selected)
      → Change c l event (mark_there c l)
  block_made : (b : ℕ) → LastByte c l event b → Change c l event (block_there c l b)

abbrev pub OneChange : Type 0
OneChange = (c : Core) (l : Lent) (event : List ℕ) → Whole l → Change c l event (tape_after c l event c.port.selected)

-- And where there is that reason, it is so changed.
pub record Happens (c : Core) (l : Lent) (event : List ℕ) (t : List ℕ) : Type 0 where
  pub erases : Accepted c l event 34 → t ≡ all_zero c l
  pub marks : Accepted c l event 96 → t ≡ mark_there c l
  pub leaves_mark : LineFalls c l event → t ≡ mark_there c l
  pub blocks : (b : ℕ) → LastByte c l event b → t ≡ block_there c l b

abbrev pub RecordingHappens : Type 0
RecordingHappens = (c : Core) (l : Lent) (event : List ℕ) → Whole l → Happens c l event (tape_after c l event c.port.selected)

-- An order that is not accepted changes no byte of any tape, nor of the staging block: ERASE that a test stops erases nothing.
abbrev pub OnlyAcceptedOrders : Type 0
OnlyAcceptedOrders =
    (c : Core) (l : Lent) (event : List ℕ) (k : ℕ) → Whole l → event_of event ≡ Some (Own (Command k)) → (answer_to c l event ≡ Taken → ⊥)
    → (step_of c l event).lent ≡ l

-- After a recording every byte before the head is as it was, the record stands at the head and the data ends after it.
abbrev pub RecordingCutsOff : Type 0
RecordingCutsOff =
    ((t : List ℕ) (h : ℕ) → h + mark_size ≤ length t → Kept t mark_record h)
    × ((t g : List ℕ) (h : ℕ) → length g ≡ 512 → h + block_size ≤ length t → Kept t (block_record g) h)

-- Nothing but an accepted ERASE changes a byte before the selected drive's head.
abbrev pub BeforeTheHead : Type 0
BeforeTheHead =
    (c : Core) (l : Lent) (event : List ℕ) → Whole l → (Accepted c l event 34 → ⊥)
    → take (drive_at c c.port.selected).head (tape_after c l event c.port.selected)
    ≡ take (drive_at c c.port.selected).head (tape_at l c.port.selected)
