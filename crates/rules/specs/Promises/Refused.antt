-- Demand 1: a refused event leaves the unit and all four tapes as they were, and gives no byte.
use Rattle.std.specs.Prelude.{ℕ, ◌≡◌, true, false, List, Ok, Some, None, is_some}
use Rattle.tape.specs.declared.found.Kind.TheVariants.{Block}
use Rattle.tape.specs.Record.{found_at}
use Rattle.rules.specs.declared.unit.Core.{Core}
use Rattle.rules.specs.declared.phase.Phase.TheVariants.{Giving}
use Rattle.rules.specs.declared.event.Act.TheVariants.{Take}
use Rattle.rules.specs.declared.event.Event.TheVariants.{Own}
use Rattle.rules.specs.declared.answer.Answer.TheVariants.{Taken, Raised, Impossible}
use Rattle.rules.specs.Unit.{Lent, Whole, drive_at, tape_at}
use Rattle.rules.specs.Event.{event_of}
use Rattle.rules.specs.Answer.{row_of}
use Rattle.rules.specs.Lines.{lines_of, lines_down}
use Rattle.rules.specs.Step.{Stepped, step_of}
use Rattle.rules.specs.Promises.Table.{answer_to}

pub record AsFound (c : Core) (l : Lent) (s : Stepped) : Type 0 where
  pub core : s.turn.core ≡ c
  pub lent : s.lent ≡ l
  pub byte : s.turn.byte ≡ None

abbrev pub RefusedKeeps : Type 0
RefusedKeeps = (c : Core) (l : Lent) (event : List ℕ) → (row_of (answer_to c l event)).refuses ≡ true → AsFound c l (step_of c l event)

-- After answer 5 the three lines are down. After every other answer they are those of the record handed back.
abbrev pub LinesDownAfter5 : Type 0
LinesDownAfter5 = (c : Core) (l : Lent) (event : List ℕ) → answer_to c l event ≡ Impossible → (step_of c l event).turn.lines ≡ lines_down

abbrev pub LinesOfTheRecord : Type 0
LinesOfTheRecord =
    (c : Core) (l : Lent) (event : List ℕ) → (answer_to c l event ≡ Impossible → ⊥)
    → (step_of c l event).turn.lines ≡ lines_of (step_of c l event).turn.core

-- The byte: it comes only with an answer that may give one. It comes with event 03 answered 0,
-- and with answer 1 as byte 512 of a whole block; and so it does not come otherwise.
pub record LastOfBlock (c : Core) (l : Lent) : Type 0 where
  pub place : c.port.phase ≡ Giving 511
  pub whole : found_at (tape_at l c.port.selected) (drive_at c c.port.selected).head ≡ Ok Block

pub record ByteRules (c : Core) (l : Lent) (event : List ℕ) (s : Stepped) : Type 0 where
  pub row : is_some s.turn.byte ≡ true → (row_of s.turn.answer).may_give ≡ true
  pub taken : is_some s.turn.byte ≡ true → event_of event ≡ Some (Own Take)
  pub last : is_some s.turn.byte ≡ true → s.turn.answer ≡ Raised → LastOfBlock c l
  pub comes : event_of event ≡ Some (Own Take) → s.turn.answer ≡ Taken → is_some s.turn.byte ≡ true
  pub last_comes : event_of event ≡ Some (Own Take) → (row_of s.turn.answer).refuses ≡ false → LastOfBlock c l → is_some s.turn.byte ≡ true

abbrev pub BytesExactly : Type 0
BytesExactly = (c : Core) (l : Lent) (event : List ℕ) → Whole l → ByteRules c l event (step_of c l event)
