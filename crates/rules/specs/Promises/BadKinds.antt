-- Which kind of bad record: the rules that give UDE, one by one, and BNL beside it exactly where nobody knows the kind at the head.
use Rattle.std.specs.Prelude.{ℕ, ◌+◌, ◌≤◌, ◌<◌, ◌≡◌, Bool, true, false, List, length, get_or, Err, Ok, Some}
use Rattle.tape.specs.declared.found.Why.{Why}
use Rattle.tape.specs.Walk.{passed}
use Rattle.tape.specs.Laws.{UnknownKind}
use Rattle.rules.specs.declared.unit.Core.{Core}
use Rattle.rules.specs.declared.phase.Phase.TheVariants.{Rest, Giving}
use Rattle.rules.specs.declared.event.Act.{Act}
use Rattle.rules.specs.declared.event.Act.TheVariants.{Command, Take}
use Rattle.rules.specs.declared.event.Event.TheVariants.{Own}
use Rattle.rules.specs.Unit.{Lent, Whole, drive_at, tape_at}
use Rattle.rules.specs.Event.{event_of}
use Rattle.rules.specs.Answer.{row_of}
use Rattle.rules.specs.Effect.{Seat}
use Rattle.rules.specs.Step.{Stepped, seat_of, step_of}
use Rattle.rules.specs.Run.{run, fresh_world}
use Rattle.rules.specs.Promises.Orders.{decided}

-- At offset h of the tape t a whole block, by its numbers.
pub record WholeBlock (t : List ℕ) (h : ℕ) : Type 0 where
  pub kind : get_or t h 0 ≡ 1
  pub ends : h + 513 ≤ length t

-- A bad record: of a kind that nobody knows (03 to FF), a block that runs past the tape's end, or above the tape.
pub data BadRecord (t : List ℕ) (h : ℕ) : Type 0 where
  unknown : UnknownKind t h → BadRecord t h
  runs_past : h < length t → get_or t h 0 ≡ 1 → length t < h + 513 → BadRecord t h
  above : length t < h → BadRecord t h

-- What gives UDE, where the selected drive sees s: the edge check of READ (80); READ FILE MARK (A0), where it stopped;
-- the edge check repeated at Rest; inside a block all but a whole block; the edge check behind byte 512.
pub data GivesUde (s : Seat) : Act → Type 0 where
  read : decided s 128 ≡ Ok tt → BadRecord s.tape s.drive.head → GivesUde s (Command 128)
  read_mark : decided s 160 ≡ Ok tt → (at : ℕ) (w : Why) → passed s.tape s.drive.head ≡ Err (record { at = at; why = w }) → BadRecord s.tape at
      → GivesUde s (Command 160)
  first_byte : s.port.phase ≡ Rest → BadRecord s.tape s.drive.head → GivesUde s Take
  inside : (n : ℕ) → s.port.phase ≡ Giving n → (WholeBlock s.tape s.drive.head → ⊥) → GivesUde s Take
  last_byte : s.port.phase ≡ Giving 511 → WholeBlock s.tape s.drive.head → BadRecord s.tape (s.drive.head + 513) → GivesUde s Take

-- An event that is taken, by such a rule.
pub record ByUde (c : Core) (l : Lent) (event : List ℕ) (x : Stepped) : Type 0 where
  pub act : Act
  pub event_is : event_of event ≡ Some (Own act)
  pub taken : (row_of x.turn.answer).refuses ≡ false
  pub rule : GivesUde (seat_of c l) act

-- Nobody knows the kind at the head that drive i is left with.
abbrev pub UnknownLeft : Stepped → ℕ → Type 0
UnknownLeft x i = UnknownKind (tape_at x.lent i) (drive_at x.turn.core i).head

-- A bit that stands stood before, or was given.
pub data StoodOr (before : Bool) (Given : Type 0) : Type 0 where
  stood : before ≡ true → StoodOr before Given
  given : Given → StoodOr before Given

-- What stands on drive i after the event stood before it or was given by its rule; and BNL does not come to stand there without UDE.
pub record OnlyGiven (c : Core) (l : Lent) (event : List ℕ) (x : Stepped) (i : ℕ) : Type 0 where
  pub ude : (drive_at x.turn.core i).latched.ude ≡ true → StoodOr (drive_at c i).latched.ude ((c.port.selected ≡ i) × ByUde c l event x)
  pub bnl : (drive_at x.turn.core i).latched.bnl ≡ true
      → StoodOr (drive_at c i).latched.bnl ((c.port.selected ≡ i) × ByUde c l event x × UnknownLeft x i)
  pub pair : ((drive_at c i).latched.bnl ≡ true → (drive_at c i).latched.ude ≡ true)
      → (drive_at x.turn.core i).latched.bnl ≡ true → (drive_at x.turn.core i).latched.ude ≡ true

-- UDE and BNL of one event that left x: they stand where its rule gives them, and nothing else gives them.
pub record KindTold (c : Core) (l : Lent) (event : List ℕ) (x : Stepped) : Type 0 where
  pub ude : ByUde c l event x → (drive_at x.turn.core c.port.selected).latched.ude ≡ true
  pub bnl : ByUde c l event x → UnknownLeft x c.port.selected → (drive_at x.turn.core c.port.selected).latched.bnl ≡ true
  pub only : (i : ℕ) → i ≤ 3 → OnlyGiven c l event x i

-- An event latches BNL exactly when its rule gives UDE and the kind at the head that it leaves is 03 to FF.
abbrev pub KindsTold : Type 0
KindsTold = (c : Core) (l : Lent) (event : List ℕ) → Whole l → KindTold c l event (step_of c l event)

-- From a fresh unit on BNL never stands without UDE, whatever came.
abbrev pub BnlWithUde : Type 0
BnlWithUde =
    (a b c d : List ℕ) (es : List (List ℕ)) (i : ℕ) → i ≤ 3
    → (drive_at (run (fresh_world a b c d) es).core i).latched.bnl ≡ true → (drive_at (run (fresh_world a b c d) es).core i).latched.ude ≡ true
