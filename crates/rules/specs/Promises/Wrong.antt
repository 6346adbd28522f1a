-- Easy to get wrong, as laws.
use Rattle.std.specs.Prelude.{ℕ, ◌≤◌, ◌/◌, ◌%◌, ◌≡◌, List, [], ◌∷◌, set, Some}
use Rattle.tape.specs.Record.{mark_record}
use Rattle.tape.specs.Recording.{recorded}
use Rattle.rules.specs.declared.drive.Drive.{Drive}
use Rattle.rules.specs.declared.phase.Phase.TheVariants.{Rest, Taking}
use Rattle.rules.specs.declared.event.Act.TheVariants.{Command, Give, Offline}
use Rattle.rules.specs.declared.event.What.TheVariants.{Out, Error, Underrun}
use Rattle.rules.specs.declared.event.Event.TheVariants.{Reset, Named, Own}
use Rattle.rules.specs.declared.answer.Answer.TheVariants.{Taken, Raised}
use Rattle.rules.specs.Drive.{counted}
use Rattle.rules.specs.Unit.{Whole, drive_at, tape_at}
use Rattle.rules.specs.Event.{event_of}
use Rattle.rules.specs.Octets.{cni, octet0}
use Rattle.rules.specs.Run.{World, after, run, turn_of}
use Rattle.rules.specs.Promises.Status.{ByStatus}

-- A bit stands in an octet.
abbrev pub Shows : ℕ → ℕ → Type 0
Shows weight octet = (octet / weight) % 2 ≡ 1

-- A run of events of which none is RESET and none READ STATUS to drive i.
abbrev pub Unread : ℕ → World → List (List ℕ) → Type 0
Unread i w [] = Prim.Unit
Unread i w (e ∷ es) = (event_of e ≡ Some Reset → ⊥) × (ByStatus w.core e i → ⊥) × Unread i (after w e) es

-- A pulled cartridge is reported even if another came in since, and whatever else came.
abbrev pub CniStillShows : Type 0
CniStillShows =
    (w : World) (i : ℕ) → i ≤ 3 → Whole w.lent → (e : List ℕ) → event_of e ≡ Some (Named i Out) → (turn_of w e).answer ≡ Raised
    → (es : List (List ℕ)) → Unread i (after w e) es → Shows cni (octet0 (drive_at (run (after w e) es).core i))

-- A count never touches octets that are made: port and octets stay, the drive has one more for its next report, and of the other kind as many.
pub record CountWaits (w : World) (e : List ℕ) (i : ℕ) (mine others : Drive → ℕ) : Type 0 where
  pub port : (after w e).core.port ≡ w.core.port
  pub count : mine (drive_at (after w e).core i) ≡ counted (mine (drive_at w.core i))
  pub beside : others (drive_at (after w e).core i) ≡ others (drive_at w.core i)

abbrev pub errors_of : Drive → ℕ
errors_of d = d.errors.0

abbrev pub underruns_of : Drive → ℕ
underruns_of d = d.underruns.0

abbrev pub UnderrunWaits : Type 0
UnderrunWaits =
    (w : World) (i : ℕ) (e : List ℕ) → event_of e ≡ Some (Named i Underrun) → (turn_of w e).answer ≡ Taken → CountWaits w e i underruns_of errors_of

abbrev pub ErrorWaits : Type 0
ErrorWaits = (w : World) (i : ℕ) (e : List ℕ) → event_of e ≡ Some (Named i Error) → (turn_of w e).answer ≡ Taken → CountWaits w e i errors_of underruns_of

-- A part block left in staging must not begin another block: the first byte is placed at 0 whatever staging holds.
pub record PlacedFirst (w : World) (e : List ℕ) (b : ℕ) : Type 0 where
  pub staging : (after w e).lent.staging ≡ set w.lent.staging 0 b
  pub phase : (after w e).core.port.phase ≡ Taking 1

abbrev pub FirstByteFirst : Type 0
FirstByteFirst =
    (w : World) (b : ℕ) (e : List ℕ) → event_of e ≡ Some (Own (Give b)) → (turn_of w e).answer ≡ Taken → w.core.port.phase ≡ Rest → PlacedFirst w e b

-- ONLINE dropped rewinds no drive that is not selected.
abbrev pub OfflineRewindsNoOther : Type 0
OfflineRewindsNoOther =
    (w : World) (i : ℕ) → i ≤ 3 → Whole w.lent → (e : List ℕ) → event_of e ≡ Some (Own Offline) → (w.core.port.selected ≡ i → ⊥)
    → drive_at (after w e).core i ≡ drive_at w.core i

-- A mark is not written twice: WRITE FILE MARK (60), then ONLINE dropped, records one.
abbrev pub OneMarkOnly : Type 0
OneMarkOnly =
    (w : World) → Whole w.lent → (e f : List ℕ) → event_of e ≡ Some (Own (Command 96)) → (turn_of w e).answer ≡ Taken → event_of f ≡ Some (Own Offline)
    → tape_at (after (after w e) f).lent w.core.port.selected
    ≡ recorded (tape_at w.lent w.core.port.selected) (drive_at w.core w.core.port.selected).head mark_record
