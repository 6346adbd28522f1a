-- Demand 2: what raises a drive's EXCEPTION, and what alone takes it, the latched bits and the counts away.
use Rattle.std.specs.Prelude.{ℕ, ◌+◌, ◌*◌, ◌≤◌, ◌≡◌, true, false, List, get_or, Some}
use Rattle.rules.specs.declared.drive.Drive.{Drive}
use Rattle.rules.specs.declared.drive.Latched.{Latched}
use Rattle.rules.specs.declared.unit.Core.{Core}
use Rattle.rules.specs.declared.event.Act.TheVariants.{Command}
use Rattle.rules.specs.declared.event.Event.TheVariants.{Reset, Own}
use Rattle.rules.specs.declared.answer.Answer.TheVariants.{Taken, Raised}
use Rattle.rules.specs.Unit.{Lent, Whole, drive_at}
use Rattle.rules.specs.Event.{event_of}
use Rattle.rules.specs.Phase.{at_rest}
use Rattle.rules.specs.Octets.{octets_of}
use Rattle.rules.specs.Step.{step_of}
use Rattle.rules.specs.Promises.Table.{answer_to}

-- The drive with number i after an event.
abbrev pub drive_after : Core → Lent → List ℕ → ℕ → Drive
drive_after c l event i = drive_at (step_of c l event).turn.core i

-- READ STATUS (C0) to drive i: that drive selected, the unit at Rest.
pub record ByStatus (c : Core) (event : List ℕ) (i : ℕ) : Type 0 where
  pub event_is : event_of event ≡ Some (Own (Command 192))
  pub selected : c.port.selected ≡ i
  pub rest : at_rest c.port.phase ≡ true

-- A drive's EXCEPTION falls only by READ STATUS.
abbrev pub ExceptionFalls : Type 0
ExceptionFalls =
    (c : Core) (l : Lent) (event : List ℕ) (i : ℕ) → i ≤ 3 → Whole l
    → (drive_at c i).exception ≡ true → (drive_after c l event i).exception ≡ false → ByStatus c event i

-- Answer 1: EXCEPTION stands on a drive. Answer 0: it rose on none.
pub record StandsOnOne (c : Core) : Type 0 where
  pub drive : ℕ
  pub real : drive ≤ 3
  pub up : (drive_at c drive).exception ≡ true

abbrev pub RaisedStands : Type 0
RaisedStands = (c : Core) (l : Lent) (event : List ℕ) → Whole l → answer_to c l event ≡ Raised → StandsOnOne (step_of c l event).turn.core

abbrev pub TakenRaisesNone : Type 0
TakenRaisesNone =
    (c : Core) (l : Lent) (event : List ℕ) (i : ℕ) → i ≤ 3 → Whole l
    → answer_to c l event ≡ Taken → (drive_after c l event i).exception ≡ true → (drive_at c i).exception ≡ true

-- Every bit that stood stands, and no count is lower.
pub record BitsStay (k l : Latched) : Type 0 where
  pub cni : k.cni ≡ true → l.cni ≡ true
  pub eom : k.eom ≡ true → l.eom ≡ true
  pub ude : k.ude ≡ true → l.ude ≡ true
  pub bnl : k.bnl ≡ true → l.bnl ≡ true
  pub fil : k.fil ≡ true → l.fil ≡ true
  pub ill : k.ill ≡ true → l.ill ≡ true
  pub ndt : k.ndt ≡ true → l.ndt ≡ true
  pub por : k.por ≡ true → l.por ≡ true

pub record ReportStays (d e : Drive) : Type 0 where
  pub bits : BitsStay d.latched e.latched
  pub errors : d.errors.0 ≤ e.errors.0
  pub underruns : d.underruns.0 ≤ e.underruns.0

-- Counters and latched bits are cleared by READ STATUS and RESET alone.
abbrev pub ClearedOnly : Type 0
ClearedOnly =
    (c : Core) (l : Lent) (event : List ℕ) (i : ℕ) → i ≤ 3 → Whole l
    → (event_of event ≡ Some Reset → ⊥) → (ByStatus c event i → ⊥) → ReportStays (drive_at c i) (drive_after c l event i)

-- A report tells both counters as numbers, each by 256 times its high octet and its low one: octets 2 and 3 the errors, 4 and 5 the underruns.
pub record CountsTold (d : Drive) (octets : List ℕ) : Type 0 where
  pub errors : 256 * get_or octets 2 0 + get_or octets 3 0 ≡ d.errors.0
  pub underruns : 256 * get_or octets 4 0 + get_or octets 5 0 ≡ d.underruns.0

abbrev pub ReportTellsCounts : Type 0
ReportTellsCounts = (d : Drive) → CountsTold d (octets_of d)
