-- Each public contract leaves one outcome: any two that it allows are equal.
use Rattle.std.specs.Prelude.{ℕ, ◌≡◌, Bool, ◌&&◌, List, leb, Option, Some}
use Rattle.basis.specs.Choice.{pick}
use Rattle.tape.specs.Record.{longest}
use Rattle.rules.specs.declared.drive.Drive.{Drive}
use Rattle.rules.specs.declared.phase.Phase.{Phase}
use Rattle.rules.specs.declared.unit.Core.{Core}
use Rattle.rules.specs.declared.event.Act.{Act}
use Rattle.rules.specs.declared.event.Event.{Event}
use Rattle.rules.specs.declared.event.Event.TheVariants.{Reset, Named}
use Rattle.rules.specs.declared.event.What.{What}
use Rattle.rules.specs.declared.answer.Answer.{Answer}
use Rattle.rules.specs.declared.answer.Answer.TheVariants.{Taken}
use Rattle.rules.specs.declared.answer.Lines.{Lines}
use Rattle.rules.specs.declared.answer.Turn.{Turn}
use Rattle.rules.specs.Event.{event_of}
use Rattle.rules.specs.Lines.{lines_of}
use Rattle.rules.specs.Refusal.{possible_drive, possible_phase, possible, in_step, slot_answer, refusal_by}
use Rattle.rules.specs.Step.{taken_turn, refused_turn}
use Rattle.rules.specs.Unit.{drive_at, moved_to}
use Rattle.answers.specs.declared.looks.Seen.{Seen}
use Rattle.answers.specs.Looks.{look_of}
use Rattle.answers.specs.Moved.{moved_on}
use Rattle.answers.specs.Settled.{Settles}
use Rattle.answers.specs.Place.{given_place, taken_place, octets_left, body_of}

-- None of four lengths is above the longest.
abbrev pub short_by : ℕ → ℕ → ℕ → ℕ → Bool
short_by a b c d = leb a longest && (leb b longest && (leb c longest && leb d longest))

-- Two turns that settle one event.
abbrev pub OneTurn : Core → Bool → Bool → Option Event → Type 0
OneTurn c p s e = (r r' : Turn) → Settles c p s e r → Settles c p s e r' → r ≡ r'

pub record OneOutcome : Type 0 where
  pub event_of : (l : List ℕ) (r r' : Option Event) → r ≡ event_of l → r' ≡ event_of l → r ≡ r'
  pub lines : (c : Core) (r r' : Lines) → r ≡ lines_of c → r' ≡ lines_of c → r ≡ r'
  pub given_place : (ph : Phase) (l : List ℕ) (r r' : Option (ℕ × ℕ)) → r ≡ given_place ph l → r' ≡ given_place ph l → r ≡ r'
  pub taken_place : (ph : Phase) (l : List ℕ) (r r' : Option ℕ) → r ≡ taken_place ph l → r' ≡ taken_place ph l → r ≡ r'
  pub octets_left : (ph : Phase) (l : List ℕ) (r r' : Option ℕ) → r ≡ octets_left ph l → r' ≡ octets_left ph l → r ≡ r'
  pub body : (l : List ℕ) (r r' : ℕ) → r ≡ body_of l → r' ≡ body_of l → r ≡ r'
  pub possible_drive : (d : Drive) (r r' : Bool) → r ≡ possible_drive d → r' ≡ possible_drive d → r ≡ r'
  pub possible_at : (ph : Phase) (d : Drive) (r r' : Bool) → r ≡ possible_phase ph d.mode → r' ≡ possible_phase ph d.mode → r ≡ r'
  pub possible : (c : Core) (r r' : Bool) → r ≡ possible c → r' ≡ possible c → r ≡ r'
  pub short : (a b c d : ℕ) (r r' : Bool) → r ≡ short_by a b c d → r' ≡ short_by a b c d → r ≡ r'
  pub calm : (p s : Bool) (r r' : Bool) → r ≡ (p && s) → r' ≡ (p && s) → r ≡ r'
  pub in_step : (ph : Phase) (w g : Bool) (a : Act) (r r' : Bool) → r ≡ in_step ph w g a → r' ≡ in_step ph w g a → r ≡ r'
  pub slot_answer : (loaded : Bool) (w : What) (r r' : Answer) → r ≡ slot_answer loaded w → r' ≡ slot_answer loaded w → r ≡ r'
  pub unless : (fits : Bool) (a r r' : Answer) → r ≡ pick fits Taken a → r' ≡ pick fits Taken a → r ≡ r'
  pub refusal_by : (p s : Bool) (a r r' : Answer) → r ≡ refusal_by p s a → r' ≡ refusal_by p s a → r ≡ r'
  pub look : (c : Core) (i : ℕ) (r r' : Seen) → r ≡ look_of (drive_at c i) → r' ≡ look_of (drive_at c i) → r ≡ r'
  pub slot : (c : Core) (p s : Bool) (i : ℕ) (w : What) → OneTurn c p s (Some (Named i w))
  pub reset : (c : Core) (p s : Bool) → OneTurn c p s (Some Reset)
  pub moved_to : (c : Core) (ph : Phase) (r r' : Core) → r ≡ moved_to c ph → r' ≡ moved_to c ph → r ≡ r'
  pub moved_on : (c : Core) (ph : Phase) (b : Option ℕ) (direction : Bool) (r r' : Turn)
      → r ≡ moved_on c ph b direction → r' ≡ moved_on c ph b direction → r ≡ r'
  pub done : (raised : Bool) (b : Option ℕ) (c : Core) (r r' : Turn)
      → r ≡ taken_turn raised b c → r' ≡ taken_turn raised b c → r ≡ r'
  pub refuse : (a : Answer) (c : Core) (r r' : Turn) → r ≡ refused_turn a c → r' ≡ refused_turn a c → r ≡ r'
