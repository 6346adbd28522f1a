-- An act of the host, settled with the record and the tape of the selected drive at hand.
use Rattle.std.specs.Prelude.{Bool, List, ℕ}
use Rattle.basis.specs.Choice.{pick}
use Rattle.rules.specs.declared.drive.Drive.{Drive}
use Rattle.rules.specs.declared.unit.Core.{Core}
use Rattle.rules.specs.declared.event.Act.{Act}
use Rattle.rules.specs.declared.answer.Answer.{Answer}
use Rattle.rules.specs.declared.answer.Answer.TheVariants.{Taken, OutOfStep}
use Rattle.rules.specs.declared.answer.Turn.{Turn}
use Rattle.rules.specs.Unit.{put_drive}
use Rattle.rules.specs.Answer.{row_of}
use Rattle.rules.specs.Refusal.{in_step_at, refusal_by}
use Rattle.rules.specs.Effect.{seat, Acted}
use Rattle.rules.specs.Step.{staged, act, taken_turn, refused_turn}

-- What an act hands back, and what it leaves of the staging block and of the selected drive's tape.
pub record OwnTurn : Type 0 where
  pub turn : Turn
  pub staging : List ℕ
  pub tape : List ℕ

abbrev pub own_turn : Turn → List ℕ → List ℕ → OwnTurn
own_turn r g t = record { turn = r; staging = g; tape = t }

abbrev pub own_answer : Core → Bool → Bool → Drive → Act → Answer
own_answer c possible short d a = refusal_by possible short (pick (in_step_at c.port.phase d a) Taken OutOfStep)

abbrev pub landed_on : Core → List ℕ → Acted → OwnTurn
landed_on c g m =
    own_turn (taken_turn m.moved.raised m.moved.byte (put_drive c m.moved.port c.port.selected m.moved.drive))
    g m.tape

-- Refused, or the byte staged and then the act.
unfoldable pub own_by : Core → Bool → Bool → Drive → List ℕ → List ℕ → Act → OwnTurn
own_by c possible short d g t a =
    pick (row_of (own_answer c possible short d a)).refuses
    (own_turn (refused_turn (own_answer c possible short d a) c) g t)
    (landed_on c (staged c.port.phase a g) (act (staged c.port.phase a g) (seat c.port d t) a))
