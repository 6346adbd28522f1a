-- The runs, computed.
use mathlib.Core.Path.{refl}
use Rattle.basis.specs.Choice.{pick}
use Rattle.tape.specs.Record.{of_kind, found_at}
use Rattle.tape.specs.Recording.{recorded}
use Rattle.tape.specs.Walk.{walk, trail}
use Rattle.rules.specs.Drive.{counted}
use Rattle.rules.specs.Late.{allowed_at, goes_on}
use Rattle.rules.specs.Unit.{one_of, put_at, put_last}
use Rattle.rules.specs.Event.{bare_event, bodied_event, event_of}
use Rattle.rules.specs.Refusal.{possible_drive, possible_phase, possible, short, refusal_of}
use Rattle.rules.specs.Lines.{lines_of}
use Rattle.rules.specs.Order.{order_of, illegal, fault_by}
use Rattle.rules.specs.Edge.{checked}
use Rattle.rules.specs.Octets.{octets_of}
use Rattle.rules.specs.Effect.{fault_of}
use Rattle.rules.specs.Bytes.{staged_byte, after_block, stored, handed, octet_taken}
use Rattle.rules.specs.Online.{dropped}
use Rattle.rules.specs.Step.{step_by, step_of}
use Rattle.rules.specs.Run.{after, turn_of}
use Rattle.rules.specs.Reach.{reaches}
use Rattle.rules.specs.Promises.Samples.{Samples}
use Rattle.rules.specs.Promises.Runs.{StarredRunsHold, RunsToCheckHold}
use Rattle.rules.specs.Promises.Closing.{WarningComes, TrialCloses}

all_hold : StarredRunsHold × RunsToCheckHold × Samples × WarningComes × TrialCloses
unfolding pick of_kind found_at recorded walk trail counted one_of put_at put_last bare_event bodied_event event_of possible_drive possible_phase possible
    short refusal_of lines_of order_of illegal fault_by checked octets_of fault_of staged_byte allowed_at goes_on after_block stored handed octet_taken
    dropped step_by step_of after turn_of reaches
all_hold = (refl, refl, record { plain = refl; busy = refl; busy_tape = refl; shorter = refl; shorter_tape = refl }, refl, refl)

pub starred_runs_hold : StarredRunsHold
starred_runs_hold = all_hold.0

pub runs_to_check_hold : RunsToCheckHold
runs_to_check_hold = all_hold.1

pub samples : Samples
samples = all_hold.2

pub warning_comes : WarningComes
warning_comes = all_hold.3

pub trial_closes : TrialCloses
trial_closes = all_hold.4
