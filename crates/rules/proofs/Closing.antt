-- The trial that was closed past early warning comes back, as any strike that stands on the tape does.
use mathlib.Core.Path.{refl}
use Rattle.basis.specs.Choice.{pick}
use Rattle.tape.specs.Record.{of_kind, found_at}
use Rattle.tape.specs.Recording.{recorded}
use Rattle.tape.specs.Walk.{walk, trail}
use Rattle.rules.specs.Drive.{counted}
use Rattle.rules.specs.Late.{allowed_at, goes_on}
use Rattle.rules.specs.Unit.{one_of, put_at, put_last}
use Rattle.rules.specs.Event.{bare_event, bodied_event, event_of}
use Rattle.rules.specs.Refusal.{possible_drive, possible_phase, possible, short, refusal_of}
use Rattle.rules.specs.Lines.{lines_of}
use Rattle.rules.specs.Order.{order_of, illegal, fault_by}
use Rattle.rules.specs.Edge.{checked}
use Rattle.rules.specs.Octets.{octets_of}
use Rattle.rules.specs.Effect.{fault_of}
use Rattle.rules.specs.Bytes.{staged_byte, after_block, stored, handed, octet_taken}
use Rattle.rules.specs.Online.{dropped}
use Rattle.rules.specs.Step.{step_by, step_of}
use Rattle.rules.specs.Promises.Runs.{command}
use Rattle.rules.specs.Run.{after, turn_of, run}
use Rattle.rules.specs.Promises.Closing.{closed, three_blocks, TrialComesBack}
use Rattle.rules.proofs.Handed.{strike_handed_out}

-- from its beginning, ready to read
pub trial_comes_back : TrialComesBack
unfolding pick of_kind found_at recorded walk trail counted one_of put_at put_last bare_event bodied_event event_of possible_drive possible_phase possible
    short refusal_of lines_of order_of illegal fault_by checked octets_of fault_of staged_byte allowed_at goes_on after_block stored handed octet_taken
    dropped step_by step_of after turn_of
trial_comes_back =
    strike_handed_out (run closed (command 33)) three_blocks (refl, (refl, (refl, tt)))
    (record {
      works = record { possible = refl; short = refl; whole = refl };
      rest = refl;
      online = refl;
      loaded = refl;
      idle = refl;
      calm = refl;
    }) refl
