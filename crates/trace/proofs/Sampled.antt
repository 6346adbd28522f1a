-- Document 01's sample, by computing it.
use mathlib.Core.Path.{refl}
use Rattle.basis.specs.Choice.{pick}
use Rattle.tape.specs.Record.{of_kind, found_at}
use Rattle.rules.specs.Drive.{counted}
use Rattle.rules.specs.Unit.{one_of, put_at, put_last}
use Rattle.rules.specs.Event.{bare_event, bodied_event, event_of}
use Rattle.rules.specs.Refusal.{possible_drive, possible_phase, possible, short, refusal_of}
use Rattle.rules.specs.Lines.{lines_of}
use Rattle.rules.specs.Order.{order_of, illegal, fault_by}
use Rattle.rules.specs.Octets.{octets_of}
use Rattle.rules.specs.Effect.{fault_of}
use Rattle.rules.specs.Bytes.{octet_taken}
use Rattle.rules.specs.Step.{step_by, step_of}
use Rattle.rules.specs.Run.{after, turn_of}
use Rattle.trace.specs.Cut.{kind_size, cut_by, cut_of, next_size, events_of}
use Rattle.basis.specs.Text.{digit, decimal}
use Rattle.trace.specs.Line.{or_dash, fields_of, line_of}
use Rattle.trace.specs.Play.{line_in, stops}
use Rattle.trace.specs.Sample.{SampleTold}

pub sample_told : SampleTold
unfolding pick of_kind found_at counted one_of put_at put_last bare_event bodied_event event_of possible_drive possible_phase possible short refusal_of
    lines_of order_of illegal fault_by octets_of fault_of octet_taken step_by step_of after turn_of kind_size cut_by cut_of next_size
    events_of digit decimal or_dash fields_of line_of line_in stops
sample_told = record { text = refl; count = refl; stopped = refl }
