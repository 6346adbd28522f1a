use Rattle.trace.proofs.Turning.{stops_not}
use Rattle.trace.specs.Play.{stops}
use Rattle.trace.proofs.run.stops.Goals as goal

pub returns-in-Malformed : goal.returns-in-Malformed
unfolding stops
returns-in-Malformed c = rw c.in-Malformed.is

pub returns-in_default : goal.returns-in_default
returns-in_default c = stops_not c.args.answer c.in_default.not-Malformed
