use Rattle.basis.specs.Choice.{pick}
use Rattle.trace.specs.Line.{or_dash}
use Rattle.trace.proofs.line.or_dash.Goals as goal

pub returns-then-b : goal.returns-then-b
unfolding or_dash pick
returns-then-b c = rw c.if-b.true

pub returns-else-b : goal.returns-else-b
unfolding or_dash pick
returns-else-b c = rw c.if-b.false
