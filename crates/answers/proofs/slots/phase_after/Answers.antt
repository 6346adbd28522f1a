use Rattle.basis.specs.Choice.{pick}
use Rattle.answers.proofs.slots.phase_after.Goals as goal

pub returns-then-here : goal.returns-then-here
unfolding pick
returns-then-here c = rw (c.part_dropped.ensures, c.if-here.true)

pub returns-else-here : goal.returns-else-here
unfolding pick
returns-else-here c = rw c.if-here.false
