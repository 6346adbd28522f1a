use Rattle.basis.specs.Tests.{tests}
use Rattle.basis.specs.Choice.{pick}
use Rattle.orders.proofs.late.spare_of.Goals as goal

pub returns-then-late-eq0 : goal.returns-then-late-eq0
unfolding pick
returns-then-late-eq0 c = search tests

pub returns-else-late-eq0 : goal.returns-else-late-eq0
unfolding pick
returns-else-late-eq0 c = search tests
