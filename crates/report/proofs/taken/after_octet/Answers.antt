use Rattle.basis.specs.Tests.{tests}
use Rattle.basis.specs.Choice.{pick}
use Rattle.report.proofs.taken.after_octet.Goals as goal

pub returns-then-k-le1 : goal.returns-then-k-le1
unfolding pick
returns-then-k-le1 c = search tests

pub returns-else-k-le1 : goal.returns-else-k-le1
unfolding pick
returns-else-k-le1 c = search tests
