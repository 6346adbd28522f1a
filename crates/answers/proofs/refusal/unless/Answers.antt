use Rattle.basis.specs.Tests.{tests}
use Rattle.basis.specs.Choice.{pick}
use Rattle.answers.proofs.refusal.unless.Goals as goal

pub returns-then-fits : goal.returns-then-fits
unfolding pick
returns-then-fits c = search tests

pub returns-else-fits : goal.returns-else-fits
unfolding pick
returns-else-fits c = search tests
