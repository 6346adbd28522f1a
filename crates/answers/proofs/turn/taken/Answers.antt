use Rattle.basis.specs.Tests.{tests}
use Rattle.basis.specs.Choice.{pick}
use Rattle.answers.proofs.turn.taken.Goals as goal

pub returns-then-raised : goal.returns-then-raised
unfolding pick
returns-then-raised c = search tests

pub returns-else-raised : goal.returns-else-raised
unfolding pick
returns-else-raised c = search tests
