use Rattle.basis.specs.Tests.{tests}
use Rattle.basis.specs.Choice.{pick}
use Rattle.answers.proofs.refusal.refusal_by.Goals as goal

pub returns-then-sound-2 : goal.returns-then-sound-2
unfolding pick
returns-then-sound-2 c = search tests

pub returns-else-sound-2 : goal.returns-else-sound-2
unfolding pick
returns-else-sound-2 c = search tests

pub returns-else-sound : goal.returns-else-sound
unfolding pick
returns-else-sound c = search tests
