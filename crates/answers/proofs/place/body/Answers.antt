-- The second byte, where there are two.
use Rattle.answers.specs.Place.{body_of}
use Rattle.basis.specs.Choice.{pick}
use Rattle.basis.specs.Tests.{tests}
use Rattle.answers.proofs.place.body.Goals as goal

pub returns-then-event-eq2 : goal.returns-then-event-eq2
unfolding pick body_of
returns-then-event-eq2 c = search tests

pub returns-else-event-eq2 : goal.returns-else-event-eq2
unfolding pick body_of
returns-else-event-eq2 c = search tests
