use Rattle.rules.specs.Event.{bare_event}
use Rattle.basis.specs.Tests.{tests}
use Rattle.basis.specs.Choice.{pick}
use Rattle.answers.proofs.event.bare_event.Goals as goal

pub returns-in-3 : goal.returns-in-3
unfolding pick bare_event
returns-in-3 c = rw c.in-3.is

pub returns-in-4 : goal.returns-in-4
unfolding pick bare_event
returns-in-4 c = rw c.in-4.is

pub returns-in-5 : goal.returns-in-5
unfolding pick bare_event
returns-in-5 c = rw c.in-5.is

pub returns-in-6 : goal.returns-in-6
unfolding pick bare_event
returns-in-6 c = rw c.in-6.is

pub returns-in_default : goal.returns-in_default
unfolding pick bare_event
returns-in_default c = search tests
