use Rattle.rules.specs.Event.{bodied_event}
use Rattle.basis.specs.Tests.{tests}
use Rattle.basis.specs.Choice.{pick}
use Rattle.answers.proofs.event.bodied_event.Goals as goal

pub returns-in-1 : goal.returns-in-1
unfolding pick bodied_event
returns-in-1 c = rw c.in-1.is

pub returns-in-2 : goal.returns-in-2
unfolding pick bodied_event
returns-in-2 c = rw c.in-2.is

pub returns-in-7 : goal.returns-in-7
unfolding pick bodied_event
returns-in-7 c = rw (c.cartridge_in.ensures, c.in-7.is)

pub returns-in-8 : goal.returns-in-8
unfolding pick bodied_event
returns-in-8 c = rw (c.named.ensures, c.in-8.is)

pub returns-in-9 : goal.returns-in-9
unfolding pick bodied_event
returns-in-9 c = rw (c.named-in-9.ensures, c.in-9.is)

pub returns-in-10 : goal.returns-in-10
unfolding pick bodied_event
returns-in-10 c = rw (c.named-in-10.ensures, c.in-10.is)

pub returns-in_default : goal.returns-in_default
unfolding pick bodied_event
returns-in_default c = search tests
