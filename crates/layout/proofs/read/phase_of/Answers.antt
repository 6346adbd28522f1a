-- The byte chooses as the definition does.
use Rattle.layout.specs.Read.{phase_of}
use Rattle.basis.specs.Choice.{pick}
use Rattle.basis.specs.Tests.{tests}
use Rattle.layout.proofs.read.phase_of.Goals as goal

pub returns-in-0 : goal.returns-in-0
unfolding pick phase_of
returns-in-0 c = rw c.in-0.is

pub returns-in-1 : goal.returns-in-1
unfolding pick phase_of
returns-in-1 c = rw c.in-1.is

pub returns-in-2 : goal.returns-in-2
unfolding pick phase_of
returns-in-2 c = rw c.in-2.is

pub returns-in_default : goal.returns-in_default
unfolding pick phase_of
returns-in_default c = search tests
