-- The byte chooses as the definition does.
use Rattle.layout.specs.Read.{mode_of}
use Rattle.basis.specs.Choice.{pick}
use Rattle.basis.specs.Tests.{tests}
use Rattle.layout.proofs.read.mode_of.Goals as goal

pub returns-in-0 : goal.returns-in-0
unfolding pick mode_of
returns-in-0 c = rw c.in-0.is

pub returns-in-1 : goal.returns-in-1
unfolding pick mode_of
returns-in-1 c = rw c.in-1.is

pub returns-in_default : goal.returns-in_default
unfolding pick mode_of
returns-in_default c = search tests
