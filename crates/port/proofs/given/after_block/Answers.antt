use Rattle.rules.specs.Bytes.{after_block}
use Rattle.basis.specs.Tests.{told}
use Rattle.basis.specs.Choice.{pick}
use Rattle.port.proofs.given.after_block.Goals as goal

pub returns-then-goes_on : goal.returns-then-goes_on
unfolding pick after_block
returns-then-goes_on c = rw (c.rests.ensures, told c.goes_on.ensures c.if-goes_on.true)

pub returns-else-goes_on : goal.returns-else-goes_on
unfolding pick after_block
returns-else-goes_on c = rw (c.rests-else-goes_on.ensures, c.stop.ensures, told c.goes_on.ensures c.if-goes_on.false)
