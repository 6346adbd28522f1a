use Rattle.basis.specs.Choice.{pick}
use Rattle.basis.specs.Text.{digit}
use borrow.Author.Tests.{le-ltb, lt-ltb}
use Rattle.basis.proofs.number.digit.Goals as goal

pub returns-then-d-lt10 : goal.returns-then-d-lt10
unfolding digit pick
returns-then-d-lt10 c = rw (lt-ltb _ _ c.if-d-lt10.true)

pub returns-else-d-lt10 : goal.returns-else-d-lt10
unfolding digit pick
returns-else-d-lt10 c = rw (le-ltb _ _ c.if-d-lt10.false)
