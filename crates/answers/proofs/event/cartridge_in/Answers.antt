use Rattle.basis.specs.Choice.{pick}
use borrow.Author.Tests.{le-ltb, lt-ltb}
use Rattle.answers.proofs.event.cartridge_in.Goals as goal

pub returns-then-body-lt-PLUG : goal.returns-then-body-lt-PLUG
unfolding pick
returns-then-body-lt-PLUG c = rw (c.named.ensures, lt-ltb _ _ c.if-body-lt-PLUG.true)

pub returns-else-body-lt-PLUG : goal.returns-else-body-lt-PLUG
unfolding pick
returns-else-body-lt-PLUG c = rw (c.named-else-body-lt-PLUG.ensures, le-ltb _ _ c.if-body-lt-PLUG.false)
