use Rattle.basis.specs.Tests.{told}
use Rattle.basis.specs.Choice.{pick}
use Rattle.rules.specs.Late.{allowed_at}
use Rattle.orders.proofs.late.allowed_at.Goals as goal

pub returns-then-block_room : goal.returns-then-block_room
unfolding pick allowed_at
returns-then-block_room c = rw (told c.block_room.ensures c.if-block_room.true)

pub returns : goal.returns
unfolding pick allowed_at
returns c = rw (told c.block_room.ensures c.if-block_room.false)
