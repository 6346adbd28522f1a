use Rattle.rules.specs.Late.{goes_on}
use Rattle.orders.proofs.late.goes_on.Goals as goal

pub returns : goal.returns
unfolding goes_on
returns c = rw c.block_room.ensures
