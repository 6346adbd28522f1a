use native.Mathlib.Omega.{arith}
use Rattle.rules.proofs.Rooms.{spare_small}
use Rattle.orders.proofs.late.block_room.Goals as goal

pub overflow_add-spare_of : goal.overflow_add-spare_of
overflow_add-spare_of c = omega (arith, c.spare_of.ensures, spare_small c.args.late)

pub returns : goal.returns
returns c = rw (c.has_room.ensures, c.spare_of.ensures)
