use Rattle.rules.specs.Order.{illegal}
use Rattle.orders.proofs.order.illegal.Goals as goal

pub returns : goal.returns
unfolding illegal
returns c = rw c.in_sequence-sequence.ensures
