use Rattle.port.proofs.Whole.{whole}
use Rattle.basis.specs.Choice.{pick}
use Rattle.port.proofs.taken.take_next.Goals as goal

pub hand-requires : goal.hand-requires
hand-requires c =
    let a = c.args in
    whole a.tape.now a.at.drive.head (rw (← c.found_at-found.ensures, ← c.is_block.ensures) c.if-is_block.true)

pub returns-then-is_block : goal.returns-then-is_block
unfolding pick
returns-then-is_block c = rw (c.hand.ensures, ← c.found_at-found.ensures, ← c.is_block.ensures, c.if-is_block.true)

pub returns-else-is_block : goal.returns-else-is_block
unfolding pick
returns-else-is_block c =
    let found = c.found_at-found.ensures in
    rw (c.rests.ensures, c.halt.ensures, c.spoilt.ensures, ← found)
    (rw (← c.is_block.ensures, c.if-is_block.false))
