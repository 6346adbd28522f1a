-- A byte is handed out where the check raised nothing: a whole block stands there.
use Rattle.port.proofs.Whole.{unraised}
use Rattle.basis.specs.Choice.{pick}
use Rattle.port.proofs.taken.take_first.Goals as goal

pub hand-requires : goal.hand-requires
hand-requires c =
    let a = c.args in
    unraised a.tape.now a.at.drive (rw (← c.check-edge.ensures) c.if-edge.false)

pub returns-then-edge : goal.returns-then-edge
unfolding pick
returns-then-edge c = rw (c.rests.ensures, ← c.check-edge.ensures, c.if-edge.true)

pub returns-else-edge : goal.returns-else-edge
unfolding pick
returns-else-edge c = rw (c.hand.ensures, ← c.check-edge.ensures, c.if-edge.false)
