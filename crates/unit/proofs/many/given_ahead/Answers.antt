use Rattle.basis.specs.Choice.{pick}
use Rattle.unit.specs.Ahead.{given_ahead}
use Rattle.unit.proofs.many.given_ahead.Goals as goal

pub returns-then-calm-look : goal.returns-then-calm-look
unfolding pick given_ahead
returns-then-calm-look c =
    let writing = rw c.look.ensures at c.if-calm-look.true in
    rw (c.ahead_of.ensures, c.given_before.ensures, c.at_rest.ensures, writing)

pub returns : goal.returns
unfolding pick given_ahead
returns c =
    let idle = rw c.look.ensures at c.if-calm-look.false in
    rw (idle)
