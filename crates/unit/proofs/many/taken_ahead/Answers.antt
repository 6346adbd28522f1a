-- Off the selected drive and its tape in a sound world, and nothing in any other.
use mathlib.Core.Path.{refl, sym}
use Rattle.basis.specs.Choice.{pick}
use Rattle.basis.proofs.Placing.{placed_none}
use Rattle.unit.specs.Ahead.{taken_ahead}
use Rattle.unit.proofs.many.taken_ahead.Goals as goal

pub returns-then-calm : goal.returns-then-calm
unfolding pick taken_ahead
returns-then-calm c =
    let read = rw (c.drive.ensures, c.of.ensures) at c.read_ahead.ensures in
    record { count = rw c.if-calm.true read.0; bytes = read.1 }

pub returns : goal.returns
unfolding pick taken_ahead
returns c = record { count = rw c.if-calm.false refl; bytes = sym (placed_none c.args.out.now c.args.at) }
