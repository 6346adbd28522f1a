-- The phase stays.
use Rattle.basis.specs.Choice.{pick}
use Rattle.answers.proofs.slots.cartridge_in.Goals as goal

pub returns : goal.returns
unfolding pick
returns c = rw (c.put.ensures, c.load.ensures, c.drive.ensures)
