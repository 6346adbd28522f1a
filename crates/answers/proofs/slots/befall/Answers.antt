-- A count leaves the phase.
use Rattle.basis.specs.Choice.{pick}
use Rattle.answers.proofs.slots.befall.Goals as goal

pub returns-in-In : goal.returns-in-In
returns-in-In c = rw (c.cartridge_in.ensures, c.in-In.is)

pub returns-in-Out : goal.returns-in-Out
returns-in-Out c = rw (c.cartridge_out.ensures, c.in-Out.is)

pub returns-in-Error : goal.returns-in-Error
unfolding pick
returns-in-Error c = rw (c.count_in.ensures, c.in-Error.is)

pub returns-in-Underrun : goal.returns-in-Underrun
unfolding pick
returns-in-Underrun c = rw (c.count_in-in-Underrun.ensures, c.in-Underrun.is)
