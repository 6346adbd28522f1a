-- The tests of the port, the phase by its own.
use Rattle.layout.specs.Read.{is_port}
use Rattle.layout.proofs.read.is_port.Goals as goal

pub returns : goal.returns
unfolding is_port
returns c = rw (c.is_phase.ensures, c.phase_number.ensures)
