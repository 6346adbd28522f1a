use Rattle.layout.specs.Read.{core_of}
use Rattle.layout.proofs.read.port_in.Goals as goal

pub returns : goal.returns
unfolding core_of
returns c = rw (c.port_of.ensures, c.part.ensures)
