-- The port, and each drive from its own stretch.
use Rattle.layout.specs.Read.{core_of}
use Rattle.layout.proofs.read.core_of.Goals as goal

pub returns : goal.returns
unfolding core_of
returns c =
    rw (
      c.drive_of-4.ensures,
      c.part-4.ensures,
      c.drive_of-3.ensures,
      c.part-3.ensures,
      c.drive_of-2.ensures,
      c.part-2.ensures,
      c.drive_of.ensures,
      c.part.ensures,
      c.port_in.ensures,
    )
