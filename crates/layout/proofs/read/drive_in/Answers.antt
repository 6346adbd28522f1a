-- Every drive ends inside the record.
use native.Mathlib.Omega.{arith}
use Rattle.layout.proofs.Parts.{drive_inside, drive_found}
use Rattle.layout.proofs.read.drive_in.Goals as goal

pub part-requires : goal.part-requires
part-requires c = rw c.drive_place.ensures (omega (arith, drive_inside c.args.i, c.requires))

pub returns : goal.returns
returns c = let a = c.args in rw (c.drive_of.ensures, c.part.ensures, c.drive_place.ensures) (drive_found a.buffer.now a.i)
