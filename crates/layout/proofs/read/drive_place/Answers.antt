-- The places lie a drive's bytes apart.
use Rattle.std.proofs.Common.{arith}
use Rattle.layout.proofs.Parts.{drives_apart}
use Rattle.layout.proofs.read.drive_place.Goals as goal

pub returns : goal.returns
returns c = omega (arith, drives_apart c.args.i)
