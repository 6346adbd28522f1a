-- Each field of a drive is read where the layout has it.
use Rattle.layout.specs.Read.{drive_of}
use Rattle.layout.proofs.Numbers.{two_read, eight_read}
use Rattle.layout.proofs.read.drive_of.Goals as goal

pub returns : goal.returns
unfolding drive_of
returns c =
    let p = c.args.p.now in
    rw (
      c.latched_of.ensures,
      c.mode_of.ensures,
      two_read p _ 14 _ c.part-3.ensures c.from_le_bytes-3.ensures,
      two_read p _ 12 _ c.part-2.ensures c.from_le_bytes-2.ensures,
      eight_read p _ 0 _ c.part.ensures c.from_le_bytes.ensures,
    )
