-- The tests of the room among the fields.
use Rattle.layout.proofs.Numbers.{two_read, four_read}
use Rattle.layout.proofs.read.leaves_room.Goals as goal

pub returns : goal.returns
returns c =
    let p = c.args.p.now in
    rw (two_read p _ 30 _ c.part-2.ensures c.from_le_bytes-2.ensures, four_read p _ 8 _ c.part.ensures c.from_le_bytes.ensures)
