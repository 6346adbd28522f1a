use Rattle.layout.proofs.Numbers.{eight_read}
use Rattle.layout.proofs.read.phase_number.Goals as goal

pub returns : goal.returns
returns c = eight_read c.args.p.now _ 4 _ c.part.ensures c.from_le_bytes.ensures
