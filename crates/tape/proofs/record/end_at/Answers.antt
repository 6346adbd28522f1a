use Rattle.tape.proofs.Parts.{end_in, end_out}
use Rattle.tape.proofs.record.end_at.Goals as goal

pub returns-then-n-part : goal.returns-then-n-part
returns-then-n-part c = end_in c.args.part.now c.args.n c.if-n-part.true

pub returns-else-n-part : goal.returns-else-n-part
returns-else-n-part c = end_out c.args.part.now c.args.n c.if-n-part.false
