-- The bits are bools where all of their bytes are.
use Rattle.std.proofs.Common.{arith, ◌∙◌}
use Rattle.layout.proofs.Parts.{latched_folded}
use Rattle.layout.proofs.read.is_latched.Goals as goal

pub returns : goal.returns
returns c = c.are_flags.ensures ∙ latched_folded c.args.p.now (omega arith)
