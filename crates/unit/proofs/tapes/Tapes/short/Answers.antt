use Rattle.rules.specs.Refusal.{short}
use Rattle.unit.proofs.tapes.Tapes.short.Goals as goal

pub returns : goal.returns
unfolding short
returns c = c.short.ensures
