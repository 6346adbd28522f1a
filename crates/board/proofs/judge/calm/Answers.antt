-- Both tests as the definitions have them.
use Rattle.rules.specs.Refusal.{short}
use Rattle.board.proofs.judge.calm.Goals as goal

pub returns : goal.returns
unfolding short
returns c = rw (c.calm.ensures, c.possible_in.ensures, c.short.ensures)
