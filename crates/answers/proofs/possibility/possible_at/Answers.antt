use Rattle.rules.specs.Refusal.{possible_phase}
use Rattle.answers.proofs.possibility.possible_at.Goals as goal

pub returns-in-Rest : goal.returns-in-Rest
unfolding possible_phase
returns-in-Rest c = rw c.in-Rest.is

pub returns-in-Taking : goal.returns-in-Taking
unfolding possible_phase
returns-in-Taking c = rw (c.is_writing.ensures, c.in-Taking.is)

pub returns-in-Giving : goal.returns-in-Giving
unfolding possible_phase
returns-in-Giving c = rw (c.is_reading.ensures, c.in-Giving.is)

pub returns-in-Status : goal.returns-in-Status
unfolding possible_phase
returns-in-Status c = rw c.in-Status.is
