-- The contract that both loops share leaves one outcome.
use Rattle.basis.specs.Tests.{same}
use Rattle.pace.specs.Outcomes.{OneOutcome}

pub one_outcome : OneOutcome
one_outcome =
    record {
      paced =
          λ a b c d pairs r r' a' b' c' d' a'' b'' c'' d'' p q. (
            same p.selected q.selected,
            same p.tape0 q.tape0,
            same p.tape1 q.tape1,
            same p.tape2 q.tape2,
            same p.tape3
                q.tape3,
          );
    }
