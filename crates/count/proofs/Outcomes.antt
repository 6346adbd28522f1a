-- Each public contract leaves one outcome.
use Rattle.basis.specs.Tests.{same}
use Rattle.count.specs.Outcomes.{OneOutcome}

pub one_outcome : OneOutcome
one_outcome =
    record {
      raise = λ f d d' d'' p q. same p q;
      count_in = λ f i c r r' p q. same p q;
    }
