-- Each public contract leaves one outcome.
use Rattle.basis.specs.Tests.{same}
use Rattle.report.specs.Outcomes.{OneOutcome}

pub one_outcome : OneOutcome
one_outcome =
    record {
      octets = λ d r r' p q. same p q;
      next_octet = λ p k r r' e f. same e f;
      after_octet = λ k r r' p q. same p q;
    }
