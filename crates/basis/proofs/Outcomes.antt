-- Each public contract leaves one outcome.
use Rattle.basis.specs.Tests.{same}
use Rattle.basis.specs.Outcomes.{OneOutcome}

pub one_outcome : OneOutcome
one_outcome =
    record {
      digit = λ d r r' p q. same p q;
      high_digit = λ b r r' p q. same p q;
      low_digit = λ b r r' p q. same p q;
      places = λ n r r' p q. same p q;
      put_number = λ o at n o' o'' p q. same p q;
      put = λ o at l o' o'' p q. same p q;
    }
