-- Each public contract leaves one outcome.
use Rattle.basis.specs.Tests.{same}
use Rattle.orders.specs.Outcomes.{OneOutcome}

pub one_outcome : OneOutcome
one_outcome =
    record {
      order_of = λ c r r' p q. same p q;
      needs_of = λ o r r' p q. same p q;
      fault_of = λ o d l n r r' p q. same p q;
      spare_of = λ late r r' p q. same p q;
      allowed_at = λ h l r r' p q. same p q;
      goes_on = λ late h l r r' p q. same p q;
    }
