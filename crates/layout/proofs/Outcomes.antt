-- Each public contract leaves one outcome.
use Rattle.basis.specs.Tests.{same}
use Rattle.layout.specs.Outcomes.{OneOutcome}

pub one_outcome : OneOutcome
one_outcome =
    record {
      flag = λ b r r' p q. same p q;
      is_record = λ l r r' p q. same p q;
      port_in = λ l r r' p q. same p q;
      drive_in = λ l i r r' p q. same p q;
      core_of = λ l r r' p q. same p q;
      write_core = λ c l l' l'' p q. same p q;
      write_record = λ c g l' l'' p q. same p q;
      write_phase = λ ph l l' l'' p q. same p q;
    }
