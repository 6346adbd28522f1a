-- Two outcomes that a contract allows are equal.
use mathlib.Core.Path.{◌≡◌, sym, ap, ◌∙◌}
use Rattle.basis.specs.Tests.{same}
use Rattle.rules.specs.Step.{Stepped, stepped}
use Rattle.rules.specs.Promises.Outcomes.{StepsOnce, OneOutcome}

pub steps_once : StepsOnce
steps_once c l event r r' l' l'' p q =
    let e : stepped r l' ≡ stepped r' l'' = p.is ∙ sym q.is in (ap (λ (s : Stepped). s.turn) e, ap (λ (s : Stepped). s.lent) e)

pub one_outcome : OneOutcome
one_outcome =
    record {
      is_writing = λ m r r' p q. same p q;
      is_reading = λ m r r' p q. same p q;
      latched_none = λ r r' p q. same p q;
      latched_with = λ l b r r' p q. same p q;
      drive_fresh = λ r r' p q. same p q;
      in_mode = λ d m r r' p q. same p q;
      allow = λ d late r r' p q. same p q;
      one_less = λ d r r' p q. same p q;
      drive_reset = λ d r r' p q. same p q;
      rewind = λ d r r' p q. same p q;
      select = λ d r r' p q. same p q;
      raise = λ d r r' p q. same p q;
      latch = λ d b r r' p q. same p q;
      stop = λ d b r r' p q. same p q;
      made = λ d next r r' p q. same p q;
      pass_to = λ d at r r' p q. same p q;
      clear_status = λ d r r' p q. same p q;
      load = λ d plug r r' p q. same p q;
      unload = λ d r r' p q. same p q;
      count_error = λ d r r' p q. same p q;
      count_underrun = λ d r r' p q. same p q;
      number_of_errors = λ n r r' p q. same p q;
      number_of_underruns = λ n r r' p q. same p q;
      writes = λ d r r' p q. same p q;
      reads = λ d r r' p q. same p q;
      at_rest = λ ph r r' p q. same p q;
      is_status = λ ph r r' p q. same p q;
      rest_or_status = λ ph r r' p q. same p q;
      given_before = λ ph r r' p q. same p q;
      taken_before = λ ph r r' p q. same p q;
      outstanding = λ ph r r' p q. same p q;
      which = λ ph r r' p q. same p q;
      how_far = λ ph r r' p q. same p q;
      number = λ a r r' p q. same p q;
      refuses = λ a r r' p q. same p q;
      lines_down = λ a r r' p q. same p q;
      port_fresh = λ r r' p q. same p q;
      at_phase = λ p ph r r' e f. same e f;
      at_level = λ p online r r' e f. same e f;
      at_drive = λ p selected r r' e f. same e f;
      show = λ p octets r r' e f. same e f;
      core_fresh = λ r r' p q. same p q;
      drive = λ c i r r' p q. same p q;
      put = λ c p i d r r' e f. same e f;
      core_reset = λ c r r' p q. same p q;
      unit_fresh = λ r r' p q. same p q;
    }
