-- Each public contract leaves one outcome.
use mathlib.Core.Path.{ap}
use mathlib.Core.List.{[]}
use Rattle.basis.specs.Tests.{same}
use Rattle.rules.specs.Effect.{Acted}
use Rattle.port.specs.Outcomes.{OneAct, OneOutcome}

one_act : (x : Acted) → OneAct x
one_act x r r' t' t'' p q = let e = same p q in (ap (λ (m : Acted). m.moved) e, ap (λ (m : Acted). m.tape) e)

pub one_outcome : OneOutcome
one_outcome =
    record {
      is_block = λ f r r' p q. same p q;
      check = λ d t r r' p q. same p q;
      stage = λ ph a g g' g'' p q. same p q;
      command = λ p d t c. one_act _;
      give = λ p g d t. one_act _;
      take = λ p d t r r' e f. (one_act _ r r' t t e f).0;
      raise_online = λ p d r r' e f. (one_act _ r r' [] [] (e []) (f [])).0;
      drop_online = λ p d t. one_act _;
      act = λ p g d t a. one_act _;
    }
