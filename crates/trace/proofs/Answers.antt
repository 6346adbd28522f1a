-- Each public contract leaves one outcome.
use mathlib.Core.Path.{ap}
use Rattle.basis.specs.Tests.{same}
use Rattle.trace.specs.declared.run.Played.{Played}
use Rattle.trace.specs.Line.{Page}
use Rattle.trace.specs.Play.{Left}
use Rattle.trace.specs.Rest.{Rest}
use Rattle.trace.specs.Outcomes.{OneOutcome}

abbrev answer_of : Left → Played
answer_of x = record { core = x.world.core; used = x.used; written = x.written; count = x.count; halt = x.halt }

pub one_outcome : OneOutcome
one_outcome =
    record {
      kind_size = λ k r r' p q. same p q;
      next_event = λ l r r' p q. same p q;
      show_line = λ o at n a l byte r r' o' o'' p q. let e = same p q in (ap (λ (x : Page). x.shown) e, ap (λ (x : Page). x.out) e);
      play =
          λ c l input ending n o p p' l' l'' o' o'' s t.
          let e = same s.is t.is in
          (ap answer_of e, ap (λ (x : Left). x.world.lent) e, ap (λ (x : Left). x.out) e);
      keep_rest = λ b from to n n' b' b'' s t. let e = same s.is t.is in (ap (λ (x : Rest). x.size) e, ap (λ (x : Rest). x.buffer) e);
    }
