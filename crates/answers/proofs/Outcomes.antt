-- Each public contract leaves one outcome.
use mathlib.Core.Path.{ap}
use mathlib.Core.Bool.{Bool}
use mathlib.Core.List.{[]}
use Rattle.std.specs.Prelude.{Option, Some}
use Rattle.basis.specs.Tests.{same}
use Rattle.rules.specs.declared.unit.Core.{Core}
use Rattle.rules.specs.declared.event.Event.{Event}
use Rattle.rules.specs.declared.event.Event.TheVariants.{Reset, Named}
use Rattle.rules.specs.Unit.{lent}
use Rattle.rules.specs.Step.{Stepped}
use Rattle.answers.specs.Outcomes.{OneTurn, OneOutcome}

-- read off what is lent, whatever that is
one_turn : (c : Core) (p s : Bool) (e : Option Event) → OneTurn c p s e
one_turn c p s e r r' x y = let l = lent [] [] [] [] [] in ap (λ (z : Stepped). z.turn) (same (x l) (y l))

pub one_outcome : OneOutcome
one_outcome =
    record {
      event_of = λ l r r' p q. same p q;
      lines = λ c r r' p q. same p q;
      given_place = λ ph l r r' p q. same p q;
      taken_place = λ ph l r r' p q. same p q;
      octets_left = λ ph l r r' p q. same p q;
      body = λ l r r' p q. same p q;
      possible_drive = λ d r r' p q. same p q;
      possible_at = λ ph d r r' p q. same p q;
      possible = λ c r r' p q. same p q;
      short = λ a b c d r r' p q. same p q;
      calm = λ p s r r' x y. same x y;
      in_step = λ ph w g a r r' p q. same p q;
      slot_answer = λ loaded w r r' p q. same p q;
      unless = λ fits a r r' p q. same p q;
      refusal_by = λ ok fits a r r' p q. same p q;
      look = λ c i r r' p q. same p q;
      slot = λ c p s i w. one_turn c p s (Some (Named i w));
      reset = λ c p s. one_turn c p s (Some Reset);
      moved_to = λ c ph r r' p q. same p q;
      moved_on = λ c ph b direction r r' p q. same p q;
      done = λ raised b c r r' p q. same p q;
      refuse = λ a c r r' p q. same p q;
    }
