-- Each public contract leaves one outcome.
use mathlib.Core.Path.{sym, ap, ap₂, ◌∙◌}
use mathlib.Core.List.{List}
use Prim.Native.Nat.{ℕ}
use Rattle.basis.specs.Tests.{same}
use Rattle.basis.specs.Placed.{placed}
use Rattle.rules.specs.declared.unit.Core.{Core}
use Rattle.rules.specs.declared.unit.Unit.{Unit}
use Rattle.rules.specs.declared.answer.Turn.{Turn}
use Rattle.rules.specs.Unit.{Lent, put_staging}
use Rattle.rules.proofs.Outcomes.{steps_once}
use Rattle.unit.specs.declared.many.Handed.{Handed}
use Rattle.unit.specs.Handover.{Over, Took}
use Rattle.unit.specs.Ahead.{next_bytes}
use Rattle.unit.specs.Outcomes.{OneOutcome}

-- a unit is its core and its staging block
abbrev unit_of : Core → List ℕ → Unit
unit_of c g = record { core = c; staging = g }

-- what a call hands back is its count and its last turn
abbrev handed : Over → Handed
handed o = record { count = o.count; last = o.last }

pub one_outcome : OneOutcome
one_outcome =
    record {
      step_core = steps_once;
      step =
          λ c l event r r' u u' l' l'' p left q left'.
          let e = steps_once c l event r r' (put_staging l' u.staging) (put_staging l'' u'.staging) p q in
          let g = e.1 in
          let core = left ∙ ap (λ (x : Turn). x.core) e.0 ∙ sym left' in (
            e.0,
            (
              ap₂ unit_of core (ap (λ (x : Lent). x.staging) g),
              (ap (λ (x : Lent). x.tape0) g, ap (λ (x : Lent). x.tape1) g, ap (λ (x : Lent). x.tape2) g, ap (λ (x : Lent). x.tape3) g),
            ),
          );
      within_block = λ ph d t event r r' p q. same p q;
      read_on = λ d t ph out r r' out' out'' p q.
          let e = same p.count q.count in
          (e, p.bytes ∙ ap (λ (k : ℕ). placed out 0 (next_bytes d t ph k)) e ∙ sym q.bytes);
      give_bytes = λ c l bytes r r' l' l'' p q. let e = same p q in (ap handed e, ap (λ (x : Over). x.lent) e);
      take_bytes = λ c l out r r' l' l'' out' out'' p q.
          let e = same p q in
          (ap (λ (x : Took). handed x.over) e, ap (λ (x : Took). x.over.lent) e, ap (λ (x : Took). x.out) e);
    }
