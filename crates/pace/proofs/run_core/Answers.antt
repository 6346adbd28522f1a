-- What is left to run from pair to pair comes to the whole run.
use native.Mathlib.Omega.{arith}
use mathlib.Core.Path.{◌∙◌}
use Rattle.rules.proofs.Ran.{loop_laws}
use Rattle.unit.proofs.Lending.{same_on}
use Rattle.pace.proofs.Turns.{pairs_cut, pairs_end}
use Rattle.pace.proofs.run_core.Goals as goal

pub loop-pair-preserved : goal.loop-pair-preserved
loop-pair-preserved c =
    let at = c.loop-pair.invariant in
    let steps = c.in-Some.ensures.steps in
    let same = c.step_lent.ensures.same in
    record {
      under_way =
          loop_laws.goes_on at.under_way c.step_lent.ensures.step (pairs_cut _ _ _ _ steps.1.0 (steps.1.1 ∙ at.by_two) c.event_of.ensures)
          (record { size0 = same.size0; size1 = same.size1; size2 = same.size2; size3 = same.size3 });
      by_two = steps.0 ∙ at.by_two;
      same = same_on same at.same;
    }

pub returns-clause-runs : goal.returns-clause-runs
returns-clause-runs c =
    let at = c.loop-pair.invariant in
    let short = c.in-None.ensures.steps.1.0 in
    rw c.fresh-after.ensures at (loop_laws.ends at.under_way (pairs_end _ (omega (arith, short, at.by_two))))
