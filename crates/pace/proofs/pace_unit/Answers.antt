-- The loop from a fresh unit.
use borrow.Author.Rules.{rules}
use Rattle.unit.proofs.Lending.{left_as}
use Rattle.pace.specs.Pairs.{Paced}
use Rattle.pace.proofs.Turns.{paced_of}
use Rattle.pace.proofs.pace_unit.Goals as goal

pub returns : goal.returns
returns c =
    let a = c.args in
    left_as (Paced a.tape0.now a.tape1.now a.tape2.now a.tape3.now a.pairs.now c.run_unit-after.result.core.port.selected) (search rules) (search rules) (search rules) (search rules)
    (paced_of a.tape0.now a.tape1.now a.tape2.now a.tape3.now a.pairs.now _ _ _ _ _ _
    (rw c.fresh.ensures at c.run_unit-after.ensures.runs))
