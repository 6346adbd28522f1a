-- A stretch by one copy, or one byte by the step.
use mathlib.Core.Path.{◌≡◌, ap, ◌∙◌}
use native.Mathlib.Omega.{arith}
use Rattle.basis.specs.Choice.{pick}
use lib.ListN.{length}
use Rattle.basis.proofs.Placing.{placed_none, one_or_none, one_at_most}
use Rattle.unit.specs.Tapes.{lent_on}
use Rattle.rules.specs.Refusal.{short}
use Rattle.unit.proofs.Ahead.{taken_fits, taken_within}
use Rattle.unit.proofs.Legs.{one_where, taken_leg, taken_one}
use Rattle.unit.proofs.many.take_some.Goals as goal

pub overflow_add-n : goal.overflow_add-n
overflow_add-n c =
    let a = c.args in
    let within = taken_within a.core _ _ _ _ c.taken_ahead-k.ensures.count c.if-k-gt0.true in
    let n = c.taken_before-n.ensures in
    omega (arith, within, n)

pub overflow_add-at : goal.overflow_add-at
overflow_add-at c =
    let a = c.args in
    let fits = taken_fits a.core _ _ _ _ c.taken_ahead-k.ensures.count c.if-k-gt0.true in
    omega (arith, fits, c.requires.1, c.well_formed)

pub bounds-out-at : goal.bounds-out-at
bounds-out-at c =
    let a = c.args in
    let fits = taken_fits a.core _ _ _ _ c.taken_ahead-k.ensures.count c.if-k-gt0.true in
    omega (arith, fits, c.requires.1, c.taken_ahead-k.auto.out, c.if-k-gt0.true)

pub returns-then-k-gt0-clause-takes : goal.returns-then-k-gt0-clause-takes
unfolding short
returns-then-k-gt0-clause-takes c =
    let a = c.args in
    let l = lent_on a.staging.now a.tapes.now in
    let is = rw (c.calm-calm.ensures, c.sound_of.ensures.possible, c.sound_of.ensures.short) at c.taken_ahead-k.ensures.count in
    let turn = rw c.taken_before-n.ensures at c.moved_on.ensures in
    taken_leg a.core l a.out.now a.at _ _ _ c.requires.0 (omega (arith, c.requires.1)) is c.if-k-gt0.true
    c.taken_ahead-k.ensures.bytes turn

pub put-requires : goal.put-requires
put-requires c =
    let long = ap length (one_or_none _ c.as_slice.ensures) in
    omega (arith, long, one_at_most c.step_lent-last.result.byte, c.requires.1, c.taken_ahead-k.auto.out)

pub shape_of-out : goal.shape_of-out
shape_of-out c =
    c.put.auto.out ∙ c.taken_ahead-k.auto.out

pub returns-clause-takes : goal.returns-clause-takes
unfolding pick
returns-clause-takes c =
    let a = c.args in
    let l = lent_on a.staging.now a.tapes.now in
    let none : c.taken_ahead-k.result ≡ 0 = omega (arith, c.if-k-gt0.false) in
    let same = rw (none) at c.taken_ahead-k.ensures.bytes ∙ placed_none a.out.now a.at in
    taken_one a.core l a.out.now a.at _ _ _ _ c.requires.0 c.requires.1 c.step_lent-last.ensures.step (rw c.is_some.ensures at (c.from.ensures ∙ one_where _))
    (rw (one_or_none _ c.as_slice.ensures, same) at c.put.ensures)
