-- A stretch by one copy, or one byte by the step.
use Prim.Native.Nat.{◌-◌}
use mathlib.Core.Path.{◌≡◌, ◌∙◌}
use native.Mathlib.Omega.{arith}
use lib.ListN.{length, length-take, length-drop}
use Rattle.unit.specs.Tapes.{lent_on}
use Rattle.rules.specs.Refusal.{short}
use Rattle.unit.proofs.Ahead.{given_fits, given_within}
use Rattle.unit.proofs.Legs.{one_where, given_leg, given_one}
use Rattle.unit.proofs.many.give_some.Goals as goal

pub slice_bounds-put-end : goal.slice_bounds-put-end
slice_bounds-put-end c =
    let a = c.args in
    let fits = given_fits a.core _ (length a.bytes.now) _ c.given_ahead-k.ensures c.if-k-gt0.true in
    omega (arith, fits)

pub put-requires : goal.put-requires
put-requires c =
    let within = given_within c.args.core _ _ _ c.given_ahead-k.ensures c.if-k-gt0.true in
    let n = c.given_before-n.ensures in
    simp (length-take, length-drop) (omega (arith, within, n, c.requires.0))

pub overflow_add-n : goal.overflow_add-n
overflow_add-n c =
    let within = given_within c.args.core _ _ _ c.given_ahead-k.ensures c.if-k-gt0.true in
    let n = c.given_before-n.ensures in
    omega (arith, within, n)

pub returns-then-k-gt0-clause-gives : goal.returns-then-k-gt0-clause-gives
unfolding short
returns-then-k-gt0-clause-gives c =
    let a = c.args in
    let l = lent_on a.staging.now a.tapes.now in
    let is = rw (c.calm-calm.ensures, c.sound_of.ensures.possible, c.sound_of.ensures.short) at c.given_ahead-k.ensures in
    let n = c.given_before-n.ensures in
    let part : c.given_ahead-k.result - 0 ≡ c.given_ahead-k.result = omega arith in
    given_leg a.core l a.bytes.now _ _ _ c.requires.0 is c.if-k-gt0.true (rw (n) at c.moved_on.ensures)
    (rw (n, part) at c.put.ensures)

pub returns-clause-gives : goal.returns-clause-gives
returns-clause-gives c =
    let a = c.args in
    let l = lent_on a.staging.now a.tapes.now in
    given_one a.core l a.bytes.now _ _ _ c.requires.1 c.step_lent-last.ensures.step (rw c.refuses.ensures at (c.from.ensures ∙ one_where _))
