-- Leg after leg, each byte that went over is the first of those still to come.
use mathlib.Core.Path.{refl, ◌∙◌}
use mathlib.Core.List.{[]}
use native.Mathlib.Omega.{arith}
use lib.ListN.{length-take, length-drop}
use Rattle.unit.proofs.Handover.{begins, begun, all_sizes}
use Rattle.tape.proofs.Parts.{part_of}
use Rattle.unit.proofs.Legs.{given_on, given_stops, given_ends}
use Rattle.unit.proofs.Lending.{same_all, same_on}
use Rattle.unit.proofs.many.give_bytes.Goals as goal

pub loop-count-init : goal.loop-count-init
loop-count-init c = rw c.done-last.ensures (record { rs = []; at = begins _ _ _ _ _ refl; sizes = all_sizes _; more = tt }, (omega arith, same_all _))

pub give_some-some-requires : goal.give_some-some-requires
give_some-some-requires c =
    (c.loop-count.invariant.0.sizes.staging ∙ c.requires, simp (length-take, length-drop) (omega (arith, c.loop-count-test.true)))

pub overflow_add-count : goal.overflow_add-count
overflow_add-count c =
    let n = c.loop-count.count in
    let fits = rw (part_of c.args.bytes.now n) at c.give_some-some.ensures.gives.fits in
    omega (arith, fits, length-drop n c.args.bytes.now, c.loop-count-test.true, c.well_formed)

pub shape_of-staging-then-not-answered_0 : goal.shape_of-staging-then-not-answered_0
shape_of-staging-then-not-answered_0 c = c.give_some-some.auto.staging ∙ c.loop-count.invariant.0.sizes.staging

pub returns-then-not-answered_0-clause-gives : goal.returns-then-not-answered_0-clause-gives
returns-then-not-answered_0-clause-gives c =
    let a = c.args in
    let n = c.loop-count.count in
    let some = rw (part_of a.bytes.now n) at c.give_some-some.ensures.gives in
    let other = (rw c.answered_0.ensures at c.if-not-answered_0.true) in
    rw (← begun c.done-last.ensures) (given_stops _ _ a.bytes.now n _ _ _ _ c.loop-count.invariant.0 some other)

pub loop-count-smaller : goal.loop-count-smaller
loop-count-smaller c =
    let a = c.args in
    let n = c.loop-count.count in
    let some = rw (part_of a.bytes.now n) at c.give_some-some.ensures.gives in
    let so = (rw c.answered_0.ensures at c.if-not-answered_0.false) in
    let moves = some.leg.moves so in
    omega (arith, moves, some.fits, length-drop n a.bytes.now, c.loop-count-test.true)

pub loop-count-preserved : goal.loop-count-preserved
loop-count-preserved c =
    let a = c.args in
    let n = c.loop-count.count in
    let some = rw (part_of a.bytes.now n) at c.give_some-some.ensures.gives in
    let so = (rw c.answered_0.ensures at c.if-not-answered_0.false) in
    let kept = c.give_some-some.auto in (
      given_on _ _ a.bytes.now n _ _ _ _ c.loop-count.invariant.0 some
          (record {
            staging = kept.staging;
            tapes = (let s = c.give_some-some.ensures.same in record { size0 = s.size0; size1 = s.size1; size2 = s.size2; size3 = s.size3 });
          }) so,
      (omega (arith, some.fits, length-drop n a.bytes.now, c.loop-count-test.true), same_on c.give_some-some.ensures.same c.loop-count.invariant.1.1),
    )

pub shape_of-staging : goal.shape_of-staging
shape_of-staging c = c.loop-count.invariant.0.sizes.staging

pub returns-clause-gives : goal.returns-clause-gives
returns-clause-gives c =
    let a = c.args in
    rw (← begun c.done-last.ensures) (given_ends _ _ a.bytes.now _ _ _ c.loop-count.invariant.0 c.loop-count-test.false)
