-- Leg after leg, each byte taken is put behind those before it.
use Prim.Native.Nat.{◌-◌}
use mathlib.Core.Path.{◌≡◌, refl, sym, ap, ◌∙◌}
use mathlib.Core.List.{[]}
use native.Mathlib.Omega.{arith}
use lib.ListN.{length}
use Rattle.basis.proofs.Placing.{placed_none}
use Rattle.rules.specs.Run.{taken_times}
use Rattle.unit.proofs.Handover.{begins, begun, all_sizes}
use Rattle.unit.proofs.Legs.{taken_on, taken_stops, taken_ends}
use Rattle.unit.proofs.Lending.{same_all, same_on}
use Rattle.unit.proofs.many.take_bytes.Goals as goal

pub loop-count-init : goal.loop-count-init
loop-count-init c =
    let out = c.args.out.now in
    let all : length out ≡ length out - 0 = omega arith in
    rw c.done-last.ensures
    (record { rs = []; at = begins _ _ _ _ _ (ap taken_times all); sizes = all_sizes _; more = sym (placed_none out 0) }, (omega arith, (refl, same_all _)))

pub take_some-some-requires : goal.take_some-some-requires
take_some-some-requires c = (c.loop-count.invariant.0.sizes.staging ∙ c.requires, c.loop-count-test.true)

pub overflow_add-count : goal.overflow_add-count
overflow_add-count c =
    omega (arith, c.take_some-some.ensures.takes.fits, c.loop-count.invariant.1.1.0, c.well_formed)

pub shape_of-staging-then-not-answered_0 : goal.shape_of-staging-then-not-answered_0
shape_of-staging-then-not-answered_0 c = c.take_some-some.auto.staging ∙ c.loop-count.invariant.0.sizes.staging

pub shape_of-out-then-not-answered_0 : goal.shape_of-out-then-not-answered_0
shape_of-out-then-not-answered_0 c = c.take_some-some.auto.out ∙ c.loop-count.invariant.1.1.0

pub returns-then-not-answered_0-clause-takes : goal.returns-then-not-answered_0-clause-takes
returns-then-not-answered_0-clause-takes c =
    let a = c.args in
    let inv = c.loop-count.invariant in
    let some = c.take_some-some.ensures.takes in
    let other = (rw c.answered_0.ensures at c.if-not-answered_0.true) in
    rw (← begun c.done-last.ensures)
    (taken_stops _ _ a.out.now _ _ _ _ _ _ _ inv.1.1.0 inv.0 some other)

pub loop-count-smaller : goal.loop-count-smaller
loop-count-smaller c =
    let a = c.args in
    let inv = c.loop-count.invariant in
    let some = c.take_some-some.ensures.takes in
    let so = (rw c.answered_0.ensures at c.if-not-answered_0.false) in
    let kept = c.take_some-some.auto.out in
    omega (arith, some.leg.moves so, some.fits, kept, c.loop-count-test.true)

pub loop-count-preserved : goal.loop-count-preserved
loop-count-preserved c =
    let a = c.args in
    let inv = c.loop-count.invariant in
    let some = c.take_some-some.ensures.takes in
    let so = (rw c.answered_0.ensures at c.if-not-answered_0.false) in
    let kept = c.take_some-some.auto in (
      taken_on _ _ a.out.now _ _ _ _ _ _ _ inv.1.1.0 inv.0 some
          (record {
            staging = kept.staging;
            tapes = (let s = c.take_some-some.ensures.same in record { size0 = s.size0; size1 = s.size1; size2 = s.size2; size3 = s.size3 });
          }) so,
      (omega (arith, some.fits, inv.1.1.0), (kept.out ∙ inv.1.1.0, same_on c.take_some-some.ensures.same inv.1.1.1)),
    )

pub shape_of-staging : goal.shape_of-staging
shape_of-staging c = c.loop-count.invariant.0.sizes.staging

pub shape_of-out : goal.shape_of-out
shape_of-out c = c.loop-count.invariant.1.1.0

pub returns-clause-takes : goal.returns-clause-takes
returns-clause-takes c =
    let a = c.args in
    let inv = c.loop-count.invariant in
    rw (← begun c.done-last.ensures)
    (taken_ends _ _ a.out.now _ _ _ _ inv.0 (omega (arith, c.loop-count-test.false, inv.1.1.0)))
