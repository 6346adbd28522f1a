use Rattle.basis.specs.Tests.{told}
use Rattle.trace.proofs.Playing.{event_inside, goes_no_further, goes_on, halts, no_room, none_left}
use Rattle.trace.proofs.Turning.{room_fits}
use Rattle.unit.proofs.Lending.{same_on}
use borrow.Author.Rules.{rules}
use lib.ListN.{length}
use mathlib.Core.Path.{refl}
use native.Mathlib.Omega.{arith}
use Rattle.trace.proofs.run.play.Goals as goal

pub overflow_add-end : goal.overflow_add-end
overflow_add-end c =
    let h = event_inside c.loop-size.invariant.0 c.in-Some.ensures in
    omega (arith, c.well_formed.1.1.1.1.1.1.0)

pub slice_bounds-answer_event-end : goal.slice_bounds-answer_event-end
slice_bounds-answer_event-end c =
    let h = event_inside c.loop-size.invariant.0 c.in-Some.ensures in
    search rules

pub overflow_add-n : goal.overflow_add-n
overflow_add-n c =
    let l = c.loop-size in
    omega (arith, (room_fits (length l.out) l.written l.n (told c.has_room.ensures c.if-not-has_room.false)).0)

pub loop-size-smaller : goal.loop-size-smaller
loop-size-smaller c =
    let h = event_inside c.loop-size.invariant.0 c.in-Some.ensures in
    omega arith

pub loop-size-preserved : goal.loop-size-preserved
loop-size-preserved c = (
  goes_on c.loop-size.invariant.0 c.in-Some.ensures (told c.has_room.ensures c.if-not-has_room.false)
      c.answer_event-a.ensures.answers c.if-a.false,
  same_on c.answer_event-a.ensures.same c.loop-size.invariant.1,
)

pub returns-in_default-clause-plays : goal.returns-in_default-clause-plays
returns-in_default-clause-plays c = halts (none_left c.loop-size.invariant.0 c.in_default.ensures) refl

pub returns-then-not-has_room-clause-plays : goal.returns-then-not-has_room-clause-plays
returns-then-not-has_room-clause-plays c =
    halts (no_room c.loop-size.invariant.0 c.in-Some.ensures (told c.has_room.ensures c.if-not-has_room.true)) refl

pub returns-then-a-clause-plays : goal.returns-then-a-clause-plays
returns-then-a-clause-plays c =
    halts (goes_no_further c.loop-size.invariant.0 c.in-Some.ensures (told c.has_room.ensures c.if-not-has_room.false)
    c.answer_event-a.ensures.answers c.if-a.true) refl

pub returns-then-a-clause-same : goal.returns-then-a-clause-same
returns-then-a-clause-same c = same_on c.answer_event-a.ensures.same c.loop-size.invariant.1
