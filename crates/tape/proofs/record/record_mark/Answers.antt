-- The mark is put where the test found room for it.
use Prim.Native.Nat.{◌+◌, ◌≤◌}
use native.Mathlib.Omega.{arith}
use lib.ListN.{length, length-take, length-drop}
use Rattle.tape.specs.Record.{mark_record}
use Rattle.tape.proofs.Parts.{roomy, full, made_with_room, none_without_room}
use Rattle.tape.proofs.record.record_mark.Goals.{Then-has_room}
use Rattle.tape.proofs.record.record_mark.Goals as goal

room : (c : Then-has_room) → c.args.head + 1 ≤ length c.args.tape.now
room c =
    let a = c.args in
    roomy a.head 1 (length a.tape.now) c.has_room.ensures c.if-has_room.true

pub slice_bounds-put_mark-count : goal.slice_bounds-put_mark-count
slice_bounds-put_mark-count c = omega (arith, room (goal.at.slice_bounds-put_mark-count c).Then-has_room)

pub slice_bounds-put_mark-start : goal.slice_bounds-put_mark-start
slice_bounds-put_mark-start c = omega (arith, room (goal.at.slice_bounds-put_mark-start c).Then-has_room)

pub put_mark-requires : goal.put_mark-requires
put_mark-requires c = let r = room (goal.at.put_mark-requires c).Then-has_room in simp (length-take, length-drop) (omega arith)

pub overflow_add-result : goal.overflow_add-result
overflow_add-result c = omega (arith, room (goal.at.overflow_add-result c).Then-has_room)

pub returns-then-has_room : goal.returns-then-has_room
returns-then-has_room c =
    let a = c.args in
    made_with_room a.tape.now _ mark_record a.head 1 0 (room (goal.at.returns-then-has_room c).Then-has_room) c.put_mark.ensures

pub returns : goal.returns
returns c =
    let a = c.args in
    none_without_room a.tape.now mark_record a.head 1 0 (full a.head 1 (length a.tape.now) c.has_room.ensures c.if-has_room.false)
