-- The block is put where the test found room for it and the spare bytes behind it.
use native.Mathlib.Omega.{arith}
use Rattle.tape.specs.Record.{block_record}
use Rattle.tape.proofs.Parts.{roomy, full, made_with_room, none_without_room}
use Rattle.tape.proofs.record.record_block.Goals as goal

pub returns-in_err-room : goal.returns-in_err-room
returns-in_err-room c =
    let a = c.args in
    rw (c.from_residual.ensures) (none_without_room a.tape.now (block_record a.body.now) a.head 513 a.spare (omega (arith, c.in_err-room.ensures)))

pub returns-then-has_room : goal.returns-then-has_room
returns-then-has_room c =
    let a = c.args in
    let fits = roomy a.head 513 c.in_ok-room.room c.has_room.ensures c.if-has_room.true in
    made_with_room a.tape.now _ (block_record a.body.now) a.head 513 a.spare (omega (arith, fits, c.in_ok-room.ensures)) c.put_block.ensures

pub returns : goal.returns
returns c =
    let a = c.args in
    let none = full a.head 513 c.in_ok-room.room c.has_room.ensures c.if-has_room.false in
    none_without_room a.tape.now (block_record a.body.now) a.head 513 a.spare (omega (arith, none, c.in_ok-room.ensures))
