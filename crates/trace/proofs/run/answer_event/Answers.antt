use Prim.Native.Nat.{◌+◌}
use Rattle.trace.proofs.Turning.{room_fits, turn_made}
use lib.ListN.{length}
use native.Mathlib.Omega.{arith}
use Rattle.trace.proofs.run.answer_event.Goals as goal

pub overflow_add-count : goal.overflow_add-count
overflow_add-count c =
    let a = c.args in
    omega (arith, (room_fits (length a.out.now) a.full a.count c.requires).0)

pub put_line-next-requires : goal.put_line-next-requires
put_line-next-requires c =
    let a = c.args in
    (room_fits (length a.out.now) a.full a.count c.requires).1

pub returns-clause-answers : goal.returns-clause-answers
returns-clause-answers c =
    let a = c.args in
    rw (c.put_line-next.ensures.1, c.put_line-next.ensures.0, c.stops.ensures)
    (turn_made _ _ _ _ _ c.step_lent-turn.ensures.step (a.count + 1) a.full a.out.now)
