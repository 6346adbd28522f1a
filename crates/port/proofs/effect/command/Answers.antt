-- An order that passed the tests has the room that `carry_out` requires.
use Rattle.port.proofs.Tested.{fine_has_room}
use Rattle.rules.specs.Order.{fault_by}
use Rattle.rules.specs.Effect.{fault_of}
use Rattle.basis.specs.Tests.{told}
use Rattle.std.proofs.Common.{rules}
use lib.ListN.{length}
use Rattle.port.proofs.effect.command.Goals as goal

pub carry_out-requires : goal.carry_out-requires
carry_out-requires c =
    let a = c.args in
    let fine = told c.fault_of-tested.ensures c.in-Some-Ok.is-1 in
    fine_has_room a.at.port.online a.at.drive (length a.tape.now) _ (rw (c.needs_of.ensures, c.in-Some-Ok.is-0) at fine)

pub returns-in-Some-Ok : goal.returns-in-Some-Ok
unfolding fault_of
returns-in-Some-Ok c =
    rw (← c.order_of-order.ensures, ← c.needs_of.ensures, ← c.fault_of-tested.ensures, c.in-Some-Ok.is-0)
    (rw c.in-Some-Ok.is-1 c.carry_out.ensures)

pub returns-in-None-default : goal.returns-in-None-default
unfolding fault_of fault_by
returns-in-None-default c =
    rw (c.rests-in-None-default.ensures, c.latch-in-None-default.ensures)
    (rw (← c.order_of-order.ensures, ← c.needs_of.ensures, ← c.fault_of-tested.ensures) (search rules))

pub returns-in_default-Err-Empty : goal.returns-in_default-Err-Empty
unfolding fault_of
returns-in_default-Err-Empty c =
    rw (c.rests.ensures, c.latch.ensures)
    (rw (← c.order_of-order.ensures, ← c.needs_of.ensures, ← c.fault_of-tested.ensures) (search rules))

pub returns-in_default-Err-Plugged : goal.returns-in_default-Err-Plugged
unfolding fault_of
returns-in_default-Err-Plugged c =
    rw (c.rests-in_default-Err-Plugged.ensures, c.raise.ensures)
    (rw (← c.order_of-order.ensures, ← c.needs_of.ensures, ← c.fault_of-tested.ensures) (search rules))

pub returns-in_default-Err-Full : goal.returns-in_default-Err-Full
unfolding fault_of
returns-in_default-Err-Full c =
    rw (c.rests-in_default-Err-Full.ensures, c.stop.ensures)
    (rw (← c.order_of-order.ensures, ← c.needs_of.ensures, ← c.fault_of-tested.ensures) (search rules))
