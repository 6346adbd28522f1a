use mathlib.Core.Path.{◌∙◌, ap}
use Rattle.std.proofs.lemmas.Result.{err_from_is_err_and}
use Rattle.std.specs.Option.{ok_or}
use Rattle.rules.specs.declared.order.Fault.TheVariants.{Illegal}
use Rattle.rules.specs.Order.{fault_by}
use Rattle.basis.specs.Tests.{told}
use Rattle.basis.specs.Choice.{pick}
use Rattle.orders.proofs.order.fault_of.Goals as goal

pub returns-in_err-needs : goal.returns-in_err-needs
unfolding fault_by
returns-in_err-needs c =
    let p = err_from_is_err_and c.from_residual.result c.from_residual.ensures.1 in
    let none = c.in_err-needs.ensures.ok_part in
    let e = c.in_err-needs.ensures.value ∙ ap (λ o. ok_or o Illegal) none in
    rw (p.1, p.2, none) (cc)

pub returns-then-illegal : goal.returns-then-illegal
unfolding pick fault_by
returns-then-illegal c = rw (c.in_ok-needs.ensures.ok_part, told c.illegal.ensures c.if-illegal.true)

pub returns-then-needs-drive : goal.returns-then-needs-drive
unfolding pick fault_by
returns-then-needs-drive c =
    rw (c.in_ok-needs.ensures.ok_part, told c.illegal.ensures c.if-illegal.false, c.if-needs-drive.true)

pub returns-then-needs-drive-2 : goal.returns-then-needs-drive-2
unfolding pick fault_by
returns-then-needs-drive-2 c =
    rw (c.in_ok-needs.ensures.ok_part, told c.illegal.ensures c.if-illegal.false, c.if-needs-drive.false, c.if-needs-drive-2.true)

pub returns-then-not-room_for : goal.returns-then-not-room_for
unfolding pick fault_by
returns-then-not-room_for c =
    rw (
      c.in_ok-needs.ensures.ok_part,
      told c.illegal.ensures c.if-illegal.false,
      c.if-needs-drive.false,
      c.if-needs-drive-2.false,
      told c.room_for.ensures c.if-not-room_for.true,
    )

pub returns : goal.returns
unfolding pick fault_by
returns c =
    rw (
      c.in_ok-needs.ensures.ok_part,
      told c.illegal.ensures c.if-illegal.false,
      c.if-needs-drive.false,
      c.if-needs-drive-2.false,
      told c.room_for.ensures c.if-not-room_for.false,
    )
