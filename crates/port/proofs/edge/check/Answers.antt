-- The head moves past a mark only where one is found, so the sum is inside the tape.
use mathlib.Core.Path.{ap, ◌∙◌}
use Rattle.std.specs.Prelude.{Ok}
use Rattle.rules.specs.Edge.{checked}
use Rattle.basis.specs.Tests.{told}
use Rattle.tape.proofs.Standing.{mark_fits}
use native.Mathlib.Omega.{arith}
use Rattle.port.proofs.edge.check.Goals as goal

pub overflow_add-drive : goal.overflow_add-drive
overflow_add-drive c =
    let a = c.args in
    omega (arith, mark_fits a.tape.now a.drive.head (told c.found_at.ensures c.in-Ok-Mark.is ∙ ap Ok c.in-Ok-Mark.field-0-is))

pub returns-in-Ok-Block : goal.returns-in-Ok-Block
unfolding checked
returns-in-Ok-Block c = rw (← c.found_at.ensures, c.in-Ok-Block.is, c.in-Ok-Block.field-0-is)

pub returns-in-Ok-Mark : goal.returns-in-Ok-Mark
unfolding checked
returns-in-Ok-Mark c =
    rw (c.stop.ensures, c.pass_to.ensures, ← c.found_at.ensures, c.in-Ok-Mark.is, c.in-Ok-Mark.field-0-is)

pub returns-in-Err : goal.returns-in-Err
unfolding checked
returns-in-Err c = rw (c.halt.ensures, ← c.found_at.ensures, c.in-Err.is)
