-- The drive by its number; one that is none of 0, 1 and 2 means the last.
use mathlib.Core.Path.{sym}
use native.Mathlib.Omega.{arith}
use Rattle.rules.specs.Unit.{one_of}
use Rattle.rules.proofs.Places.{last_one}
use Rattle.basis.specs.Choice.{pick}
use Rattle.rules.proofs.unit.Core.drive.Goals as goal

pub returns-in-0 : goal.returns-in-0
unfolding pick one_of
returns-in-0 c = rw c.in-0.is

pub returns-in-1 : goal.returns-in-1
unfolding pick one_of
returns-in-1 c = rw c.in-1.is

pub returns-in-2 : goal.returns-in-2
unfolding pick one_of
returns-in-2 c = rw c.in-2.is

pub returns-in_default : goal.returns-in_default
returns-in_default c =
    sym (last_one c.args.i _ _ _ _ (λ e. omega (arith, e)) (λ e. omega (arith, e)) (λ e. omega (arith, e)))
