-- The drive by its number; one that is none of 0, 1 and 2 means the last.
use Rattle.rules.specs.Unit.{put_at, put_last}
use Rattle.basis.specs.Choice.{pick}
use borrow.Author.Tests.{le-leb, ne_eqb}
use native.Mathlib.Omega.{arith}
use Rattle.rules.proofs.unit.Core.put.Goals as goal

pub returns-in-0 : goal.returns-in-0
unfolding pick put_at put_last
returns-in-0 c = rw c.in-0.is

pub returns-in-1 : goal.returns-in-1
unfolding pick put_at put_last
returns-in-1 c = rw c.in-1.is

pub returns-in-2 : goal.returns-in-2
unfolding pick put_at put_last
returns-in-2 c = rw c.in-2.is

pub returns-in_default : goal.returns-in_default
unfolding pick put_at put_last
returns-in_default c =
    let i = c.args.i in
    rw (
      ne_eqb i 0 (λ e. omega (arith, e)),
      ne_eqb i 1 (λ e. omega (arith, e)),
      ne_eqb i 2 (λ e. omega (arith, e)),
      le-leb 3 i (omega arith),
    )
