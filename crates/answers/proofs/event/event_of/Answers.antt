use mathlib.Core.Path.{◌≡◌}
use lib.ListN.{length}
use native.Mathlib.Omega.{arith}
use borrow.Author.Tests.{ne_eqb}
use Rattle.rules.specs.Event.{event_of}
use Rattle.basis.specs.Choice.{pick}
use Rattle.answers.proofs.event.event_of.Goals as goal

pub returns-in-len1 : goal.returns-in-len1
unfolding pick event_of
returns-in-len1 c =
    let n : length c.args.event.now ≡ 1 = omega (arith, c.in-len1.len_at_least, c.in-len1.len_below) in
    rw (c.bare_event.ensures, n)

pub returns-in-len2 : goal.returns-in-len2
unfolding pick event_of
returns-in-len2 c =
    let n : length c.args.event.now ≡ 2 = omega (arith, c.in-len2.len_at_least, c.in-len2.len_below) in
    rw (c.bodied_event.ensures, n)

pub returns-in_default : goal.returns-in_default
unfolding pick event_of
returns-in_default c =
    let n = length c.args.event.now in
    let few = c.in_default.len_below in
    rw (ne_eqb n 1 (λ e. omega (arith, e, few)), ne_eqb n 2 (λ e. omega (arith, e, few)))

pub returns-in_default-2 : goal.returns-in_default-2
unfolding pick event_of
returns-in_default-2 c =
    let n = length c.args.event.now in
    let many = c.in_default.len_at_least in
    rw (ne_eqb n 1 (λ e. omega (arith, e, many)), ne_eqb n 2 (λ e. omega (arith, e, many)))
