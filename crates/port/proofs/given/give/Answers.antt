use Rattle.basis.specs.Choice.{pick}
use borrow.Author.Tests.{le-ltb, lt-ltb}
use Rattle.port.proofs.given.give.Goals as goal

pub returns-then-n-lt-LAST_PLACE : goal.returns-then-n-lt-LAST_PLACE
unfolding pick
returns-then-n-lt-LAST_PLACE c =
    rw (
      c.leaves.ensures,
      c.at_phase.ensures,
      ← c.given_before-n.ensures,
      lt-ltb _ _
          c.if-n-lt-LAST_PLACE.true,
    )

pub returns : goal.returns
unfolding pick
returns c =
    rw (
      ← c.given_before-n.ensures,
      le-ltb _ _ c.if-n-lt-LAST_PLACE.false,
      c.store.ensures,
    )
