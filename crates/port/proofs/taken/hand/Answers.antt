use Rattle.rules.specs.Bytes.{handed}
use Rattle.basis.specs.Choice.{pick}
use borrow.Author.Tests.{le-ltb, lt-ltb}
use Rattle.port.proofs.taken.hand.Goals as goal

pub returns-then-n-lt-LAST_PLACE : goal.returns-then-n-lt-LAST_PLACE
unfolding pick handed
returns-then-n-lt-LAST_PLACE c = rw (c.hands.ensures, lt-ltb _ _ c.if-n-lt-LAST_PLACE.true)

pub returns : goal.returns
unfolding pick handed
returns c =
    rw (
      c.hands-2.ensures,
      ← c.pass_to.ensures,
      ← c.check-edge.ensures,
      le-ltb _ _
          c.if-n-lt-LAST_PLACE.false,
    )
