use Rattle.rules.specs.Bytes.{octet_taken}
use Rattle.port.proofs.taken.take_octet.Goals as goal

pub returns : goal.returns
unfolding octet_taken
returns c =
    λ t. rw (
      c.hands.ensures,
      c.after_octet.ensures,
      c.next_octet.ensures,
    )
