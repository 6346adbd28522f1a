-- The tests in the order of the definition.
use Rattle.rules.specs.Unit.{one_of}
use Rattle.basis.specs.Choice.{pick}
use Rattle.rules.specs.Refusal.{possible}
use Rattle.board.proofs.judge.possible_in.Goals as goal

pub returns : goal.returns
unfolding possible one_of pick
returns c =
    rw (
      c.possible_drive-drive3.ensures,
      c.drive_in-5.ensures,
      c.possible_drive-drive2.ensures,
      c.drive_in-4.ensures,
      c.possible_drive-drive1.ensures,
      c.drive_in-3.ensures,
      c.possible_drive-drive0.ensures,
      c.drive_in-2.ensures,
      c.possible_at-place.ensures,
      c.drive_in.ensures,
      c.port_in-port.ensures,
    )
