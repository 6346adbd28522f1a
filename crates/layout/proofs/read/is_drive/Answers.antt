-- The tests of a drive; the latched bits and the room have their own.
use Rattle.layout.specs.Read.{is_drive}
use Rattle.layout.proofs.read.is_drive.Goals as goal

pub returns : goal.returns
unfolding is_drive
returns c = rw (c.leaves_room.ensures, c.is_latched.ensures)
