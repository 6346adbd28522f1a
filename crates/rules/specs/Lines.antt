-- The three lines, by the phase and the selected drive.
use Rattle.std.specs.Prelude.{false, not, ◌&&◌, ◌||◌}
use Rattle.rules.specs.declared.phase.Phase.{Phase}
use Rattle.rules.specs.declared.unit.Core.{Core}
use Rattle.rules.specs.declared.drive.Drive.{Drive}
use Rattle.rules.specs.declared.answer.Lines.{Lines}
use Rattle.rules.specs.Drive.{reads}
use Rattle.rules.specs.Phase.{is_status, rest_or_status}
use Rattle.rules.specs.Unit.{drive_at}

abbrev pub lines_at : Phase → Drive → Lines
lines_at ph d =
    record { ready = not d.exception && rest_or_status ph; exception = d.exception; direction = is_status ph || reads d }

unfoldable pub lines_of : Core → Lines
lines_of c = lines_at c.port.phase (drive_at c c.port.selected)

-- After answer 5.
abbrev pub lines_down : Lines
lines_down = record { ready = false; exception = false; direction = false }
