-- Cartridges and counts: what happens at a drive that an event names.
use Rattle.std.specs.Prelude.{Bool, true, false, ◌&&◌}
use Rattle.basis.specs.Choice.{pick}
use Rattle.rules.specs.declared.drive.Drive.{Drive}
use Rattle.rules.specs.declared.phase.Phase.{Phase}
use Rattle.rules.specs.declared.phase.Phase.TheVariants.{Rest, Taking, Giving, Status}
use Rattle.rules.specs.declared.event.What.{What}
use Rattle.rules.specs.declared.event.What.TheVariants.{In, Out, Error, Underrun}
use Rattle.rules.specs.Drive.{loaded_with, pulled, error_counted, underrun_counted}

-- Cartridge in, cartridge out, or one counter of that drive raised.
abbrev pub befallen : What → Drive → Drive
befallen (In plug) d = loaded_with plug d
befallen Out d = pulled d
befallen Error d = error_counted d
befallen Underrun d = underrun_counted d

abbrev pub is_out : What → Bool
is_out (In plug) = false
is_out Out = true
is_out Error = false
is_out Underrun = false

-- The phase without a part block; octets that are going out go on.
abbrev pub part_dropped : Phase → Phase
part_dropped Rest = Rest
part_dropped (Taking n) = Rest
part_dropped (Giving n) = Rest
part_dropped (Status k) = Status k

-- That is so where a cartridge is out of the selected drive; else the phase stays.
abbrev pub phase_after : What → Bool → Phase → Phase
phase_after w here ph = pick (is_out w && here) (part_dropped ph) ph
