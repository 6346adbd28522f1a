-- What is looked for of one drive.
use Rattle.rules.specs.declared.drive.Drive.{Drive}
use Rattle.rules.specs.Drive.{writes}
use Rattle.answers.specs.declared.looks.Seen.{Seen}

-- Whether a cartridge is in, and whether the drive takes data.
abbrev pub look_of : Drive → Seen
look_of d = record { loaded = d.loaded; writes = writes d }
