-- Early warning: the room that a block asks for, and the late blocks that a WRITE past it may still take.
use Rattle.std.specs.Prelude.{ℕ, ◌+◌, ◌-◌, Bool, not, ◌&&◌, leb, eqb}
use Rattle.basis.specs.Choice.{pick}
use Rattle.tape.specs.Record.{block_size}
use Rattle.rules.specs.declared.drive.Drive.{Drive}
use Rattle.rules.specs.declared.drive.Mode.TheVariants.{Writing}
use Rattle.rules.specs.Drive.{in_mode, allowing}

-- What is kept behind a block: 1028 bytes past early warning; behind a late block one, for the end of data or the mark that closes it.
abbrev pub kept : ℕ
kept = 1028

abbrev pub kept_late : ℕ
kept_late = 1

-- A late WRITE takes at most two blocks.
abbrev pub late_blocks : ℕ
late_blocks = 2

-- What is kept where so many late blocks are still allowed. In a WRITE that is not late there are none.
abbrev pub spare_of : ℕ → ℕ
spare_of late = pick (eqb late 0) kept kept_late

-- THE ROOM TEST of a block: head + 1541 <= L, or head + 514 <= L in a late WRITE.
abbrev pub block_room : ℕ → ℕ → ℕ → Bool
block_room late h length = leb (h + (block_size + spare_of late)) length

-- WRITE is a late one exactly where the test of other blocks fails.
unfoldable pub allowed_at : ℕ → ℕ → ℕ
allowed_at h length = pick (block_room 0 h length) 0 late_blocks

abbrev pub begun : ℕ → Drive → Drive
begun length d = allowing (allowed_at d.head length) (in_mode Writing d)

-- A block recorded: one late block less. A WRITE goes on unless that was its last one, or the next fails the same test.
abbrev pub one_less : Drive → Drive
one_less d = allowing (d.late - 1) d

unfoldable pub goes_on : ℕ → ℕ → ℕ → Bool
goes_on late h length = not (eqb late 1) && block_room late h length
