-- The edge check, and passing records.
use Rattle.std.specs.Prelude.{ℕ, ◌+◌, Bool, true, false, not, List, Result, Ok, Err}
use Rattle.tape.specs.declared.found.Kind.{Kind}
use Rattle.tape.specs.declared.found.Kind.TheVariants.{Block, Mark}
use Rattle.tape.specs.declared.found.Why.{Why}
use Rattle.tape.specs.declared.found.Why.TheVariants.{End, Unknown, Bad}
use Rattle.tape.specs.declared.pass.Stopped.{Stopped}
use Rattle.tape.specs.Record.{found_at, mark_size}
use Rattle.rules.specs.declared.drive.Drive.{Drive}
use Rattle.rules.specs.declared.drive.Bit.TheVariants.{Ude, Bnl, Fil, Ndt}
use Rattle.rules.specs.declared.order.Checked.{Checked}
use Rattle.rules.specs.Drive.{latching, stopping, passed_to}

abbrev pub is_block : Result Kind Why → Bool
is_block (Ok Block) = true
is_block (Ok Mark) = false
is_block (Err w) = false

-- Where there is no record to go on with: the bits tell why, and the drive is Idle. Only a kind that nobody knows latches BNL beside UDE.
abbrev pub halted : Why → Drive → Drive
halted End d = stopping Ndt d
halted Unknown d = latching Bnl (stopping Ude d)
halted Bad d = stopping Ude d

-- In the middle of a block all but a whole block is a bad record, the end of data and a mark too; only a kind that nobody knows is told apart.
abbrev pub spoilt : Result Kind Why → Why
spoilt (Ok Block) = Bad
spoilt (Ok Mark) = Bad
spoilt (Err End) = Bad
spoilt (Err Unknown) = Unknown
spoilt (Err Bad) = Bad

-- What stands at the head decides: only a block lets a drive go on; a mark is passed and reported.
abbrev pub edged : Result Kind Why → Drive → Drive
edged (Ok Block) d = d
edged (Ok Mark) d = stopping Fil (passed_to (d.head + mark_size) d)
edged (Err w) d = halted w d

abbrev pub checked_by : Result Kind Why → Drive → Checked
checked_by f d = record { raised = not (is_block f); drive = edged f d }

-- The edge check looks at what stands at the head.
unfoldable pub checked : List ℕ → Drive → Checked
checked t d = checked_by (found_at t d.head) d

-- READ FILE MARK, by where passing records ended: the head goes there, and the bit tells what was met.
abbrev pub standing : Result ℕ Stopped → Drive → Drive
standing (Ok at) d = stopping Fil (passed_to at d)
standing (Err s) d = halted s.why (passed_to s.at d)
