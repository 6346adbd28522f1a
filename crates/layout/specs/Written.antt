-- The record of a unit written as bytes, field by field.
use Rattle.std.specs.Prelude.{ℕ, ◌≡◌, Bool, true, false, List, [], ◌∷◌, ◌++◌, length}
use Rattle.tape.specs.Record.{body_size}
use Rattle.rules.specs.declared.drive.Drive.{Drive}
use Rattle.rules.specs.declared.drive.Latched.{Latched}
use Rattle.rules.specs.declared.drive.Mode.{Mode}
use Rattle.rules.specs.declared.drive.Mode.TheVariants.{Idle, Writing, Reading}
use Rattle.rules.specs.declared.phase.Phase.{Phase}
use Rattle.rules.specs.declared.unit.Port.{Port}
use Rattle.rules.specs.declared.unit.Core.{Core}
use Rattle.rules.specs.declared.unit.Unit.{Unit}
use Rattle.rules.specs.Phase.{report_size, which_phase, how_far}
use Rattle.layout.specs.Number.{two, four, eight}

-- The first byte of every record.
abbrev pub version : ℕ
version = 2

-- The bytes of the port, of a drive, and of a whole record.
abbrev pub port_size : ℕ
port_size = 18

abbrev pub drive_size : ℕ
drive_size = 32

abbrev pub record_size : ℕ
record_size = 658

-- Where the phase begins, in the port and in a whole record.
abbrev pub phase_at : ℕ
phase_at = 3

-- What stands in room that no field has.
abbrev pub unused : ℕ
unused = 0

-- A bool and a mode.
abbrev pub flag : Bool → ℕ
flag false = 0
flag true = 1

abbrev pub mode_byte : Mode → ℕ
mode_byte Idle = 0
mode_byte Writing = 1
mode_byte Reading = 2

-- The latched bits, a byte each in the order of the octets.
abbrev pub latched_bytes : Latched → List ℕ
latched_bytes l = flag l.cni ∷ flag l.eom ∷ flag l.ude ∷ flag l.bnl ∷ flag l.fil ∷ flag l.ill ∷ flag l.ndt ∷ flag l.por ∷ []

-- Cartridge and plug with room behind them, mode and late blocks, EXCEPTION.
abbrev pub state_bytes : Drive → List ℕ
state_bytes d = flag d.loaded ∷ flag d.protected ∷ unused ∷ mode_byte d.mode ∷ d.late ∷ flag d.exception ∷ []

-- A drive: head, room for a number, errors, underruns, state, latched bits, two bytes to spare.
unfoldable pub drive_bytes : Drive → List ℕ
drive_bytes d =
    eight d.head
    ++ (four unused
    ++ (two d.errors.0 ++ (two d.underruns.0 ++ (state_bytes d ++ (latched_bytes d.latched ++ two unused)))))

-- A phase: which of the four it is, and its number.
abbrev pub phase_bytes : Phase → List ℕ
phase_bytes ph = which_phase ph ∷ eight (how_far ph)

-- The port: version, selected drive and ONLINE, phase, octets.
unfoldable pub port_bytes : Port → List ℕ
port_bytes p = (version ∷ p.selected ∷ flag p.online ∷ []) ++ (phase_bytes p.phase ++ p.octets)

-- A unit is its core and its staging block.
abbrev pub unit : Core → List ℕ → Unit
unit c g = record { core = c; staging = g }

-- The octets and the staging block have as many bytes as their types say.
pub record Sized (u : Unit) : Type 0 where
  pub octets : length u.core.port.octets ≡ report_size
  pub staging : length u.staging ≡ body_size

-- THE LAYOUT of a record: the port, four drives, the staging block.
unfoldable pub unit_bytes : Unit → List ℕ
unit_bytes u =
    port_bytes u.core.port
    ++ (drive_bytes u.core.drive0
    ++ (drive_bytes u.core.drive1 ++ (drive_bytes u.core.drive2 ++ (drive_bytes u.core.drive3 ++ u.staging))))
