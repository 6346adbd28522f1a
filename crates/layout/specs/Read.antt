-- Bytes read as a record: which bytes are one, and what it is.
use Rattle.std.specs.Prelude.{ℕ, Bool, ◌&&◌, ◌||◌, List, [], ◌∷◌, eqb, leb, length, take, drop}
use Rattle.basis.specs.Choice.{pick}
use Rattle.tape.specs.Record.{body_size}
use Rattle.rules.specs.declared.drive.Drive.{Drive}
use Rattle.rules.specs.declared.drive.Latched.{Latched}
use Rattle.rules.specs.declared.drive.Mode.{Mode}
use Rattle.rules.specs.declared.drive.Mode.TheVariants.{Idle, Writing, Reading}
use Rattle.rules.specs.declared.phase.Phase.{Phase}
use Rattle.rules.specs.declared.phase.Phase.TheVariants.{Rest, Taking, Giving, Status}
use Rattle.rules.specs.declared.unit.Port.{Port}
use Rattle.rules.specs.declared.unit.Core.{Core}
use Rattle.rules.specs.declared.unit.Unit.{Unit}
use Rattle.layout.specs.Number.{byte_at, two_at, four_at, eight_at}
use Rattle.layout.specs.Written.{version, unused, port_size, drive_size, record_size}

-- The n bytes that begin at an offset.
unfoldable pub stretch : ℕ → ℕ → List ℕ → List ℕ
stretch at n l = take n (drop at l)

-- A bool is 0 or 1; a mode 0 to 2; a phase 0 to 3, with no number at Rest.
abbrev pub is_flag : ℕ → Bool
is_flag b = leb b 1

abbrev pub is_mode : ℕ → Bool
is_mode b = leb b 2

abbrev pub is_phase : ℕ → ℕ → Bool
is_phase b n = leb b 3 && (leb 1 b || eqb n 0)

-- Room that no field has is unused, or a record would have many forms.
abbrev pub is_unused : ℕ → Bool
is_unused n = eqb n unused

-- Eight bools, the room among a drive's fields, a drive's bytes, the port's bytes.
abbrev pub is_latched : List ℕ → Bool
is_latched l =
    is_flag (byte_at l 22)
    && (is_flag (byte_at l 23)
    && (is_flag (byte_at l 24)
    && (is_flag (byte_at l 25) && (is_flag (byte_at l 26) && (is_flag (byte_at l 27) && (is_flag (byte_at l 28) && is_flag (byte_at l 29)))))))

abbrev pub leaves_room : List ℕ → Bool
leaves_room l =
    is_unused (four_at l 8)
    && (is_unused (byte_at l 18) && is_unused (two_at l 30))

unfoldable pub is_drive : List ℕ → Bool
is_drive l =
    is_flag (byte_at l 16)
    && (is_flag (byte_at l 17) && (is_mode (byte_at l 19) && (is_flag (byte_at l 21) && (is_latched l && leaves_room l))))

unfoldable pub is_port : List ℕ → Bool
is_port l = eqb (byte_at l 0) version && (is_flag (byte_at l 2) && is_phase (byte_at l 3) (eight_at l 4))

-- WHICH BYTES ARE A RECORD: as many as a record has, and each part of them what it should be. It may still be one that cannot be.
unfoldable pub is_record : List ℕ → Bool
is_record l =
    eqb (length l) record_size
    && (is_port (stretch 0 port_size l)
    && (is_drive (stretch 18 drive_size l)
    && (is_drive (stretch 50 drive_size l) && (is_drive (stretch 82 drive_size l) && is_drive (stretch 114 drive_size l)))))

-- What the bytes say, field by field, in the order in which they are written.
abbrev pub flag_of : ℕ → Bool
flag_of b = eqb b 1

unfoldable pub mode_of : ℕ → Mode
mode_of b = pick (eqb b 0) Idle (pick (eqb b 1) Writing Reading)

unfoldable pub phase_of : ℕ → ℕ → Phase
phase_of b n = pick (eqb b 0) Rest (pick (eqb b 1) (Taking n) (pick (eqb b 2) (Giving n) (Status n)))

abbrev pub latched_of : List ℕ → Latched
latched_of l =
    record {
      cni = flag_of (byte_at l 22);
      eom = flag_of (byte_at l 23);
      ude = flag_of (byte_at l 24);
      bnl = flag_of (byte_at l 25);
      fil = flag_of (byte_at l 26);
      ill = flag_of (byte_at l 27);
      ndt = flag_of (byte_at l 28);
      por = flag_of (byte_at l 29);
    }

unfoldable pub drive_of : List ℕ → Drive
drive_of l =
    record {
      head = eight_at l 0;
      errors = record { 0 = two_at l 12 };
      underruns = record { 0 = two_at l 14 };
      loaded = flag_of (byte_at l 16);
      protected = flag_of (byte_at l 17);
      mode = mode_of (byte_at l 19);
      late = byte_at l 20;
      exception = flag_of (byte_at l 21);
      latched = latched_of l;
    }

unfoldable pub port_of : List ℕ → Port
port_of l =
    record {
      selected = byte_at l 1;
      online = flag_of (byte_at l 2);
      phase = phase_of (byte_at l 3) (eight_at l 4);
      octets = byte_at l 12 ∷ byte_at l 13 ∷ byte_at l 14 ∷ byte_at l 15 ∷ byte_at l 16 ∷ byte_at l 17 ∷ [];
    }

unfoldable pub core_of : List ℕ → Core
core_of l =
    record {
      port = port_of (stretch 0 port_size l);
      drive0 = drive_of (stretch 18 drive_size l);
      drive1 = drive_of (stretch 50 drive_size l);
      drive2 = drive_of (stretch 82 drive_size l);
      drive3 = drive_of (stretch 114 drive_size l);
    }

unfoldable pub staging_of : List ℕ → List ℕ
staging_of l = stretch 146 body_size l

abbrev pub unit_of : List ℕ → Unit
unit_of l = record { core = core_of l; staging = staging_of l }

-- A buffer of a record's size, whatever is in it.
abbrev pub fits : List ℕ → Bool
fits l = eqb (length l) record_size
