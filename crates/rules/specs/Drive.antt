-- State: one drive's record, and its moves.
use Rattle.std.specs.Prelude.{ℕ, ◌+◌, Bool, true, false, not, ◌&&◌, ltb}
use Rattle.basis.specs.Choice.{pick}
use Rattle.rules.specs.declared.drive.Drive.{Drive}
use Rattle.rules.specs.declared.drive.Latched.{Latched}
use Rattle.rules.specs.declared.drive.Errors.{Errors}
use Rattle.rules.specs.declared.drive.Underruns.{Underruns}
use Rattle.rules.specs.declared.drive.Mode.{Mode}
use Rattle.rules.specs.declared.drive.Mode.TheVariants.{Idle, Writing, Reading}
use Rattle.rules.specs.declared.drive.Bit.{Bit}
use Rattle.rules.specs.declared.drive.Bit.TheVariants.{Cni, Eom, Ude, Bnl, Fil, Ill, Ndt, Por}

abbrev pub is_writing : Mode → Bool
is_writing Idle = false
is_writing Writing = true
is_writing Reading = false

abbrev pub is_reading : Mode → Bool
is_reading Idle = false
is_reading Writing = false
is_reading Reading = true

-- No bit latched, and one more.
abbrev pub no_bits : Latched
no_bits = record { cni = false; eom = false; ude = false; bnl = false; fil = false; ill = false; ndt = false; por = false }

abbrev pub with_bit : Bit → Latched → Latched
with_bit Cni l = record { cni = true; eom = l.eom; ude = l.ude; bnl = l.bnl; fil = l.fil; ill = l.ill; ndt = l.ndt; por = l.por }
with_bit Eom l = record { cni = l.cni; eom = true; ude = l.ude; bnl = l.bnl; fil = l.fil; ill = l.ill; ndt = l.ndt; por = l.por }
with_bit Ude l = record { cni = l.cni; eom = l.eom; ude = true; bnl = l.bnl; fil = l.fil; ill = l.ill; ndt = l.ndt; por = l.por }
with_bit Bnl l = record { cni = l.cni; eom = l.eom; ude = l.ude; bnl = true; fil = l.fil; ill = l.ill; ndt = l.ndt; por = l.por }
with_bit Fil l = record { cni = l.cni; eom = l.eom; ude = l.ude; bnl = l.bnl; fil = true; ill = l.ill; ndt = l.ndt; por = l.por }
with_bit Ill l = record { cni = l.cni; eom = l.eom; ude = l.ude; bnl = l.bnl; fil = l.fil; ill = true; ndt = l.ndt; por = l.por }
with_bit Ndt l = record { cni = l.cni; eom = l.eom; ude = l.ude; bnl = l.bnl; fil = l.fil; ill = l.ill; ndt = true; por = l.por }
with_bit Por l = record { cni = l.cni; eom = l.eom; ude = l.ude; bnl = l.bnl; fil = l.fil; ill = l.ill; ndt = l.ndt; por = true }

-- A record by its parts: cartridge and plug; head; mode and late blocks still allowed; EXCEPTION and latched bits; both counts.
abbrev pub drive : Bool → Bool → ℕ → Mode → ℕ → Bool → Latched → Errors → Underruns → Drive
drive l p h m n e k a b =
    record { loaded = l; protected = p; head = h; mode = m; late = n; exception = e; latched = k; errors = a; underruns = b }

-- Each part set by itself: what a move does not name stays.
abbrev pub set_cartridge : Bool → Bool → Drive → Drive
set_cartridge l p d = drive l p d.head d.mode d.late d.exception d.latched d.errors d.underruns

abbrev pub set_head : ℕ → Drive → Drive
set_head h d = drive d.loaded d.protected h d.mode d.late d.exception d.latched d.errors d.underruns

-- Another mode, and with it no late block: the one place that changes the mode. Then so many late blocks allowed.
abbrev pub in_mode : Mode → Drive → Drive
in_mode m d = drive d.loaded d.protected d.head m 0 d.exception d.latched d.errors d.underruns

abbrev pub allowing : ℕ → Drive → Drive
allowing n d = drive d.loaded d.protected d.head d.mode n d.exception d.latched d.errors d.underruns

abbrev pub set_report : Bool → Latched → Drive → Drive
set_report e k d = drive d.loaded d.protected d.head d.mode d.late e k d.errors d.underruns

abbrev pub set_counts : Errors → Underruns → Drive → Drive
set_counts a b d = drive d.loaded d.protected d.head d.mode d.late d.exception d.latched a b

abbrev pub no_errors : Errors
no_errors = record { 0 = 0 }

abbrev pub no_underruns : Underruns
no_underruns = record { 0 = 0 }

-- Fresh: no cartridge or plug, head 0, Idle, no late block, counters 0, POR latched and EXCEPTION up.
abbrev pub fresh_drive : Drive
fresh_drive = drive false false 0 Idle 0 true (with_bit Por no_bits) no_errors no_underruns

-- RESET: as fresh; cartridge and plug stay.
abbrev pub was_reset : Drive → Drive
was_reset d = set_cartridge d.loaded d.protected fresh_drive

abbrev pub rewound : Drive → Drive
rewound d = set_head 0 d

-- SELECT leaves the record as it is.
abbrev pub chosen : Drive → Drive
chosen d = d

-- EXCEPTION alone.
abbrev pub raised : Drive → Drive
raised d = set_report true d.latched d

-- A bit latched, with EXCEPTION up.
abbrev pub latching : Bit → Drive → Drive
latching b d = set_report true (with_bit b d.latched) d

-- A bit latched by a rule that makes the mode Idle.
abbrev pub stopping : Bit → Drive → Drive
stopping b d = latching b (in_mode Idle d)

-- Record made: the head past it. Records passed: the head where passing ended.
abbrev pub made : ℕ → Drive → Drive
made next d = set_head next d

abbrev pub passed_to : ℕ → Drive → Drive
passed_to at d = set_head at d

-- What READ STATUS takes away once its octets are made.
abbrev pub cleared : Drive → Drive
cleared d = set_counts no_errors no_underruns (set_report false no_bits d)

-- A cartridge comes in with its plug, and stands at its beginning.
abbrev pub loaded_with : Bool → Drive → Drive
loaded_with plug d = rewound (set_cartridge true plug d)

-- A cartridge is pulled: the drive stops with CNI, and nothing of cartridge, plug or place is left.
abbrev pub pulled : Drive → Drive
pulled d = rewound (set_cartridge false false (stopping Cni d))

-- One more, but never past the highest count.
abbrev pub highest : ℕ
highest = 65535

unfoldable pub counted : ℕ → ℕ
counted n = pick (ltb n highest) (n + 1) n

abbrev pub error_counted : Drive → Drive
error_counted d = set_counts (record { 0 = counted d.errors.0 }) d.underruns d

abbrev pub underrun_counted : Drive → Drive
underrun_counted d = set_counts d.errors (record { 0 = counted d.underruns.0 }) d

-- Writing, or Reading, without EXCEPTION.
abbrev pub writes : Drive → Bool
writes d = is_writing d.mode && not d.exception

abbrev pub reads : Drive → Bool
reads d = is_reading d.mode && not d.exception
