-- Any two outcomes that a contract allows are equal: of a step, and of each public function of the records.
use Rattle.std.specs.Prelude.{ℕ, ◌≡◌, Bool, List}
use Rattle.rules.specs.declared.answer.Answer.{Answer}
use Rattle.rules.specs.declared.answer.Turn.{Turn}
use Rattle.rules.specs.declared.drive.Bit.{Bit}
use Rattle.rules.specs.declared.drive.Drive.{Drive}
use Rattle.rules.specs.declared.drive.Errors.{Errors}
use Rattle.rules.specs.declared.drive.Latched.{Latched}
use Rattle.rules.specs.declared.drive.Mode.{Mode}
use Rattle.rules.specs.declared.drive.Underruns.{Underruns}
use Rattle.rules.specs.declared.phase.Phase.{Phase}
use Rattle.rules.specs.declared.unit.Core.{Core}
use Rattle.rules.specs.declared.unit.Port.{Port}
use Rattle.rules.specs.declared.unit.Unit.{Unit}
use Rattle.rules.specs.Answer.{row_of}
use Rattle.rules.specs.Drive.{is_writing, is_reading, with_bit, no_bits, fresh_drive, was_reset, rewound, chosen, raised, latching, stopping}
use Rattle.rules.specs.Drive.{in_mode, allowing, made, passed_to, cleared, error_counted, underrun_counted, loaded_with, pulled, writes, reads}
use Rattle.rules.specs.Late.{one_less}
use Rattle.rules.specs.Phase.{at_rest, is_status, rest_or_status, given_before, taken_before, outstanding, which_phase, how_far}
use Rattle.rules.specs.Step.{Steps}
use Rattle.rules.specs.Unit.{Lent, at_phase, at_level, at_drive, showing, fresh_port, drive_at, put_drive, fresh_core, reset_core, fresh_unit}

abbrev pub StepsOnce : Type 0
StepsOnce =
    (c : Core) (l : Lent) (event : List ℕ) (r r' : Turn) (l' l'' : Lent) → Steps c l event r l' → Steps c l event r' l'' → (r ≡ r') × (l' ≡ l'')

-- A field for each public function of the records, by the definition that its contract names.
pub record OneOutcome : Type 0 where
  pub is_writing : (m : Mode) (r r' : Bool) → r ≡ is_writing m → r' ≡ is_writing m → r ≡ r'
  pub is_reading : (m : Mode) (r r' : Bool) → r ≡ is_reading m → r' ≡ is_reading m → r ≡ r'
  pub latched_none : (r r' : Latched) → r ≡ no_bits → r' ≡ no_bits → r ≡ r'
  pub latched_with : (l : Latched) (b : Bit) (r r' : Latched) → r ≡ with_bit b l → r' ≡ with_bit b l → r ≡ r'
  pub drive_fresh : (r r' : Drive) → r ≡ fresh_drive → r' ≡ fresh_drive → r ≡ r'
  pub in_mode : (d : Drive) (m : Mode) (r r' : Drive) → r ≡ in_mode m d → r' ≡ in_mode m d → r ≡ r'
  pub allow : (d : Drive) (late : ℕ) (r r' : Drive) → r ≡ allowing late d → r' ≡ allowing late d → r ≡ r'
  pub one_less : (d r r' : Drive) → r ≡ one_less d → r' ≡ one_less d → r ≡ r'
  pub drive_reset : (d r r' : Drive) → r ≡ was_reset d → r' ≡ was_reset d → r ≡ r'
  pub rewind : (d r r' : Drive) → r ≡ rewound d → r' ≡ rewound d → r ≡ r'
  pub select : (d r r' : Drive) → r ≡ chosen d → r' ≡ chosen d → r ≡ r'
  pub raise : (d r r' : Drive) → r ≡ raised d → r' ≡ raised d → r ≡ r'
  pub latch : (d : Drive) (b : Bit) (r r' : Drive) → r ≡ latching b d → r' ≡ latching b d → r ≡ r'
  pub stop : (d : Drive) (b : Bit) (r r' : Drive) → r ≡ stopping b d → r' ≡ stopping b d → r ≡ r'
  pub made : (d : Drive) (next : ℕ) (r r' : Drive) → r ≡ made next d → r' ≡ made next d → r ≡ r'
  pub pass_to : (d : Drive) (at : ℕ) (r r' : Drive) → r ≡ passed_to at d → r' ≡ passed_to at d → r ≡ r'
  pub clear_status : (d r r' : Drive) → r ≡ cleared d → r' ≡ cleared d → r ≡ r'
  pub load : (d : Drive) (plug : Bool) (r r' : Drive) → r ≡ loaded_with plug d → r' ≡ loaded_with plug d → r ≡ r'
  pub unload : (d r r' : Drive) → r ≡ pulled d → r' ≡ pulled d → r ≡ r'
  pub count_error : (d r r' : Drive) → r ≡ error_counted d → r' ≡ error_counted d → r ≡ r'
  pub count_underrun : (d r r' : Drive) → r ≡ underrun_counted d → r' ≡ underrun_counted d → r ≡ r'
  pub number_of_errors : (n : Errors) (r r' : ℕ) → r ≡ n.0 → r' ≡ n.0 → r ≡ r'
  pub number_of_underruns : (n : Underruns) (r r' : ℕ) → r ≡ n.0 → r' ≡ n.0 → r ≡ r'
  pub writes : (d : Drive) (r r' : Bool) → r ≡ writes d → r' ≡ writes d → r ≡ r'
  pub reads : (d : Drive) (r r' : Bool) → r ≡ reads d → r' ≡ reads d → r ≡ r'
  pub at_rest : (ph : Phase) (r r' : Bool) → r ≡ at_rest ph → r' ≡ at_rest ph → r ≡ r'
  pub is_status : (ph : Phase) (r r' : Bool) → r ≡ is_status ph → r' ≡ is_status ph → r ≡ r'
  pub rest_or_status : (ph : Phase) (r r' : Bool) → r ≡ rest_or_status ph → r' ≡ rest_or_status ph → r ≡ r'
  pub given_before : (ph : Phase) (r r' : ℕ) → r ≡ given_before ph → r' ≡ given_before ph → r ≡ r'
  pub taken_before : (ph : Phase) (r r' : ℕ) → r ≡ taken_before ph → r' ≡ taken_before ph → r ≡ r'
  pub outstanding : (ph : Phase) (r r' : ℕ) → r ≡ outstanding ph → r' ≡ outstanding ph → r ≡ r'
  pub which : (ph : Phase) (r r' : ℕ) → r ≡ which_phase ph → r' ≡ which_phase ph → r ≡ r'
  pub how_far : (ph : Phase) (r r' : ℕ) → r ≡ how_far ph → r' ≡ how_far ph → r ≡ r'
  pub number : (a : Answer) (r r' : ℕ) → r ≡ (row_of a).number → r' ≡ (row_of a).number → r ≡ r'
  pub refuses : (a : Answer) (r r' : Bool) → r ≡ (row_of a).refuses → r' ≡ (row_of a).refuses → r ≡ r'
  pub lines_down : (a : Answer) (r r' : Bool) → r ≡ (row_of a).lines_down → r' ≡ (row_of a).lines_down → r ≡ r'
  pub port_fresh : (r r' : Port) → r ≡ fresh_port → r' ≡ fresh_port → r ≡ r'
  pub at_phase : (p : Port) (ph : Phase) (r r' : Port) → r ≡ at_phase ph p → r' ≡ at_phase ph p → r ≡ r'
  pub at_level : (p : Port) (online : Bool) (r r' : Port) → r ≡ at_level online p → r' ≡ at_level online p → r ≡ r'
  pub at_drive : (p : Port) (selected : ℕ) (r r' : Port) → r ≡ at_drive selected p → r' ≡ at_drive selected p → r ≡ r'
  pub show : (p : Port) (octets : List ℕ) (r r' : Port) → r ≡ showing octets p → r' ≡ showing octets p → r ≡ r'
  pub core_fresh : (r r' : Core) → r ≡ fresh_core → r' ≡ fresh_core → r ≡ r'
  pub drive : (c : Core) (i : ℕ) (r r' : Drive) → r ≡ drive_at c i → r' ≡ drive_at c i → r ≡ r'
  pub put : (c : Core) (p : Port) (i : ℕ) (d : Drive) (r r' : Core) → r ≡ put_drive c p i d → r' ≡ put_drive c p i d → r ≡ r'
  pub core_reset : (c r r' : Core) → r ≡ reset_core c → r' ≡ reset_core c → r ≡ r'
  pub unit_fresh : (r r' : Unit) → r ≡ fresh_unit → r' ≡ fresh_unit → r ≡ r'
