-- Each public contract leaves one outcome: any two that it allows are equal.
use Rattle.std.specs.Prelude.{ℕ, ◌≡◌, Bool, List}
use Rattle.basis.specs.Placed.{placed}
use Rattle.rules.specs.declared.drive.Drive.{Drive}
use Rattle.rules.specs.declared.phase.Phase.{Phase}
use Rattle.rules.specs.declared.unit.Port.{Port}
use Rattle.rules.specs.declared.unit.Core.{Core}
use Rattle.rules.specs.Unit.{drive_at}
use Rattle.layout.specs.Written.{flag, phase_at, phase_bytes, unit, unit_bytes}
use Rattle.layout.specs.Read.{is_record, core_of, staging_of}

pub record OneOutcome : Type 0 where
  pub flag : (b : Bool) (r r' : ℕ) → r ≡ flag b → r' ≡ flag b → r ≡ r'
  pub is_record : (l : List ℕ) (r r' : Bool) → r ≡ is_record l → r' ≡ is_record l → r ≡ r'
  pub port_in : (l : List ℕ) (r r' : Port) → r ≡ (core_of l).port → r' ≡ (core_of l).port → r ≡ r'
  pub drive_in : (l : List ℕ) (i : ℕ) (r r' : Drive) → r ≡ drive_at (core_of l) i → r' ≡ drive_at (core_of l) i → r ≡ r'
  pub core_of : (l : List ℕ) (r r' : Core) → r ≡ core_of l → r' ≡ core_of l → r ≡ r'
  pub write_core : (c : Core) (l l' l'' : List ℕ) → l' ≡ unit_bytes (unit c (staging_of l)) → l'' ≡ unit_bytes (unit c (staging_of l)) → l' ≡ l''
  pub write_record : (c : Core) (g l' l'' : List ℕ) → l' ≡ unit_bytes (unit c g) → l'' ≡ unit_bytes (unit c g) → l' ≡ l''
  pub write_phase : (ph : Phase) (l l' l'' : List ℕ) → l' ≡ placed l phase_at (phase_bytes ph) → l'' ≡ placed l phase_at (phase_bytes ph) → l' ≡ l''
