-- Every record is given back by its bytes.
use Prim.Native.Nat.{ℕ, ◌+◌}
use mathlib.Core.Path.{◌≡◌, refl, ◌∙◌}
use mathlib.Core.Bool.{Bool, true, false}
use mathlib.Core.List.{List, ◌++◌}
use native.Mathlib.Nat.{mod-add-div}
use lib.ListN.{length, length-append}
use Rattle.basis.specs.Choice.{pick}
use Rattle.rules.specs.declared.drive.Drive.{Drive}
use Rattle.rules.specs.declared.drive.Mode.{Mode}
use Rattle.rules.specs.declared.drive.Mode.TheVariants.{Idle, Writing, Reading}
use Rattle.rules.specs.declared.phase.Phase.{Phase}
use Rattle.rules.specs.declared.phase.Phase.TheVariants.{Rest, Taking, Giving, Status}
use Rattle.rules.specs.declared.unit.Port.{Port}
use Rattle.rules.specs.declared.unit.Unit.{Unit}
use Rattle.rules.specs.Phase.{report_size, which_phase, how_far}
use Rattle.layout.specs.Written.{flag, mode_byte, drive_bytes, port_bytes, Sized, unit_bytes}
use Rattle.layout.specs.Written.{port_size, drive_size, record_size}
use Rattle.layout.specs.Read.{stretch, is_flag, is_mode, is_phase, is_drive, is_port, is_record}
use Rattle.layout.specs.Read.{flag_of, mode_of, phase_of, drive_of, port_of, core_of, staging_of}
use Rattle.layout.specs.Laws.{ReadBack}
use Rattle.layout.proofs.Stretch.{stretch_end, skip, here}
use Rattle.layout.proofs.Parts.{six, port_long, drive_long}

-- what is written of a bool, a mode or a phase is taken for one, and is read as what it was
flag_back : (b : Bool) → flag_of (flag b) ≡ b
flag_back true = refl
flag_back false = refl

flag_fits : (b : Bool) → is_flag (flag b) ≡ true
flag_fits true = refl
flag_fits false = refl

mode_back : (m : Mode) → mode_of (mode_byte m) ≡ m
unfolding mode_of pick
mode_back Idle = refl
mode_back Writing = refl
mode_back Reading = refl

mode_fits_lem : (m : Mode) → is_mode (mode_byte m) ≡ true
mode_fits_lem Idle = refl
mode_fits_lem Writing = refl
mode_fits_lem Reading = refl

phase_back : (p : Phase) → phase_of (which_phase p) (how_far p) ≡ p
unfolding phase_of pick
phase_back Rest = refl
phase_back (Taking n) = refl
phase_back (Giving n) = refl
phase_back (Status k) = refl

phase_fits : (p : Phase) → is_phase (which_phase p) (how_far p) ≡ true
phase_fits Rest = refl
phase_fits (Taking n) = refl
phase_fits (Giving n) = refl
phase_fits (Status k) = refl

-- so is a drive, and the port; a number is given back by its halves
drive_back : (d : Drive) → drive_of (drive_bytes d) ≡ d
unfolding drive_of drive_bytes
drive_back d = simp (flag_back, mode_back, mod-add-div)

drive_fits : (d : Drive) → is_drive (drive_bytes d) ≡ true
unfolding is_drive drive_bytes
drive_fits d = simp (flag_fits, mode_fits_lem)

port_back : (p : Port) → length p.octets ≡ report_size → port_of (port_bytes p) ≡ p
unfolding port_of port_bytes
port_back p size = simp (flag_back, mod-add-div, phase_back, six p.octets size)

port_fits : (p : Port) → is_port (port_bytes p) ≡ true
unfolding is_port port_bytes
port_fits p = simp (flag_fits, mod-add-div, phase_fits)

-- The parts of a record stand where they are read.
record Laid (u : Unit) (l : List ℕ) : Type 0 where
  pub port : stretch 0 port_size l ≡ port_bytes u.core.port
  pub drive0 : stretch 18 drive_size l ≡ drive_bytes u.core.drive0
  pub drive1 : stretch 50 drive_size l ≡ drive_bytes u.core.drive1
  pub drive2 : stretch 82 drive_size l ≡ drive_bytes u.core.drive2
  pub drive3 : stretch 114 drive_size l ≡ drive_bytes u.core.drive3
  pub staging : stretch 146 512 l ≡ u.staging
  pub size : length l ≡ record_size

laid : (u : Unit) → Sized u → Laid u (unit_bytes u)
unfolding unit_bytes
laid u sized =
    let p = port_bytes u.core.port in
    let d0 = drive_bytes u.core.drive0 in
    let d1 = drive_bytes u.core.drive1 in
    let d2 = drive_bytes u.core.drive2 in
    let d3 = drive_bytes u.core.drive3 in
    let g = u.staging in
    let p-long = port_long u.core.port sized.octets in
    let l0 = drive_long u.core.drive0 in
    let l1 = drive_long u.core.drive1 in
    let l2 = drive_long u.core.drive2 in
    let l3 = drive_long u.core.drive3 in
    let r3 = d3 ++ g in
    let r2 = d2 ++ r3 in
    let r1 = d1 ++ r2 in
    let r0 = d0 ++ r1 in
    let l = p ++ r0 in
    let past-port : (m k : ℕ) → stretch (18 + m) k l ≡ stretch m k r0 = λ m k. skip p r0 18 m k p-long in
    let past0 : (m k : ℕ) → stretch (18 + (32 + m)) k l ≡ stretch m k r1 = λ m k. past-port (32 + m) k ∙ skip d0 r1 32 m k l0 in
    let past1 : (m k : ℕ) → stretch (18 + (32 + (32 + m))) k l ≡ stretch m k r2 = λ m k. past0 (32 + m) k ∙ skip d1 r2 32 m k l1 in
    let past2 : (m k : ℕ) → stretch (18 + (32 + (32 + (32 + m)))) k l ≡ stretch m k r3 = λ m k. past1 (32 + m) k ∙ skip d2 r3 32 m k l2 in
    record {
      port = here p r0 18 p-long;
      drive0 = past-port 0 32 ∙ here d0 r1 32 l0;
      drive1 = past0 0 32 ∙ here d1 r2 32 l1;
      drive2 = past1 0 32 ∙ here d2 r3 32 l2;
      drive3 = past2 0 32 ∙ here d3 g 32 l3;
      staging = past2 32 512 ∙ skip d3 g 32 0 512 l3 ∙ stretch_end g 0 512 sized.staging;
      size = simp (length-append, p-long, l0, l1, l2, l3, sized.staging);
    }

pub read_back : ReadBack
unfolding is_record core_of staging_of
read_back u sized =
    let at = laid u sized in
    let k = u.core in (
      rw (
        at.size,
        at.port,
        at.drive0,
        at.drive1,
        at.drive2,
        at.drive3,
        port_fits k.port,
        drive_fits k.drive0,
        drive_fits k.drive1,
        drive_fits k.drive2,
        drive_fits k.drive3,
      )
          refl,
      rw (
        at.port,
        at.drive0,
        at.drive1,
        at.drive2,
        at.drive3,
        at.staging,
        port_back k.port sized.octets,
        drive_back k.drive0,
        drive_back k.drive1,
        drive_back k.drive2,
        drive_back k.drive3,
      )
          refl,
    )
