-- A core and tapes that answers 5 and 6 do not refuse.
use Prim.Native.Nat.{ℕ, ◌≤◌}
use mathlib.Core.Path.{◌≡◌, refl}
use mathlib.Core.Bool.{Bool, true, false}
use mathlib.Core.List.{List}
use lib.Dec.{leb}
use lib.ListN.{length}
use borrow.Author.Tests.{leb-true, le-leb}
use Rattle.rules.specs.declared.drive.Drive.{Drive}
use Rattle.rules.specs.declared.drive.Mode.{Mode}
use Rattle.rules.specs.declared.drive.Mode.TheVariants.{Idle, Writing, Reading}
use Rattle.rules.specs.declared.unit.Core.{Core}
use Rattle.rules.specs.Unit.{Lent, drive_at, tape_at, Whole}
use Rattle.tape.specs.Record.{longest}
use Rattle.rules.specs.Refusal.{mode_fits, late_fits, possible_drive, possible_phase, possible, short}
use Rattle.rules.specs.Effect.{Seat}
use Rattle.rules.specs.Step.{seat_of}
use Rattle.basis.proofs.Choosing.{both, join}
use Rattle.rules.proofs.Places.{one_holds, all_hold}

-- A drive's record that is possible.
pub record Fit (d : Drive) : Type 0 where
  pub near : d.head ≤ longest
  pub mode : mode_fits d.mode d.loaded d.protected ≡ true
  pub late : late_fits d.mode d.late ≡ true

pub fit_of : (d : Drive) → possible_drive d ≡ true → Fit d
unfolding possible_drive
fit_of d h =
    let p = both (leb d.head longest) _ h in
    let q = both (mode_fits d.mode d.loaded d.protected) (late_fits d.mode d.late) p.1 in
    record { near = leb-true _ _ p.0; mode = q.0; late = q.1 }

pub of_fit : (d : Drive) → Fit d → possible_drive d ≡ true
unfolding possible_drive
of_fit d f = join _ _ (le-leb _ _ f.near) (join _ _ f.mode f.late)

-- Idle fits wherever another mode does.
pub idle_fits : (m : Mode) (l p : Bool) → mode_fits m l p ≡ true → mode_fits Idle l p ≡ true
idle_fits Idle l p h = h
idle_fits Writing true p h = refl
idle_fits Writing false p h = cc
idle_fits Reading true p h = refl
idle_fits Reading false p h = cc

pub record Sound (c : Core) (l : Lent) : Type 0 where
  pub sel : c.port.selected ≤ 3
  pub phase : possible_phase c.port.phase (drive_at c c.port.selected).mode ≡ true
  pub fit : (i : ℕ) → Fit (drive_at c i)
  pub near : (i : ℕ) → length (tape_at l i) ≤ longest
  pub whole : Whole l

-- The same of what the selected drive sees.
pub record SoundSeat (s : Seat) : Type 0 where
  pub sel : s.port.selected ≤ 3
  pub phase : possible_phase s.port.phase s.drive.mode ≡ true
  pub fit : Fit s.drive
  pub near : length s.tape ≤ longest

pub sound_seat : (c : Core) (l : Lent) → Sound c l → SoundSeat (seat_of c l)
sound_seat c l k = record { sel = k.sel; phase = k.phase; fit = k.fit c.port.selected; near = k.near c.port.selected }

-- Sound is possible, with short tapes; and the other way.
pub sound_possible : (c : Core) (l : Lent) → Sound c l → possible c ≡ true
unfolding possible
sound_possible c l k =
    let f = all_hold Fit c.drive0 c.drive1 c.drive2 c.drive3 k.fit in
    simp (
      le-leb c.port.selected 3 k.sel,
      k.phase,
      of_fit c.drive0 f.0,
      of_fit c.drive1 f.1,
      of_fit c.drive2 f.2,
      of_fit
          c.drive3 f.3,
    )

pub sound_short : (c : Core) (l : Lent) → Sound c l → short l ≡ true
unfolding short
sound_short c l k =
    let f = all_hold (λ (t : List ℕ). length t ≤ longest) l.tape0 l.tape1 l.tape2 l.tape3 k.near in
    simp (
      le-leb (length l.tape0) longest f.0,
      le-leb (length l.tape1) longest f.1,
      le-leb (length l.tape2) longest f.2,
      le-leb
          (length l.tape3) longest f.3,
    )

-- every drive of a possible record
pub possible_fit : (c : Core) → possible c ≡ true → (i : ℕ) → Fit (drive_at c i)
unfolding possible
possible_fit c p =
    let p1 = both (possible_phase c.port.phase (drive_at c c.port.selected).mode) _ (both (leb c.port.selected 3) _ p).1 in
    let p2 = both (possible_drive c.drive0) _ p1.1 in
    let p3 = both (possible_drive c.drive1) _ p2.1 in
    let p4 = both (possible_drive c.drive2) _ p3.1 in
    one_holds Fit (fit_of _ p2.0) (fit_of _ p3.0) (fit_of _ p4.0) (fit_of _ p4.1)

pub sound : (c : Core) (l : Lent) → possible c ≡ true → short l ≡ true → Whole l → Sound c l
unfolding possible short
sound c l p q w =
    let p0 = both (leb c.port.selected 3) _ p in
    let p1 = both (possible_phase c.port.phase (drive_at c c.port.selected).mode) _ p0.1 in
    let q0 = both (leb (length l.tape0) longest) _ q in
    let q1 = both (leb (length l.tape1) longest) _ q0.1 in
    let q2 = both (leb (length l.tape2) longest) _ q1.1 in
    record {
      sel = leb-true _ _ p0.0;
      phase = p1.0;
      fit = possible_fit c p;
      near =
          one_holds (λ (t : List ℕ). length t ≤ longest) (leb-true _ _ q0.0) (leb-true _ _ q1.0) (leb-true _ _ q2.0)
          (leb-true _ _ q2.1);
      whole = w;
    }
