-- Possible stays possible, tapes keep their lengths, and that of a protected or empty drive stays as it was.
use Prim.Native.Nat.{ℕ, ◌≤◌, zero-le}
use mathlib.Core.Path.{◌≡◌, refl, sym, subst}
use mathlib.Core.Bool.{Bool, true, false}
use mathlib.Core.List.{List}
use native.Mathlib.Omega.{arith}
use lib.Dec.{eqb}
use lib.ListN.{length}
use borrow.Author.Tests.{eqb-true, eqb-false}
use Rattle.std.specs.Prelude.{Option, None, Some}
use Rattle.basis.specs.Choice.{pick}
use Rattle.rules.specs.declared.drive.Drive.{Drive}
use Rattle.rules.specs.declared.drive.Mode.{Mode}
use Rattle.rules.specs.declared.drive.Mode.TheVariants.{Idle, Writing, Reading}
use Rattle.rules.specs.declared.unit.Core.{Core}
use Rattle.rules.specs.declared.phase.Phase.{Phase}
use Rattle.rules.specs.declared.phase.Phase.TheVariants.{Rest, Taking, Giving, Status}
use Rattle.rules.specs.declared.unit.Port.{Port}
use Rattle.rules.specs.declared.event.Act.{Act}
use Rattle.rules.specs.declared.event.What.{What}
use Rattle.rules.specs.declared.event.What.TheVariants.{In, Out, Error, Underrun}
use Rattle.rules.specs.declared.event.Event.{Event}
use Rattle.rules.specs.declared.event.Event.TheVariants.{Reset, Named, Own}
use Rattle.rules.specs.declared.answer.Answer.TheVariants.{Taken}
use Rattle.rules.specs.Drive.{was_reset}
use Rattle.rules.specs.Unit.{Lent, drive_at, put_drive, tape_at, put_tape, at_phase, reset_core, Whole}
use Rattle.rules.specs.Event.{event_of}
use Rattle.tape.specs.Record.{longest}
use Rattle.rules.specs.Refusal.{mode_fits, possible_drive, possible_phase, possible, slot_answer, refusal_in}
use Rattle.rules.specs.Effect.{Acted}
use Rattle.rules.specs.Slot.{befallen, phase_after}
use Rattle.rules.specs.Step.{act, staged_in, seat_of, landed, effect_of, step_of}
use Rattle.rules.specs.Promises.Possible.{FreshIsPossible, StaysPossible, LengthsStay, StagingStaysWhole}
use Rattle.rules.specs.Promises.Plug.{ProtectedKeeps, EmptyKeeps}
use Rattle.rules.proofs.Places.{four, put_same, put_other, put_holds, one_holds, all_hold, Got, same, other, got}
use Rattle.rules.proofs.Sound.{Fit, Sound, idle_fits, sound_seat, sound_possible}
use Rattle.rules.proofs.Codes.{named_real}
use Rattle.rules.proofs.Good
use Rattle.rules.proofs.StepBy.{slot_empty, sound_step, staged_sound, own_does}

-- ---- the selected drive's act

landed_sound : (c : Core) (l : Lent) (m : Acted) → Sound c l → Good.Good (seat_of c l) m → Sound (landed c l m).turn.core (landed c l m).lent
unfolding possible_phase
landed_sound c l m k g = go g.land
  where
    n : ℕ
    n = c.port.selected

    d : Core
    d = put_drive c m.moved.port n m.moved.drive

    fits : (i : ℕ) → Fit (drive_at d i)
    fits =
        let f = all_hold Fit c.drive0 c.drive1 c.drive2 c.drive3 k.fit in
        put_holds Fit n g.fit f.0 f.1 f.2 f.3

    nears : (i : ℕ) → length (tape_at (put_tape l n m.tape) i) ≤ longest
    nears =
        let f = all_hold (λ (t : List ℕ). length t ≤ longest) l.tape0 l.tape1 l.tape2 l.tape3 k.near in
        put_holds (λ (t : List ℕ). length t ≤ longest) n (omega (arith, g.long, k.near n)) f.0 f.1 f.2 f.3

    go : Good.Landing n m.moved.port m.moved.drive.mode → Sound d (put_tape l n m.tape)
    go (Good.stays e h) = record { sel = rw e k.sel; phase = rw (e, put_same) h; fit = fits; near = nears; whole = k.whole }
    go (Good.rests e h) = record { sel = h; phase = rw e; fit = fits; near = nears; whole = k.whole }

-- ---- RESET, cartridges and counts

reset_sound : (c : Core) (l : Lent) → Sound c l → Sound (reset_core c) l
unfolding possible_phase
reset_sound c l k =
    let f = all_hold Fit c.drive0 c.drive1 c.drive2 c.drive3 k.fit in
    record {
      sel = zero-le;
      phase = refl;
      fit = one_holds Fit (one _ f.0) (one _ f.1) (one _ f.2) (one _ f.3);
      near = k.near;
      whole = k.whole;
    }
  where
    one : (d : Drive) → Fit d → Fit (was_reset d)
    one d f = record { near = zero-le; mode = idle_fits d.mode d.loaded d.protected f.mode; late = refl }

pub empty_idle : (m : Mode) (l p : Bool) → l ≡ false → mode_fits m l p ≡ true → m ≡ Idle
empty_idle Idle l p e h = refl
empty_idle Writing true p e h = cc
empty_idle Writing false p e h = cc
empty_idle Reading true p e h = cc
empty_idle Reading false p e h = cc

befallen_fit : (d : Drive) (w : What) → slot_answer d.loaded w ≡ Taken → Fit d → Fit (befallen w d)
befallen_fit d (In p) h f =
    record { near = zero-le; mode = rw (empty_idle d.mode d.loaded d.protected (slot_empty d.loaded h) f.mode); late = f.late }
befallen_fit d Out h f = record { near = zero-le; mode = refl; late = refl }
befallen_fit d Error h f = record { near = f.near; mode = f.mode; late = f.late }
befallen_fit d Underrun h f = record { near = f.near; mode = f.mode; late = f.late }

-- the phase still goes with the mode, where the drive named is the selected one and where it is not
befallen_phase : (d : Drive) (w : What) (ph : Phase) → possible_phase ph d.mode ≡ true
    → possible_phase (phase_after w true ph) (befallen w d).mode ≡ true
unfolding pick possible_phase
befallen_phase d (In p) ph h = h
befallen_phase d Out Rest h = refl
befallen_phase d Out (Taking n) h = refl
befallen_phase d Out (Giving n) h = refl
befallen_phase d Out (Status n) h = h
befallen_phase d Error ph h = h
befallen_phase d Underrun ph h = h

away_phase : (w : What) (ph : Phase) → phase_after w false ph ≡ ph
unfolding pick
away_phase (In p) ph = refl
away_phase Out ph = refl
away_phase Error ph = refl
away_phase Underrun ph = refl

named_sound : (c : Core) (l : Lent) → Sound c l → (i : ℕ) (w : What) → i ≤ 3 → slot_answer (drive_at c i).loaded w ≡ Taken
    → Sound (effect_of c l (Some (Named i w))).turn.core l
named_sound c l k i w r h = record { sel = k.sel; phase = go (eqb i n) refl; fit = fits; near = k.near; whole = k.whole }
  where
    n : ℕ
    n = c.port.selected

    d : Drive
    d = befallen w (drive_at c i)

    at : Bool → Port
    at b = at_phase (phase_after w b c.port.phase) c.port

    fits : (j : ℕ) → Fit (drive_at (put_drive c (at (eqb i n)) i d) j)
    fits =
        let f = all_hold Fit c.drive0 c.drive1 c.drive2 c.drive3 k.fit in
        put_holds Fit i (befallen_fit (drive_at c i) w h (k.fit i)) f.0 f.1 f.2 f.3

    go : (b : Bool) → eqb i n ≡ b → possible_phase (phase_after w b c.port.phase) (drive_at (put_drive c (at b) i d) n).mode ≡ true
    go true e = rw (eqb-true i n e, put_same) (befallen_phase (drive_at c n) w c.port.phase k.phase)
    go false e =
        rw (away_phase, put_other d c.drive0 c.drive1 c.drive2 c.drive3 (four i r) (four n k.sel) (eqb-false i n e)) k.phase

-- ---- a step

pub effect_sound : (c : Core) (l : Lent) (e : Option Event) → Sound c l → ((i : ℕ) (w : What) → e ≡ Some (Named i w) → i ≤ 3) → refusal_in c e ≡ Taken
    → Sound (effect_of c l e).turn.core (effect_of c l e).lent
effect_sound c l None k r h = k
effect_sound c l (Some Reset) k r h = reset_sound c l k
effect_sound c l (Some (Named i w)) k r h = named_sound c l k i w (r i w refl) h
effect_sound c l (Some (Own a)) k r h =
    let k2 = staged_sound c l a k in
    landed_sound c (staged_in c a l) _ k2 (Good.does_good (staged_in c a l).staging k2.whole (seat_of c l) (sound_seat c l k) a _
    (own_does c l a k h))

pub step_stays_sound : (c : Core) (l : Lent) (event : List ℕ) → Sound c l → Sound (step_of c l event).turn.core (step_of c l event).lent
step_stays_sound c l event k =
    sound_step (λ s. Sound s.turn.core s.lent) c l event k.whole (λ _. k) (λ k h. effect_sound c l (event_of event) k (named_real event) h)

pub stays_possible : StaysPossible
stays_possible c l event w p =
    sound_step (λ r. possible r.turn.core ≡ true) c l event w (λ _. p)
    (λ k h. sound_possible _ _ (effect_sound c l (event_of event) k (named_real event) h))

pub fresh_is_possible : FreshIsPossible
unfolding possible possible_phase possible_drive pick
fresh_is_possible = refl

-- ---- tapes

pub own_tape_lem : (c : Core) (l : Lent) (a : Act) (i : ℕ) → i ≤ 3 → Sound c l
    → Got i c.port.selected (act (staged_in c a l).staging (seat_of c l) a).tape (tape_at l i) (tape_at (effect_of c l (Some (Own a))).lent i)
own_tape_lem c l a i r k =
    got i c.port.selected (act (staged_in c a l).staging (seat_of c l) a).tape l.tape0 l.tape1 l.tape2 l.tape3 r k.sel

-- what holds of every tape before and after: an act's good tape, and each tape as it was
tape_step : (P : List ℕ → List ℕ → Type 0) → ((t : List ℕ) → P t t) → (c : Core) (l : Lent) (event : List ℕ) (i : ℕ) → i ≤ 3 → Whole l
    → ((m : Acted) → Good.Good (seat_of c l) m → c.port.selected ≡ i → P (tape_at l c.port.selected) m.tape)
    → P (tape_at l i) (tape_at (step_of c l event).lent i)
tape_step P same-tape c l event i r w f = sound_step (λ s. P (tape_at l i) (tape_at s.lent i)) c l event w (λ _. same-tape _) (go (event_of event))
  where
    own : (a : Act) (t : List ℕ) → Got i c.port.selected (act (staged_in c a l).staging (seat_of c l) a).tape (tape_at l i) t → Sound c l
        → refusal_in c (Some (Own a)) ≡ Taken → P (tape_at l i) t
    own a t (other n) k h = same-tape _
    own a t (same e) k h =
        subst (λ (j : ℕ). P (tape_at l j) (act (staged_in c a l).staging (seat_of c l) a).tape) e
        (f (act (staged_in c a l).staging (seat_of c l) a)
        (Good.does_good (staged_in c a l).staging (staged_sound c l a k).whole (seat_of c l) (sound_seat c l k) a _ (own_does c l a k h)) e)

    go : (e : Option Event) → Sound c l → refusal_in c e ≡ Taken → P (tape_at l i) (tape_at (effect_of c l e).lent i)
    go None k h = same-tape _
    go (Some Reset) k h = same-tape _
    go (Some (Named j x)) k h = same-tape _
    go (Some (Own a)) k h = own a _ (own_tape_lem c l a i r k) k h

pub lengths_stay : LengthsStay
lengths_stay c l event i r w = tape_step (λ t t'. length t' ≡ length t) (λ _. refl) c l event i r w (λ m g e. g.long)

pub protected_keeps : ProtectedKeeps
protected_keeps c l event i r w p =
    tape_step (λ t t'. t' ≡ t) (λ _. refl) c l event i r w (λ m g e. g.plug (subst (λ (j : ℕ). (drive_at c j).protected ≡ true) (sym e) p))

pub empty_keeps : EmptyKeeps
empty_keeps c l event i r w p =
    tape_step (λ t t'. t' ≡ t) (λ _. refl) c l event i r w (λ m g e. g.slot (subst (λ (j : ℕ). (drive_at c j).loaded ≡ false) (sym e) p))

pub staging_stays_whole : StagingStaysWhole
staging_stays_whole c l event w =
    sound_step (λ s. Whole s.lent) c l event w (λ _. w) (λ k h. (effect_sound c l (event_of event) k (named_real event) h).whole)
