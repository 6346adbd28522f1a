-- EXCEPTION, latched bits and counts over one event.
use Prim.Native.Nat.{ℕ, ◌+◌, ◌*◌, ◌/◌, ◌%◌, ◌≤◌}
use mathlib.Core.Path.{◌≡◌, refl, sym, ap, subst, ◌∙◌}
use mathlib.Core.Bool.{Bool, true, false, true≢false, false≢true}
use mathlib.Core.List.{List}
use native.Mathlib.Omega.{arith}
use lib.Dec.{ltb, eqb}
use borrow.Author.Tests.{eqb-true, eqb-false}
use Rattle.std.specs.Prelude.{Option, None, Some}
use Rattle.basis.specs.Choice.{pick}
use Rattle.rules.specs.declared.drive.Drive.{Drive}
use Rattle.rules.specs.declared.drive.Bit.TheVariants.{Cni}
use Rattle.rules.specs.declared.unit.Core.{Core}
use Rattle.rules.specs.declared.event.Act.{Act}
use Rattle.rules.specs.declared.event.Act.TheVariants.{Command, Give, Take, Online, Offline}
use Rattle.rules.specs.declared.event.What.{What}
use Rattle.rules.specs.declared.event.What.TheVariants.{In, Out, Error, Underrun}
use Rattle.rules.specs.declared.event.Event.{Event}
use Rattle.rules.specs.declared.event.Event.TheVariants.{Reset, Named, Own}
use Rattle.rules.specs.declared.answer.Answer.{Answer}
use Rattle.rules.specs.declared.answer.Answer.TheVariants.{Taken, Raised}
use Rattle.rules.specs.Drive.{highest, counted, was_reset}
use Rattle.rules.specs.Unit.{Lent, drive_at, reset_core}
use Rattle.rules.specs.Event.{event_of}
use Rattle.rules.specs.Answer.{row_of}
use Rattle.rules.specs.Phase.{at_rest}
use Rattle.rules.specs.Refusal.{refusal_in}
use Rattle.rules.specs.Slot.{befallen, is_out}
use Rattle.rules.specs.Octets.{octets_of}
use Rattle.rules.specs.Step.{act, staged_in, seat_of, effect_of}
use Rattle.rules.specs.Promises.Status.{ByStatus, ExceptionFalls, StandsOnOne, RaisedStands, TakenRaisesNone, ReportStays, ClearedOnly, ReportTellsCounts}
use Rattle.rules.proofs.Places.{Got, same, other, got, put_same, one_holds}
use Rattle.rules.proofs.Sound.{Sound}
use Rattle.rules.proofs.Codes.{named_real}
use Rattle.rules.proofs.Leaves
use Rattle.rules.proofs.Refused.{raised_is, quiet_is}
use Rattle.rules.proofs.StepBy.{in_step_lem, step_sound, sound_step, own_does}

-- ---- the drive at i after an event that is taken

pub own_drive : (c : Core) (l : Lent) (a : Act) (i : ℕ) → i ≤ 3 → Sound c l
    → Got i c.port.selected (act (staged_in c a l).staging (seat_of c l) a).moved.drive (drive_at c i)
    (drive_at (effect_of c l (Some (Own a))).turn.core i)
own_drive c l a i r k =
    got i c.port.selected (act (staged_in c a l).staging (seat_of c l) a).moved.drive c.drive0 c.drive1 c.drive2 c.drive3 r k.sel

pub named_drive : (c : Core) (l : Lent) (j : ℕ) (w : What) (i : ℕ) → i ≤ 3 → j ≤ 3
    → Got i j (befallen w (drive_at c j)) (drive_at c i) (drive_at (effect_of c l (Some (Named j w))).turn.core i)
named_drive c l j w i r q = got i j (befallen w (drive_at c j)) c.drive0 c.drive1 c.drive2 c.drive3 r q

-- READ STATUS or not
data Kind (a : Act) : Type 0 where
  status : a ≡ Command 192 → Kind a
  no_status : (a ≡ Command 192 → ⊥) → Kind a

octet_of : Act → ℕ
octet_of (Command c) = c
octet_of (Give b) = 0
octet_of Take = 0
octet_of Online = 0
octet_of Offline = 0

kind : (a : Act) → Kind a
unfolding octet_of
kind (Command c) = go (eqb c 192) refl
  where
    go : (b : Bool) → eqb c 192 ≡ b → Kind (Command c)
    go true e = status (ap Command (eqb-true c 192 e))
    go false e = no_status (λ q. eqb-false c 192 e (ap octet_of q))
kind (Give b) = no_status (λ q. let z : ◌≡◌ {A = ℕ} 0 1 = cc in omega arith)
kind Take = no_status (λ q. let z : ◌≡◌ {A = ℕ} 0 1 = cc in omega arith)
kind Online = no_status (λ q. let z : ◌≡◌ {A = ℕ} 0 1 = cc in omega arith)
kind Offline = no_status (λ q. let z : ◌≡◌ {A = ℕ} 0 1 = cc in omega arith)

by_status : (c : Core) (event : List ℕ) (i : ℕ) (a : Act) → event_of event ≡ Some (Own a) → a ≡ Command 192 → c.port.selected ≡ i
    → refusal_in c (Some (Own a)) ≡ Taken → ByStatus c event i
by_status c event i a q e n h = record { event_is = q ∙ ap (λ (x : Act). Some (Own x)) e; selected = n; rest = in_step_lem (at_rest c.port.phase) (rw e at h) }

-- ---- EXCEPTION falls only by READ STATUS

befallen_held : (d : Drive) (w : What) → d.exception ≡ true → (befallen w d).exception ≡ true
befallen_held d (In p) h = h
befallen_held d Out h = refl
befallen_held d Error h = h
befallen_held d Underrun h = h

-- what holds of every drive that was reset holds of each after RESET
pub reset_holds : (P : Drive → Type 0) → ((d : Drive) → P (was_reset d)) → (c : Core) (i : ℕ) → P (drive_at (reset_core c) i)
reset_holds P f c i = one_holds P (f c.drive0) (f c.drive1) (f c.drive2) (f c.drive3) i

reset_up : (c : Core) (i : ℕ) → (drive_at (reset_core c) i).exception ≡ true
reset_up = reset_holds (λ d. d.exception ≡ true) (λ d. refl)

module _ (c : Core) (l : Lent) (event : List ℕ) (i : ℕ) (real : i ≤ 3) (up : (drive_at c i).exception ≡ true) where
  fell : {b : Bool} → b ≡ true → b ≡ false → ByStatus c event i
  fell h z = absurd (true≢false (sym h ∙ z))

  named_falls : (j : ℕ) (w : What) (d : Drive) → Got i j (befallen w (drive_at c j)) (drive_at c i) d → d.exception ≡ false → ByStatus c event i
  named_falls j w d (other n) z = fell up z
  named_falls j w d (same e) z = fell (befallen_held (drive_at c j) w (subst (λ (k : ℕ). (drive_at c k).exception ≡ true) (sym e) up)) z

  own_falls : (a : Act) → event_of event ≡ Some (Own a) → Sound c l → refusal_in c (Some (Own a)) ≡ Taken → (d : Drive)
      → Got i c.port.selected (act (staged_in c a l).staging (seat_of c l) a).moved.drive (drive_at c i) d → d.exception ≡ false
      → ByStatus c event i
  own_falls a q k h d (other n) z = fell up z
  own_falls a q k h d (same e) z = go (kind a)
    where
      go : Kind a → ByStatus c event i
      go (status s) = by_status c event i a q s e h
      go (no_status n) =
          fell ((Leaves.does_leaf (staged_in c a l).staging (seat_of c l) a _ (own_does c l a k h)).held
          (subst (λ (j : ℕ). (drive_at c j).exception ≡ true) (sym e) up) n) z

  effect_falls : (e : Option Event) → event_of event ≡ e → Sound c l → refusal_in c e ≡ Taken → (drive_at (effect_of c l e).turn.core i).exception ≡ false
      → ByStatus c event i
  effect_falls None q k h z = fell up z
  effect_falls (Some Reset) q k h z = fell (reset_up c i) z
  effect_falls (Some (Named j w)) q k h z = named_falls j w _ (named_drive c l j w i real (named_real event j w q)) z
  effect_falls (Some (Own a)) q k h z = own_falls a q k h _ (own_drive c l a i real k) z

pub exception_falls : ExceptionFalls
exception_falls c l event i r w up =
    sound_step (λ s. (drive_at s.turn.core i).exception ≡ false → ByStatus c event i) c l event w (λ a z. fell c l event i r up up z)
    (effect_falls c l event i r up (event_of event) refl)

-- ---- answer 1 and answer 0

out_is : (w : What) → is_out w ≡ true → w ≡ Out
out_is (In p) h = cc
out_is Out h = refl
out_is Error h = cc
out_is Underrun h = cc

effect_stands : (c : Core) (l : Lent) (event : List ℕ) (e : Option Event) → event_of event ≡ e → Sound c l → refusal_in c e ≡ Taken
    → (effect_of c l e).turn.answer ≡ Raised → StandsOnOne (effect_of c l e).turn.core
effect_stands c l event None q k h z = let x : false ≡ true = raised_is false z in absurd (false≢true x)
effect_stands c l event (Some Reset) q k h z = record { drive = 0; real = omega arith; up = reset_up c 0 }
effect_stands c l event (Some (Named j w)) q k h z =
    record {
      drive = j;
      real = named_real event j w q;
      up = rw put_same (subst (λ (x : What). (befallen x (drive_at c j)).exception ≡ true) (sym (out_is w (raised_is (is_out w) z))) refl);
    }
effect_stands c l event (Some (Own a)) q k h z =
    record {
      drive = c.port.selected;
      real = k.sel;
      up = rw put_same ((Leaves.does_leaf (staged_in c a l).staging (seat_of c l) a _ (own_does c l a k h)).raise (raised_is _ z));
    }

refused_not : (a : Answer) → (row_of a).refuses ≡ true → (b : Answer) → (row_of b).refuses ≡ false → a ≡ b → ⊥
refused_not a r b n e = true≢false (sym r ∙ ap (λ (x : Answer). (row_of x).refuses) e ∙ n)

pub raised_stands : RaisedStands
raised_stands c l event w =
    step_sound (λ s. s.turn.answer ≡ Raised → StandsOnOne s.turn.core) c l event w (λ a r z. absurd (refused_not a r Raised refl z))
    (effect_stands c l event (event_of event) refl)

befallen_quiet : (d : Drive) (w : What) → is_out w ≡ false → (befallen w d).exception ≡ true → d.exception ≡ true
befallen_quiet d (In p) n h = h
befallen_quiet d Out n h = absurd (true≢false n)
befallen_quiet d Error n h = h
befallen_quiet d Underrun n h = h

module _ (c : Core) (l : Lent) (event : List ℕ) (i : ℕ) (real : i ≤ 3) where
  named_quiet : (j : ℕ) (w : What) (d : Drive) → Got i j (befallen w (drive_at c j)) (drive_at c i) d → is_out w ≡ false → d.exception ≡ true
      → (drive_at c i).exception ≡ true
  named_quiet j w d (other n) z u = u
  named_quiet j w d (same e) z u = subst (λ (k : ℕ). (drive_at c k).exception ≡ true) e (befallen_quiet (drive_at c j) w z u)

  own_quiet : (a : Act) → Sound c l → refusal_in c (Some (Own a)) ≡ Taken → (d : Drive)
      → Got i c.port.selected (act (staged_in c a l).staging (seat_of c l) a).moved.drive (drive_at c i) d
      → (act (staged_in c a l).staging (seat_of c l) a).moved.raised ≡ false
      → d.exception ≡ true → (drive_at c i).exception ≡ true
  own_quiet a k h d (other n) z u = u
  own_quiet a k h d (same e) z u =
      subst (λ (j : ℕ). (drive_at c j).exception ≡ true) e ((Leaves.does_leaf (staged_in c a l).staging (seat_of c l) a _ (own_does c l a k h)).quiet z u)

  effect_quiet : (e : Option Event) → event_of event ≡ e → Sound c l → refusal_in c e ≡ Taken → (effect_of c l e).turn.answer ≡ Taken
      → (drive_at (effect_of c l e).turn.core i).exception ≡ true → (drive_at c i).exception ≡ true
  effect_quiet None q k h z u = u
  effect_quiet (Some Reset) q k h z u = let x : true ≡ false = quiet_is true z in absurd (true≢false x)
  effect_quiet (Some (Named j w)) q k h z u = named_quiet j w _ (named_drive c l j w i real (named_real event j w q)) (quiet_is (is_out w) z) u
  effect_quiet (Some (Own a)) q k h z u = own_quiet a k h _ (own_drive c l a i real k) (quiet_is _ z) u

pub taken_raises_none : TakenRaisesNone
taken_raises_none c l event i r w =
    sound_step (λ s. s.turn.answer ≡ Taken → (drive_at s.turn.core i).exception ≡ true → (drive_at c i).exception ≡ true) c l event w
    (λ a z u. u) (effect_quiet c l event i r (event_of event) refl)

-- ---- bits and counts are cleared by READ STATUS and RESET alone

counted_up : (n : ℕ) → n ≤ counted n
unfolding counted pick
counted_up n = go (ltb n highest)
  where
    go : (b : Bool) → n ≤ pick b (n + 1) n
    go true = omega arith
    go false = omega arith

befallen_report : (d : Drive) (w : What) → ReportStays d (befallen w d)
befallen_report d (In p) = Leaves.report_same d _ refl refl refl
befallen_report d Out = Leaves.report_more d _ Cni refl refl refl
befallen_report d Error =
    let r = Leaves.report_same d d refl refl refl in record { bits = r.bits; errors = counted_up d.errors.0; underruns = r.underruns }
befallen_report d Underrun =
    let r = Leaves.report_same d d refl refl refl in record { bits = r.bits; errors = r.errors; underruns = counted_up d.underruns.0 }

module _ (c : Core) (l : Lent) (event : List ℕ) (i : ℕ) (real : i ≤ 3) (no-reset : event_of event ≡ Some Reset → ⊥)
    (no-status' : ByStatus c event i → ⊥) where
  as_was : ReportStays (drive_at c i) (drive_at c i)
  as_was = Leaves.report_same (drive_at c i) (drive_at c i) refl refl refl

  named_report : (j : ℕ) (w : What) (d : Drive) → Got i j (befallen w (drive_at c j)) (drive_at c i) d → ReportStays (drive_at c i) d
  named_report j w d (other n) = as_was
  named_report j w d (same e) = subst (λ (k : ℕ). ReportStays (drive_at c k) (befallen w (drive_at c j))) e (befallen_report (drive_at c j) w)

  own_report : (a : Act) → event_of event ≡ Some (Own a) → Sound c l → refusal_in c (Some (Own a)) ≡ Taken → (d : Drive)
      → Got i c.port.selected (act (staged_in c a l).staging (seat_of c l) a).moved.drive (drive_at c i) d → ReportStays (drive_at c i) d
  own_report a q k h d (other n) = as_was
  own_report a q k h d (same e) =
      subst (λ (j : ℕ). ReportStays (drive_at c j) (act (staged_in c a l).staging (seat_of c l) a).moved.drive) e
      ((Leaves.does_leaf (staged_in c a l).staging (seat_of c l) a _ (own_does c l a k h)).report (λ s. no-status' (by_status c event i a q s e h)))

  effect_report : (e : Option Event) → event_of event ≡ e → Sound c l → refusal_in c e ≡ Taken
      → ReportStays (drive_at c i) (drive_at (effect_of c l e).turn.core i)
  effect_report None q k h = as_was
  effect_report (Some Reset) q k h = absurd (no-reset q)
  effect_report (Some (Named j w)) q k h = named_report j w _ (named_drive c l j w i real (named_real event j w q))
  effect_report (Some (Own a)) q k h = own_report a q k h _ (own_drive c l a i real k)

pub cleared_only : ClearedOnly
cleared_only c l event i r w n s =
    sound_step (λ x. ReportStays (drive_at c i) (drive_at x.turn.core i)) c l event w (λ a. as_was c l event i r n s)
    (effect_report c l event i r n s (event_of event) refl)

-- ---- the report

halves : (n : ℕ) → 256 * (n / 256) + n % 256 ≡ n
halves n = omega arith

pub report_tells_counts : ReportTellsCounts
unfolding octets_of
report_tells_counts d = record { errors = halves d.errors.0; underruns = halves d.underruns.0 }
