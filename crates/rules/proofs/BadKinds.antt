-- UDE and BNL of one event, and over a run.
use Prim.Native.Nat.{ℕ, ◌≤◌}
use mathlib.Core.Path.{◌≡◌, refl, sym, ap, subst, ◌∙◌}
use mathlib.Core.Bool.{true, false, true≢false, false≢true}
use mathlib.Core.List.{List, [], ◌∷◌}
use native.Mathlib.Omega.{arith}
use lib.ListN.{length-replicate}
use Rattle.std.specs.Prelude.{Option, None, Some}
use Rattle.rules.specs.declared.drive.Drive.{Drive}
use Rattle.rules.specs.declared.unit.Core.{Core}
use Rattle.rules.specs.declared.event.Act.{Act}
use Rattle.rules.specs.declared.event.What.{What}
use Rattle.rules.specs.declared.event.What.TheVariants.{In, Out, Error, Underrun}
use Rattle.rules.specs.declared.event.Event.{Event}
use Rattle.rules.specs.declared.event.Event.TheVariants.{Reset, Named, Own}
use Rattle.rules.specs.declared.answer.Answer.{Answer}
use Rattle.rules.specs.declared.answer.Answer.TheVariants.{Taken}
use Rattle.rules.specs.Drive.{fresh_drive}
use Rattle.rules.specs.Unit.{Lent, Whole, drive_at, fresh_core, reset_core}
use Rattle.rules.specs.Event.{event_of}
use Rattle.rules.specs.Answer.{row_of}
use Rattle.rules.specs.Refusal.{refusal_in}
use Rattle.rules.specs.Effect.{Acted}
use Rattle.rules.specs.Slot.{befallen}
use Rattle.rules.specs.Step.{Stepped, act, staged_in, seat_of, refused, effect_of}
use Rattle.rules.specs.Run.{World, after, run, fresh_world}
use Rattle.rules.specs.Promises.BadKinds.{GivesUde, ByUde, UnknownLeft, stood, OnlyGiven, KindTold, KindsTold, BnlWithUde}
use Rattle.rules.proofs.Places.{Got, same, other, put_same, one_holds}
use Rattle.rules.proofs.Sound.{Sound}
use Rattle.rules.proofs.Codes.{named_real}
use Rattle.rules.proofs.BadRecords.{stands_by, Gives}
use Rattle.rules.proofs.BadActs.{Tells, does_tells, act_gives}
use Rattle.rules.proofs.Refused.{taken_not_refused}
use Rattle.rules.proofs.Status.{own_drive, named_drive, reset_holds}
use Rattle.rules.proofs.StepBy.{step_sound, own_does}
use Rattle.rules.proofs.Keeps.{staging_stays_whole}

-- ---- of one event

own_is : {a b : Act} → Some (Own a) ≡ Some (Own b) → a ≡ b
own_is e = cc

befallen_same : (w : What) (d : Drive) → ((befallen w d).latched.ude ≡ d.latched.ude) × ((befallen w d).latched.bnl ≡ d.latched.bnl)
befallen_same (In p) d = (refl, refl)
befallen_same Out d = (refl, refl)
befallen_same Error d = (refl, refl)
befallen_same Underrun d = (refl, refl)

-- after RESET neither stands, and of a fresh unit neither does
neither : (d : Drive) → Type 0
neither d = (d.latched.ude ≡ false) × (d.latched.bnl ≡ false)

reset_neither : (c : Core) (i : ℕ) → neither (drive_at (reset_core c) i)
unfolding neither
reset_neither c i = reset_holds neither (λ d. (refl, refl)) c i

fresh_neither : (i : ℕ) → neither (drive_at fresh_core i)
unfolding neither
fresh_neither i =
    one_holds neither {a = fresh_drive} {b = fresh_drive} {c = fresh_drive} {d = fresh_drive} (refl, refl) (refl, refl) (refl, refl) (refl, refl) i

module _ (c : Core) (l : Lent) (event : List ℕ) where
  -- both bits of a drive stayed, or neither stands
  stayed : (x : Stepped) (i : ℕ) → (drive_at x.turn.core i).latched.ude ≡ (drive_at c i).latched.ude
      → (drive_at x.turn.core i).latched.bnl ≡ (drive_at c i).latched.bnl → OnlyGiven c l event x i
  stayed x i u b = record { ude = λ h. stood (sym u ∙ h); bnl = λ h. stood (sym b ∙ h); pair = λ f h. u ∙ f (sym b ∙ h) }

  fell : (x : Stepped) (i : ℕ) → neither (drive_at x.turn.core i) → OnlyGiven c l event x i
  unfolding neither
  fell x i n =
      record {
        ude = λ h. absurd (false≢true (sym n.0 ∙ h));
        bnl = λ h. absurd (false≢true (sym n.1 ∙ h));
        pair = λ _ h. absurd (false≢true (sym n.1 ∙ h));
      }

  -- an event by which no rule gives UDE
  untold : (x : Stepped) → (ByUde c l event x → ⊥) → ((i : ℕ) → i ≤ 3 → OnlyGiven c l event x i) → KindTold c l event x
  untold x never o = record { ude = λ y. absurd (never y); bnl = λ y _. absurd (never y); only = o }

  refused_told : (a : Answer) → (row_of a).refuses ≡ true → KindTold c l event (refused a c l)
  refused_told a r = untold (refused a c l) (λ y. true≢false (sym r ∙ y.taken)) (λ i _. stayed (refused a c l) i refl refl)

  other_event : (e : Option Event) → event_of event ≡ e → ((a : Act) → e ≡ Some (Own a) → ⊥) → (x : Stepped) → ByUde c l event x → ⊥
  other_event e q n x y = n y.act (sym q ∙ y.event_is)

  slot_only : (j : ℕ) (w : What) (i : ℕ) → i ≤ 3 → j ≤ 3 → OnlyGiven c l event (effect_of c l (Some (Named j w))) i
  slot_only j w i r n = let s = go _ (named_drive c l j w i r n) in stayed (effect_of c l (Some (Named j w))) i s.0 s.1
    where
      go : (d : Drive) → Got i j (befallen w (drive_at c j)) (drive_at c i) d
          → (d.latched.ude ≡ (drive_at c i).latched.ude) × (d.latched.bnl ≡ (drive_at c i).latched.bnl)
      go d (same e) =
          let b = befallen_same w (drive_at c j) in
          (b.0 ∙ ap (λ (k : ℕ). (drive_at c k).latched.ude) e, b.1 ∙ ap (λ (k : ℕ). (drive_at c k).latched.bnl) e)
      go d (other n) = (refl, refl)

  -- what the selected drive does
  module _ (a : Act) (q : event_of event ≡ Some (Own a)) (k : Sound c l) (h : refusal_in c (Some (Own a)) ≡ Taken) where
    abbrev x : Stepped
    x = effect_of c l (Some (Own a))

    abbrev m : Acted
    m = act (staged_in c a l).staging (seat_of c l) a

    tells : Tells (seat_of c l) a m
    tells = does_tells (staged_in c a l).staging (seat_of c l) a (own_does c l a k h)

    by : GivesUde (seat_of c l) a → ByUde c l event x
    by r = record { act = a; event_is = q; taken = taken_not_refused m.moved.raised; rule = r }

    gives : ByUde c l event x → Gives m.tape m.moved.drive
    gives y = act_gives (staged_in c a l).staging (seat_of c l) a (subst (GivesUde (seat_of c l)) (own_is (sym y.event_is ∙ q)) y.rule)

    here : OnlyGiven c l event x c.port.selected
    here =
        record {
          ude =
              λ z. stands_by {Y = (c.port.selected ≡ c.port.selected) × ByUde c l event x} (λ y. (refl, by y))
              (tells.ude (rw put_same at z));
          bnl =
              λ z. stands_by {Y = (c.port.selected ≡ c.port.selected) × ByUde c l event x × UnknownLeft x c.port.selected}
              (λ y. (refl, by y.0, rw (put_same, put_same) y.1)) (tells.bnl (rw put_same at z));
          pair = λ f z. rw put_same (tells.pair f (rw put_same at z));
        }

    own_only : (i : ℕ) → i ≤ 3 → OnlyGiven c l event x i
    own_only i r = go _ (own_drive c l a i r k) refl
      where
        go : (d : Drive) → Got i c.port.selected m.moved.drive (drive_at c i) d → drive_at x.turn.core i ≡ d → OnlyGiven c l event x i
        go d (same e) z = subst (OnlyGiven c l event x) e here
        go d (other n) z = stayed x i (ap (λ (y : Drive). y.latched.ude) z) (ap (λ (y : Drive). y.latched.bnl) z)

    own_told : KindTold c l event x
    own_told =
        record {
          ude = λ y. rw put_same (gives y).ude;
          bnl = λ y u. rw put_same ((gives y).bnl (rw (put_same, put_same) at u));
          only = own_only;
        }

  effect_told : (e : Option Event) → event_of event ≡ e → Sound c l → refusal_in c e ≡ Taken → KindTold c l event (effect_of c l e)
  effect_told None q k h =
      untold _ (other_event None q (λ a e. let z : ◌≡◌ {A = ℕ} 0 1 = cc in omega arith) _) (λ i _. stayed _ i refl refl)
  effect_told (Some Reset) q k h =
      untold _ (other_event (Some Reset) q (λ a e. let z : ◌≡◌ {A = ℕ} 0 1 = cc in omega arith) _) (λ i _. fell _ i (reset_neither c i))
  effect_told (Some (Named j w)) q k h =
      untold _ (other_event (Some (Named j w)) q (λ a e. let z : ◌≡◌ {A = ℕ} 0 1 = cc in omega arith) _)
      (λ i r. slot_only j w i r (named_real event j w q))
  effect_told (Some (Own a)) q k h = own_told a q k h

pub kinds_told : KindsTold
kinds_told c l event w =
    step_sound (KindTold c l event) c l event w (refused_told c l event) (effect_told c l event (event_of event) refl)

-- ---- over a run

pairs_stay : (es : List (List ℕ)) (w : World) (i : ℕ) → i ≤ 3 → Whole w.lent
    → ((drive_at w.core i).latched.bnl ≡ true → (drive_at w.core i).latched.ude ≡ true)
    → (drive_at (run w es).core i).latched.bnl ≡ true → (drive_at (run w es).core i).latched.ude ≡ true
unfolding after
pairs_stay [] w i r k f = f
pairs_stay (e ∷ es) w i r k f =
    pairs_stay es (after w e) i r (staging_stays_whole w.core w.lent e k) (((kinds_told w.core w.lent e k).only i r).pair f)

pub bnl_with_ude : BnlWithUde
unfolding neither
bnl_with_ude a b c d es i r =
    pairs_stay es (fresh_world a b c d) i r (length-replicate {A = ℕ} 512 0) (λ z. absurd (false≢true (sym (fresh_neither i).1 ∙ z)))
