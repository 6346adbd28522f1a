-- The rule between the operator and the desk.
use Prim.Native.Nat.{ℕ}
use mathlib.Core.Path.{◌≡◌, refl, sym, ◌∙◌}
use mathlib.Core.Bool.{true, false, true≢false, false≢true}
use lib.Dec.{eqb}
use borrow.Author.Tests.{eq-eqb}
use Rattle.std.specs.Prelude.{Option, None, Some}
use Rattle.rules.specs.declared.event.What.{What}
use Rattle.rules.specs.declared.event.Event.{Event}
use Rattle.rules.specs.declared.event.Event.TheVariants.{Reset, Named, Own}
use Rattle.rules.specs.declared.answer.Answer.TheVariants.{Taken}
use Rattle.rules.specs.Unit.{drive_at, tape_at}
use Rattle.rules.specs.Event.{event_of}
use Rattle.rules.specs.Refusal.{refusal_in}
use Rattle.rules.specs.Step.{effect_of}
use Rattle.rules.specs.Promises.Plug.{means_drive, acts_on_no_tape, OtherTapesStay, OtherDrivesStay, OnlyActsChangeTapes}
use Rattle.rules.proofs.Places.{Got, same, other}
use Rattle.rules.proofs.Sound.{Sound}
use Rattle.rules.proofs.Codes.{named_real}
use Rattle.rules.proofs.StepBy.{step_by_lem, sound_step}
use Rattle.rules.proofs.Keeps.{own_tape_lem}
use Rattle.rules.proofs.Status.{own_drive, named_drive}

-- ---- an event reaches the selected drive and no other

not_got : {A : Type 0} (i n : ℕ) (x old y : A) → Got i n x old y → (n ≡ i → ⊥) → y ≡ old
not_got i n x old y (same e) o = absurd (o e)
not_got i n x old y (other q) o = refl

pub other_tapes_stay : OtherTapesStay
other_tapes_stay c l event i r w o = sound_step (λ s. tape_at s.lent i ≡ tape_at l i) c l event w (λ _. refl) (go (event_of event))
  where
    go : (e : Option Event) → Sound c l → refusal_in c e ≡ Taken → tape_at (effect_of c l e).lent i ≡ tape_at l i
    go None k h = refl
    go (Some Reset) k h = refl
    go (Some (Named j x)) k h = refl
    go (Some (Own a)) k h = not_got i c.port.selected _ _ _ (own_tape_lem c l a i r k) o

pub other_drives_stay : OtherDrivesStay
other_drives_stay c l event i r w o m = sound_step (λ s. drive_at s.turn.core i ≡ drive_at c i) c l event w (λ _. refl) (go (event_of event) refl m)
  where
    unnamed : (j : ℕ) (x : What) → eqb j i ≡ false → j ≡ i → ⊥
    unnamed j x n e = false≢true (sym n ∙ eq-eqb j i e)

    go : (e : Option Event) → event_of event ≡ e → means_drive e i ≡ false → Sound c l → refusal_in c e ≡ Taken
        → drive_at (effect_of c l e).turn.core i ≡ drive_at c i
    go None q n k h = refl
    go (Some Reset) q n k h = absurd (true≢false n)
    go (Some (Named j x)) q n k h = not_got i j _ _ _ (named_drive c l j x i r (named_real event j x q)) (unnamed j x n)
    go (Some (Own a)) q n k h = not_got i c.port.selected _ _ _ (own_drive c l a i r k) o

pub only_acts_change_tapes : OnlyActsChangeTapes
only_acts_change_tapes c l event =
    step_by_lem (λ s. acts_on_no_tape (event_of event) ≡ true → s.lent ≡ l) c l event (λ a r n. refl) (λ p q r. go (event_of event))
  where
    go : (e : Option Event) → acts_on_no_tape e ≡ true → (effect_of c l e).lent ≡ l
    go None n = refl
    go (Some Reset) n = refl
    go (Some (Named j x)) n = refl
    go (Some (Own a)) n = absurd (false≢true n)
