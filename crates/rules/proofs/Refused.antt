-- A refused event leaves all as found; lines and bytes of a step.
use Prim.Native.Nat.{ℕ}
use mathlib.Core.Path.{◌≡◌, refl, sym, ap, ◌∙◌}
use mathlib.Core.Bool.{Bool, true, false, false≢true}
use mathlib.Core.List.{List}
use Rattle.std.specs.Prelude.{Option, None, Some, is_some}
use Rattle.basis.specs.Choice.{pick}
use Rattle.rules.specs.declared.unit.Core.{Core}
use Rattle.rules.specs.declared.event.Act.{Act}
use Rattle.rules.specs.declared.event.Act.TheVariants.{Take}
use Rattle.rules.specs.declared.event.Event.{Event}
use Rattle.rules.specs.declared.event.Event.TheVariants.{Reset, Named, Own}
use Rattle.rules.specs.declared.answer.Answer.{Answer}
use Rattle.rules.specs.declared.answer.Answer.TheVariants.{Taken, Raised, OutOfStep, WrongSlot, Malformed, Impossible, TooLong}
use Rattle.rules.specs.Unit.{Lent}
use Rattle.rules.specs.Event.{event_of}
use Rattle.rules.specs.Answer.{row_of}
use Rattle.rules.specs.Refusal.{refusal_in}
use Rattle.rules.specs.Lines.{lines_of, lines_down}
use Rattle.rules.specs.Step.{Stepped, staged_in, seat_of, done, effect_of}
use Rattle.rules.specs.Promises.Refused.{AsFound, RefusedKeeps, LinesDownAfter5, LinesOfTheRecord, ByteRules, BytesExactly}
use Rattle.rules.proofs.Sound.{Sound}
use Rattle.rules.proofs.Leaves
use Rattle.rules.proofs.StepBy.{step_by_lem, step_sound, own_does}

-- what is taken is answered 0 or 1, and so refuses nothing
pub taken_not_refused : (b : Bool) → (row_of (pick b Raised Taken)).refuses ≡ false
unfolding pick
taken_not_refused true = refl
taken_not_refused false = refl

done_accepts : (b : Bool) {A : Type 0} → (row_of (pick b Raised Taken)).refuses ≡ true → A
done_accepts b h = absurd (false≢true (sym (taken_not_refused b) ∙ h))

-- every effect is `done`, whatever the event
pub effect_done : (P : Stepped → Type 0) → ((r : Bool) (b : Option ℕ) (c : Core) (l : Lent) → P (done r b c l)) → (c : Core) (l : Lent) (e : Option Event)
    → P (effect_of c l e)
effect_done P f c l None = f false None _ _
effect_done P f c l (Some Reset) = f true None _ _
effect_done P f c l (Some (Named i w)) = f _ None _ _
effect_done P f c l (Some (Own a)) = f _ _ _ _

pub refused_keeps : RefusedKeeps
refused_keeps c l event =
    step_by_lem (λ s. (row_of s.turn.answer).refuses ≡ true → AsFound c l s) c l event
    (λ a r h. record { core = refl; lent = refl; byte = refl })
    (λ p q r. effect_done (λ s. (row_of s.turn.answer).refuses ≡ true → AsFound c l s) (λ r b d m. done_accepts r) c l (event_of event))

down_row : (a : Answer) → a ≡ Impossible → (row_of a).lines_down ≡ true
down_row a e = rw e

up_row : (a : Answer) → (a ≡ Impossible → ⊥) → (row_of a).lines_down ≡ false
up_row Taken n = refl
up_row Raised n = refl
up_row OutOfStep n = refl
up_row WrongSlot n = refl
up_row Malformed n = refl
up_row Impossible n = absurd (n refl)
up_row TooLong n = refl

not_impossible : (b : Bool) → (row_of (pick b Raised Taken)).lines_down ≡ false
unfolding pick
not_impossible true = refl
not_impossible false = refl

pub lines_down_after_5 : LinesDownAfter5
unfolding pick
lines_down_after_5 c l event =
    step_by_lem (λ s. s.turn.answer ≡ Impossible → s.turn.lines ≡ lines_down) c l event (λ a r h. rw (down_row a h))
    (λ p q r. effect_done (λ s. s.turn.answer ≡ Impossible → s.turn.lines ≡ lines_down)
    (λ r b d m h. absurd (false≢true (sym (not_impossible r) ∙ down_row (pick r Raised Taken) h))) c l (event_of event))

pub lines_of_the_record : LinesOfTheRecord
unfolding pick
lines_of_the_record c l event =
    step_by_lem (λ s. (s.turn.answer ≡ Impossible → ⊥) → s.turn.lines ≡ lines_of s.turn.core) c l event (λ a r n. rw (up_row a n))
    (λ p q r. effect_done (λ s. (s.turn.answer ≡ Impossible → ⊥) → s.turn.lines ≡ lines_of s.turn.core) (λ r b d m n. refl) c l
    (event_of event))

-- ---- the byte

no_byte : (c : Core) (l : Lent) (event : List ℕ) (s : Stepped) → s.turn.byte ≡ None
    → (event_of event ≡ Some (Own Take) → (row_of s.turn.answer).refuses ≡ true) → ByteRules c l event s
no_byte c l event s n r =
    record {
      row = λ h. absurd (false≢true (sym (ap is_some n) ∙ h));
      taken = λ h. absurd (false≢true (sym (ap is_some n) ∙ h));
      last = λ h _. absurd (false≢true (sym (ap is_some n) ∙ h));
      comes = λ e h. absurd (false≢true (sym (ap (λ (a : Answer). (row_of a).refuses) h) ∙ r e));
      last_comes = λ e h _. absurd (false≢true (sym h ∙ r e));
    }

pub raised_is : (b : Bool) → pick b Raised Taken ≡ Raised → b ≡ true
unfolding pick
raised_is true h = refl
raised_is false h = cc

pub quiet_is : (b : Bool) → pick b Raised Taken ≡ Taken → b ≡ false
unfolding pick
quiet_is true h = cc
quiet_is false h = refl

may_give : (b : Bool) → (row_of (pick b Raised Taken)).may_give ≡ true
unfolding pick
may_give true = refl
may_give false = refl

abbrev pub is_own : Option Event → Bool
is_own None = false
is_own (Some Reset) = false
is_own (Some (Named i w)) = false
is_own (Some (Own a)) = true

-- an event that is no act of the host is none
pub not_own : (event : List ℕ) (e : Option Event) → event_of event ≡ e → is_own e ≡ false → {A : Type 0} {a : Act} → event_of event ≡ Some (Own a) → A
not_own event e q n h = absurd (false≢true (sym n ∙ ap is_own (sym q ∙ h)))

pub own_is : (a b : Act) → Some (Own a) ≡ Some (Own b) → a ≡ b
own_is a b e = cc

effect_byte : (c : Core) (l : Lent) (event : List ℕ) (e : Option Event) → event_of event ≡ e → Sound c l → refusal_in c e ≡ Taken
    → ByteRules c l event (effect_of c l e)
effect_byte c l event None q k h = no_byte c l event _ refl (not_own event None q refl)
effect_byte c l event (Some Reset) q k h = no_byte c l event _ refl (not_own event (Some Reset) q refl)
effect_byte c l event (Some (Named i w)) q k h = no_byte c l event _ refl (not_own event (Some (Named i w)) q refl)
effect_byte c l event (Some (Own a)) q k h =
    let b = Leaves.does_leaf (staged_in c a l).staging (seat_of c l) a _ (own_does c l a k h) in
    let take : event_of event ≡ Some (Own Take) → a ≡ Take = λ e. own_is a Take (sym q ∙ e) in
    record {
      row = λ _. may_give _;
      taken = λ g. q ∙ ap (λ (x : Act). Some (Own x)) (b.taken g);
      last = λ g r. let f = b.last g (raised_is _ r) in record { place = f.place; whole = f.whole };
      comes = λ e r. b.comes (take e) (quiet_is _ r);
      last_comes = λ e _ f. b.last_comes (take e) (record { place = f.place; whole = f.whole });
    }

pub bytes_exactly : BytesExactly
bytes_exactly c l event w =
    step_sound (ByteRules c l event) c l event w (λ a r. no_byte c l event _ refl (λ _. r)) (effect_byte c l event (event_of event) refl)
