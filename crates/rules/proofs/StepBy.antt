-- One event: refused in one of the ways, or taken in a sound world. Every promise of a step goes by these two.
use Prim.Native.Nat.{ℕ}
use mathlib.Core.Path.{◌≡◌, refl, sym, subst, ◌∙◌}
use mathlib.Core.Bool.{Bool, true, false, not, true≢false, false≢true}
use mathlib.Core.List.{List}
use lib.ListN.{length, length-set}
use Rattle.std.specs.Prelude.{Option, None, Some}
use Rattle.basis.specs.Choice.{pick}
use Rattle.rules.specs.declared.unit.Core.{Core}
use Rattle.rules.specs.declared.phase.Phase.{Phase}
use Rattle.rules.specs.declared.event.Act.{Act}
use Rattle.rules.specs.declared.event.Act.TheVariants.{Command, Give, Take, Online, Offline}
use Rattle.rules.specs.declared.event.Event.{Event}
use Rattle.rules.specs.declared.event.Event.TheVariants.{Reset, Named, Own}
use Rattle.rules.specs.declared.event.What.{What}
use Rattle.rules.specs.declared.event.What.TheVariants.{In, Out, Error, Underrun}
use Rattle.rules.specs.declared.answer.Answer.{Answer}
use Rattle.rules.specs.declared.answer.Answer.TheVariants.{Taken, OutOfStep, WrongSlot, TooLong, Impossible}
use Rattle.rules.specs.Unit.{Lent, drive_at, Whole}
use Rattle.rules.specs.Event.{event_of}
use Rattle.rules.specs.Answer.{row_of}
use Rattle.rules.specs.Refusal.{possible, short, in_step_at, slot_answer, refusal_in, refusal_by, refusal_of}
use Rattle.rules.specs.Bytes.{staged_byte}
use Rattle.rules.specs.Step.{Stepped, act, staged, staged_in, seat_of, refused, effect_of, settled, step_by, step_of}
use Rattle.rules.proofs.Sound.{Sound, sound, sound_seat, sound_possible, sound_short}
use Rattle.rules.proofs.Acts.{Does, act_does}

-- nothing refuses: then the act is in step, and the slot is as the event asks
pub in_step_lem : (b : Bool) → pick b Taken OutOfStep ≡ Taken → b ≡ true
unfolding pick
in_step_lem true h = refl
in_step_lem false h = cc

-- what a slot answers: it lets the event happen, or refuses it and shows the lines of the record
pub data Slotted : Answer → Type 0 where
  lets : Slotted Taken
  bars : {a : Answer} → (row_of a).refuses ≡ true → (row_of a).lines_down ≡ false → Slotted a

pub slotted : (loaded : Bool) (w : What) → Slotted (slot_answer loaded w)
unfolding pick
slotted true (In p) = bars refl refl
slotted false (In p) = lets
slotted true Out = lets
slotted false Out = bars refl refl
slotted true Error = lets
slotted false Error = bars refl refl
slotted true Underrun = lets
slotted false Underrun = bars refl refl

pub slot_empty : (loaded : Bool) → pick (not loaded) Taken WrongSlot ≡ Taken → loaded ≡ false
unfolding pick
slot_empty true h = cc
slot_empty false h = refl

-- what refuses an event is `Taken` or a refusal
unrefused : (c : Core) (e : Option Event) → (row_of (refusal_in c e)).refuses ≡ false → refusal_in c e ≡ Taken
unfolding pick
unrefused c None h = cc
unrefused c (Some Reset) h = refl
unrefused c (Some (Named i w)) h = go _ (slotted (drive_at c i).loaded w) h
  where
    go : (a : Answer) → Slotted a → (row_of a).refuses ≡ false → a ≡ Taken
    go a lets h = refl
    go a (bars stops calm) h = absurd (false≢true (sym h ∙ stops))
unrefused c (Some (Own a)) h = go (in_step_at c.port.phase (drive_at c c.port.selected) a) h
  where
    go : (b : Bool) → (row_of (pick b Taken OutOfStep)).refuses ≡ false → pick b Taken OutOfStep ≡ Taken
    go true h = refl
    go false h = cc

pub settled_by_lem : (P : Stepped → Type 0) (c : Core) (l : Lent) (e : Option Event) → ((a : Answer) → (row_of a).refuses ≡ true → P (refused a c l))
    → (refusal_in c e ≡ Taken → P (effect_of c l e)) → P (settled c l e (refusal_in c e))
unfolding pick
settled_by_lem P c l e f g = go (row_of (refusal_in c e)).refuses refl
  where
    go : (b : Bool) → (row_of (refusal_in c e)).refuses ≡ b → P (pick b (refused (refusal_in c e) c l) (effect_of c l e))
    go true h = f (refusal_in c e) h
    go false h = g (unrefused c e h)

pub step_by_lem : (P : Stepped → Type 0) (c : Core) (l : Lent) (event : List ℕ) → ((a : Answer) → (row_of a).refuses ≡ true → P (refused a c l))
    → (possible c ≡ true → short l ≡ true → refusal_in c (event_of event) ≡ Taken → P (effect_of c l (event_of event))) → P (step_of c l event)
unfolding pick step_of step_by refusal_of
step_by_lem P c l event f g = go (possible c) (short l) refl refl
  where
    go : (a b : Bool) → possible c ≡ a → short l ≡ b → P (settled c l (event_of event) (refusal_by a b (refusal_in c (event_of event))))
    go true true p q = settled_by_lem P c l (event_of event) f (g p q)
    go true false p q = f TooLong refl
    go false b p q = f Impossible refl

-- the same with the staging block of 512 bytes
pub step_sound : (P : Stepped → Type 0) (c : Core) (l : Lent) (event : List ℕ) → Whole l
    → ((a : Answer) → (row_of a).refuses ≡ true → P (refused a c l))
    → (Sound c l → refusal_in c (event_of event) ≡ Taken → P (effect_of c l (event_of event))) → P (step_of c l event)
step_sound P c l event w f g = step_by_lem P c l event f (λ p q r. g (sound c l p q w) r)

pub sound_step : (P : Stepped → Type 0) (c : Core) (l : Lent) (event : List ℕ) → Whole l → ((a : Answer) → P (refused a c l))
    → (Sound c l → refusal_in c (event_of event) ≡ Taken → P (effect_of c l (event_of event))) → P (step_of c l event)
sound_step P c l event w f g = step_sound P c l event w (λ a _. f a) g

-- an event that is not refused does what its effect is
pub effect_by : (P : Stepped → Type 0) (c : Core) (l : Lent) (event : List ℕ) (e : Option Event) → event_of event ≡ e
    → (row_of (step_of c l event).turn.answer).refuses ≡ false
    → (possible c ≡ true → short l ≡ true → refusal_in c e ≡ Taken → P (effect_of c l e)) → P (step_of c l event)
effect_by P c l event e q n f =
    step_by_lem (λ s. (row_of s.turn.answer).refuses ≡ false → P s) c l event (λ a r z. absurd (true≢false (sym r ∙ z)))
    (λ p s h _. subst (λ (x : Option Event). refusal_in c x ≡ Taken → P (effect_of c l x)) (sym q) (f p s) h) n

-- a byte staged leaves the block's length, and so a sound world
staged_length : (ph : Phase) (a : Act) (g : List ℕ) → length (staged ph a g) ≡ length g
unfolding staged_byte
staged_length ph (Command c) g = refl
staged_length ph (Give b) g = length-set g _ b
staged_length ph Take g = refl
staged_length ph Online g = refl
staged_length ph Offline g = refl

pub staged_sound : (c : Core) (l : Lent) (a : Act) → Sound c l → Sound c (staged_in c a l)
staged_sound c l a k =
    record { sel = k.sel; phase = k.phase; fit = k.fit; near = k.near; whole = staged_length c.port.phase a l.staging ∙ k.whole }

-- what the selected drive does in an event that is taken
pub own_does : (c : Core) (l : Lent) (a : Act) → Sound c l → refusal_in c (Some (Own a)) ≡ Taken
    → Does (staged_in c a l).staging (seat_of c l) a (act (staged_in c a l).staging (seat_of c l) a)
own_does c l a k h = act_does (staged_in c a l).staging (seat_of c l) (sound_seat c l k) a (in_step_lem _ h)

-- in a sound world the step is what the event's own refusal leaves
pub step_is : (c : Core) (l : Lent) (event : List ℕ) → Sound c l → step_of c l event ≡ settled c l (event_of event) (refusal_in c (event_of event))
unfolding pick step_of step_by refusal_of
step_is c l event k = rw (sound_possible c l k, sound_short c l k)
