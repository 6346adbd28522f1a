-- The table of answers, line by line.
use Prim.Native.Nat.{ℕ}
use mathlib.Core.Path.{◌≡◌, refl, sym, ap, ◌∙◌}
use mathlib.Core.Logic.{◌↔◌}
use mathlib.Core.Bool.{Bool, true, false, not}
use mathlib.Core.List.{List}
use native.Mathlib.Omega.{arith}
use lib.Dec.{eqb}
use Rattle.std.specs.Prelude.{Option, None, Some}
use Rattle.basis.specs.Choice.{pick}
use Rattle.rules.specs.declared.unit.Core.{Core}
use Rattle.rules.specs.declared.event.Event.{Event}
use Rattle.rules.specs.declared.event.Event.TheVariants.{Reset, Named, Own}
use Rattle.rules.specs.declared.event.What.{What}
use Rattle.rules.specs.declared.event.What.TheVariants.{In, Out, Error, Underrun}
use Rattle.rules.specs.declared.answer.Answer.{Answer}
use Rattle.rules.specs.declared.answer.Answer.TheVariants.{Taken, Raised, OutOfStep, WrongSlot, Malformed, Impossible, TooLong}
use Rattle.rules.specs.Unit.{Lent, drive_at}
use Rattle.rules.specs.Event.{event_of}
use Rattle.rules.specs.Answer.{row_of}
use Rattle.rules.specs.Slot.{is_out}
use Rattle.rules.specs.Refusal.{possible, short, in_step_at, slot_answer, refusal_in, refusal_by, refusal_of}
use Rattle.rules.specs.Step.{effect_of, settled, step_by, step_of}
use Rattle.rules.specs.Promises.Table.{impossible, too_long, malformed, out_of_step, slot_fits, wrong_slot, raises, answer_to, AnswersByTheTable, OneOfSeven, NumbersTellApart}

-- the answer by the six conditions, in the order they are tried
in_order : Bool → Bool → Bool → Bool → Bool → Bool → Answer
in_order b5 b6 b4 b2 b3 b1 = pick b5 Impossible (pick b6 TooLong (pick b4 Malformed (pick b2 OutOfStep (pick b3 WrongSlot (pick b1 Raised Taken)))))

record Lines (a : Answer) (b5 b6 b4 b2 b3 b1 : Bool) : Type 0 where
  l5 : (a ≡ Impossible) ↔ (b5 ≡ true)
  l6 : (a ≡ TooLong) ↔ ((b5 ≡ false) × (b6 ≡ true))
  l4 : (a ≡ Malformed) ↔ ((b5 ≡ false) × (b6 ≡ false) × (b4 ≡ true))
  l2 : (a ≡ OutOfStep) ↔ ((b5 ≡ false) × (b6 ≡ false) × (b4 ≡ false) × (b2 ≡ true))
  l3 : (a ≡ WrongSlot) ↔ ((b5 ≡ false) × (b6 ≡ false) × (b4 ≡ false) × (b2 ≡ false) × (b3 ≡ true))
  l1 : (a ≡ Raised) ↔ ((b5 ≡ false) × (b6 ≡ false) × (b4 ≡ false) × (b2 ≡ false) × (b3 ≡ false) × (b1 ≡ true))
  l0 : (a ≡ Taken) ↔ ((b5 ≡ false) × (b6 ≡ false) × (b4 ≡ false) × (b2 ≡ false) × (b3 ≡ false) × (b1 ≡ false))

in_order_lem : (b5 b6 b4 b2 b3 b1 : Bool) → Lines (in_order b5 b6 b4 b2 b3 b1) b5 b6 b4 b2 b3 b1
unfolding pick in_order
in_order_lem true b6 b4 b2 b3 b1 =
    record { l5 = (λ _. refl, λ _. refl); l6 = (λ h. (cc, cc), λ h. cc); l4 = (λ h. (cc, cc, cc), λ h. cc); l2 = (λ h. (cc, cc, cc, cc), λ h. cc); l3 = (λ h. (cc, cc, cc, cc, cc), λ h. cc); l1 = (λ h. (cc, cc, cc, cc, cc, cc), λ h. cc); l0 = (λ h. (cc, cc, cc, cc, cc, cc), λ h. cc) }
in_order_lem false true b4 b2 b3 b1 =
    record { l5 = (λ h. cc, λ h. cc); l6 = (λ _. (refl, refl), λ _. refl); l4 = (λ h. (cc, cc, cc), λ h. cc); l2 = (λ h. (cc, cc, cc, cc), λ h. cc); l3 = (λ h. (cc, cc, cc, cc, cc), λ h. cc); l1 = (λ h. (cc, cc, cc, cc, cc, cc), λ h. cc); l0 = (λ h. (cc, cc, cc, cc, cc, cc), λ h. cc) }
in_order_lem false false true b2 b3 b1 =
    record { l5 = (λ h. cc, λ h. cc); l6 = (λ h. (cc, cc), λ h. cc); l4 = (λ _. (refl, refl, refl), λ _. refl); l2 = (λ h. (cc, cc, cc, cc), λ h. cc); l3 = (λ h. (cc, cc, cc, cc, cc), λ h. cc); l1 = (λ h. (cc, cc, cc, cc, cc, cc), λ h. cc); l0 = (λ h. (cc, cc, cc, cc, cc, cc), λ h. cc) }
in_order_lem false false false true b3 b1 =
    record { l5 = (λ h. cc, λ h. cc); l6 = (λ h. (cc, cc), λ h. cc); l4 = (λ h. (cc, cc, cc), λ h. cc); l2 = (λ _. (refl, refl, refl, refl), λ _. refl); l3 = (λ h. (cc, cc, cc, cc, cc), λ h. cc); l1 = (λ h. (cc, cc, cc, cc, cc, cc), λ h. cc); l0 = (λ h. (cc, cc, cc, cc, cc, cc), λ h. cc) }
in_order_lem false false false false true b1 =
    record { l5 = (λ h. cc, λ h. cc); l6 = (λ h. (cc, cc), λ h. cc); l4 = (λ h. (cc, cc, cc), λ h. cc); l2 = (λ h. (cc, cc, cc, cc), λ h. cc); l3 = (λ _. (refl, refl, refl, refl, refl), λ _. refl); l1 = (λ h. (cc, cc, cc, cc, cc, cc), λ h. cc); l0 = (λ h. (cc, cc, cc, cc, cc, cc), λ h. cc) }
in_order_lem false false false false false true =
    record { l5 = (λ h. cc, λ h. cc); l6 = (λ h. (cc, cc), λ h. cc); l4 = (λ h. (cc, cc, cc), λ h. cc); l2 = (λ h. (cc, cc, cc, cc), λ h. cc); l3 = (λ h. (cc, cc, cc, cc, cc), λ h. cc); l1 = (λ _. (refl, refl, refl, refl, refl, refl), λ _. refl); l0 = (λ h. (cc, cc, cc, cc, cc, cc), λ h. cc) }
in_order_lem false false false false false false =
    record { l5 = (λ h. cc, λ h. cc); l6 = (λ h. (cc, cc), λ h. cc); l4 = (λ h. (cc, cc, cc), λ h. cc); l2 = (λ h. (cc, cc, cc, cc), λ h. cc); l3 = (λ h. (cc, cc, cc, cc, cc), λ h. cc); l1 = (λ h. (cc, cc, cc, cc, cc, cc), λ h. cc); l0 = (λ _. (refl, refl, refl, refl, refl, refl), λ _. refl) }

-- what is taken is answered by whether a rule raised EXCEPTION
effect_answer : (c : Core) (l : Lent) (e : Option Event) → (effect_of c l e).turn.answer ≡ pick (raises c l e) Raised Taken
unfolding pick
effect_answer c l None = refl
effect_answer c l (Some Reset) = refl
effect_answer c l (Some (Named i w)) = refl
effect_answer c l (Some (Own a)) = refl

settled_answer : (c : Core) (l : Lent) (e : Option Event) → (settled c l e (refusal_in c e)).turn.answer ≡ in_order false false (malformed e)
    (out_of_step c e) (wrong_slot c e) (raises c l e)
unfolding pick in_order
settled_answer c l None = refl
settled_answer c l (Some Reset) = refl
settled_answer c l (Some (Named i w)) = go (drive_at c i).loaded w
  where
    go : (b : Bool) (w : What) → (settled c l (Some (Named i w)) (slot_answer b w)).turn.answer ≡ pick (not (slot_fits b w)) WrongSlot
        (pick (is_out w) Raised Taken)
    go true (In p) = refl
    go false (In p) = refl
    go true Out = refl
    go false Out = refl
    go true Error = refl
    go false Error = refl
    go true Underrun = refl
    go false Underrun = refl
settled_answer c l (Some (Own a)) = go (in_step_at c.port.phase (drive_at c c.port.selected) a)
  where
    go : (b : Bool) → (settled c l (Some (Own a)) (pick b Taken OutOfStep)).turn.answer ≡ pick (not b) OutOfStep (pick (raises c l (Some (Own a))) Raised Taken)
    go true = refl
    go false = refl

step_answer : (c : Core) (l : Lent) (event : List ℕ)
    → answer_to c l event ≡ in_order (impossible c) (too_long l) (malformed (event_of event)) (out_of_step c (event_of event))
    (wrong_slot c (event_of event)) (raises c l (event_of event))
unfolding pick in_order step_of step_by refusal_of
step_answer c l event = go (possible c) (short l)
  where
    e : Option Event
    e = event_of event

    go : (p s : Bool) → (settled c l e (refusal_by p s (refusal_in c e))).turn.answer ≡ in_order (not p) (not s) (malformed e) (out_of_step c e)
        (wrong_slot c e) (raises c l e)
    go true true = settled_answer c l e
    go true false = refl
    go false s = refl

pub answers_by_the_table : AnswersByTheTable
answers_by_the_table c l event =
    let e = event_of event in
    let r = rw (← step_answer c l event) at (in_order_lem (impossible c) (too_long l) (malformed e) (out_of_step c e) (wrong_slot c e) (raises c l e)) in
    record { line5 = r.l5; line6 = r.l6; line4 = r.l4; line2 = r.l2; line3 = r.l3; line1 = r.l1; line0 = r.l0 }

pub one_of_seven : OneOfSeven
one_of_seven Taken = omega arith
one_of_seven Raised = omega arith
one_of_seven OutOfStep = omega arith
one_of_seven WrongSlot = omega arith
one_of_seven Malformed = omega arith
one_of_seven Impossible = omega arith
one_of_seven TooLong = omega arith

-- an answer read back from its number
answer_of : ℕ → Answer
answer_of n =
    pick (eqb n 0) Taken
    (pick (eqb n 1) Raised (pick (eqb n 2) OutOfStep (pick (eqb n 3) WrongSlot (pick (eqb n 4) Malformed (pick (eqb n 5) Impossible TooLong)))))

back : (a : Answer) → answer_of (row_of a).number ≡ a
unfolding answer_of pick
back Taken = refl
back Raised = refl
back OutOfStep = refl
back WrongSlot = refl
back Malformed = refl
back Impossible = refl
back TooLong = refl

pub numbers_tell_apart : NumbersTellApart
numbers_tell_apart a b e = sym (back a) ∙ ap answer_of e ∙ back b
