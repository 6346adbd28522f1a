-- How many blocks a late WRITE takes.
use Prim.Native.Nat.{ℕ, ◌+◌, ◌≤◌, zero-le}
use mathlib.Core.Path.{◌≡◌, refl, sym, ap, subst, ◌∙◌}
use mathlib.Core.Bool.{Bool, true, false, ◌&&◌, true≢false, false≢true}
use mathlib.Core.List.{List, [], ◌∷◌}
use native.Mathlib.Omega.{arith}
use lib.Dec.{eqb}
use lib.ListN.{length}
use borrow.Author.Tests.{ne_eqb, eq-eqb}
use Rattle.std.specs.Prelude.{Option, None, Some}
use Rattle.rules.specs.declared.drive.Drive.{Drive}
use Rattle.rules.specs.declared.drive.Mode.TheVariants.{Writing}
use Rattle.rules.specs.declared.unit.Core.{Core}
use Rattle.rules.specs.declared.phase.Phase.TheVariants.{Taking}
use Rattle.rules.specs.declared.event.Act.TheVariants.{Command, Give, Take, Online, Offline}
use Rattle.rules.specs.declared.event.Event.{Event}
use Rattle.rules.specs.declared.event.Event.TheVariants.{Reset, Named, Own}
use Rattle.rules.specs.declared.order.Order.{Order}
use Rattle.rules.specs.declared.order.Order.TheVariants.{Write}
use Rattle.rules.specs.declared.answer.Answer.TheVariants.{Taken}
use Rattle.rules.specs.Drive.{is_writing}
use Rattle.rules.specs.Late.{allowed_at}
use Rattle.rules.specs.Unit.{Lent, Whole, drive_at, tape_at}
use Rattle.rules.specs.Event.{event_of}
use Rattle.rules.specs.Refusal.{possible_phase, refusal_in}
use Rattle.rules.specs.Order.{order_of}
use Rattle.rules.specs.Effect.{Acted, ordered, fault_of, commanded}
use Rattle.rules.specs.Step.{act, staged_in, seat_of, effect_of}
use Rattle.rules.specs.Run.{World, after, turn_of}
use Rattle.rules.specs.Promises.Changes.{Accepted}
use Rattle.rules.specs.Promises.Status.{drive_after}
use Rattle.rules.specs.Promises.Strike.{drive_of, tape_of}
use Rattle.rules.specs.Promises.Late.{LateMove, ended, begun, counted, kept, is_act, is_give, records_on, accepts_write, one_if, none_if, blocks_on, AtMostTwo}
use Rattle.rules.proofs.Places.{Got, same, other, put_same}
use Rattle.rules.proofs.Sound.{Sound, sound, sound_possible}
use Rattle.rules.proofs.Rooms.{two_late}
use Rattle.rules.proofs.Codes.{orders}
use Rattle.rules.proofs.Acts.{writing_is, taking_writing}
use Rattle.rules.proofs.Refused.{quiet_is}
use Rattle.rules.proofs.StepBy.{in_step_lem, effect_by, sound_step}
use Rattle.rules.proofs.Keeps.{step_stays_sound}
use Rattle.rules.proofs.Changes.{carried_out}
use Rattle.rules.proofs.Status.{own_drive}
use Rattle.rules.proofs.Lates.{quits, late_moves}

-- ---- a WRITE that is accepted

accepted_begins : (c : Core) (l : Lent) (event : List ℕ) → Accepted c l event 64
    → (drive_after c l event c.port.selected).late ≡ allowed_at (drive_at c c.port.selected).head (length (tape_at l c.port.selected))
accepted_begins c l event x =
    effect_by (λ s. s.turn.answer ≡ Taken → (drive_at s.turn.core n).late ≡ allowed_at (drive_at c n).head (length (tape_at l n))) c l event
    (Some (Own (Command 64))) x.order (rw x.answer)
    (λ _ _ _ z. rw put_same (begins (order_of 64) orders.write (quiet_is _ z))) x.answer
  where
    n : ℕ
    n = c.port.selected

    begins : (o : Option Order) → o ≡ Some Write → (commanded (seat_of c l) o (fault_of (seat_of c l) o)).moved.raised ≡ false
        → (commanded (seat_of c l) o (fault_of (seat_of c l) o)).moved.drive.late ≡ allowed_at (drive_at c n).head (length (tape_at l n))
    begins o e h = ap (λ (m : Acted). m.moved.drive.late) (carried_out (seat_of c l) o (fault_of (seat_of c l) o) h ∙ ap (ordered (seat_of c l)) e)

-- ---- a byte given moves no drive that is not Writing

given_stays : (c : Core) (l : Lent) (event : List ℕ) (i : ℕ) → i ≤ 3 → Whole l → is_act is_give (event_of event) ≡ true → is_writing (drive_at c i).mode ≡ false
    → drive_after c l event i ≡ drive_at c i
given_stays c l event i r w g off =
    sound_step (λ s. drive_at s.turn.core i ≡ drive_at c i) c l event w (λ _. refl) (go (event_of event) g)
  where
    go : (e : Option Event) → is_act is_give e ≡ true → Sound c l → refusal_in c e ≡ Taken → drive_at (effect_of c l e).turn.core i ≡ drive_at c i
    go None g k h = absurd (false≢true g)
    go (Some Reset) g k h = absurd (false≢true g)
    go (Some (Named j x)) g k h = absurd (false≢true g)
    go (Some (Own (Command k))) g s h = absurd (false≢true g)
    go (Some (Own (Give b))) g k h = at _ (own_drive c l (Give b) i r k)
      where
        at : (y : Drive) → Got i c.port.selected (act (staged_in c (Give b) l).staging (seat_of c l) (Give b)).moved.drive (drive_at c i) y
            → y ≡ drive_at c i
        at y (same e) =
            absurd (quits (drive_at c i).mode off
            (subst (λ (j : ℕ). (drive_at c j).mode ≡ Writing) e (taking_writing c.port.phase (drive_at c c.port.selected) (in_step_lem _ h))))
        at y (other o) = refl
    go (Some (Own Take)) g k h = absurd (false≢true g)
    go (Some (Own Online)) g k h = absurd (false≢true g)
    go (Some (Own Offline)) g k h = absurd (false≢true g)

-- ---- so many at most

one_at_most : (b : Bool) → one_if b ≤ 1
one_at_most true = omega arith
one_at_most false = omega arith

-- a head that stayed stands no block further
no_further : (g : Bool) (h k : ℕ) → k ≡ h → one_if (g && eqb k (h + 513)) ≡ 0
no_further true h k e = rw (ne_eqb k (h + 513) (λ q. omega (arith, e, q)))
no_further false h k e = refl

-- A drive that is Writing late, or not at all.
abbrev Late : Drive → Type 0
Late d = d.mode ≡ Writing → 1 ≤ d.late

module _ (w : World) (e : List ℕ) (i : ℕ) (r : i ≤ 3) (k : Sound w.core w.lent) where
  abbrev d : Drive
  d = drive_at w.core i

  abbrev d' : Drive
  d' = drive_at (after w e).core i

  -- outside Writing nothing is recorded
  none_recorded : is_writing d.mode ≡ false → one_if (records_on i w e) ≡ 0
  unfolding after
  none_recorded off = go (is_act is_give (event_of e)) refl
    where
      go : (g : Bool) → is_act is_give (event_of e) ≡ g → one_if (g && eqb d'.head (d.head + 513)) ≡ 0
      go true q = no_further true d.head d'.head (ap (λ (y : Drive). y.head) (given_stays w.core w.lent e i r k.whole q off))
      go false q = refl

  -- a WRITE that the drive accepted is seen as one
  begun_seen : {A : Type 0} → accepts_write i w e ≡ false → w.core.port.selected ≡ i → Accepted w.core w.lent e 64 → A
  unfolding turn_of
  begun_seen n s a = absurd (true≢false (sym (rw (eq-eqb w.core.port.selected i s, a.order, a.answer)) ∙ n))

  -- the 512th byte is given to a drive that is Writing
  last_writing : w.core.port.selected ≡ i → w.core.port.phase ≡ Taking 511 → d.mode ≡ Writing
  unfolding possible_phase
  last_writing s p = subst (λ (j : ℕ). (drive_at w.core j).mode ≡ Writing) s (writing_is _ (rw p at k.phase))

  -- a late WRITE stays one, or ends
  stays_late : Late d → accepts_write i w e ≡ false → LateMove w.core w.lent e i d d' → Late d'
  stays_late f n (ended x z) = λ m. absurd (x m)
  stays_late f n (begun s a z) = begun_seen n s a
  stays_late f n (counted s b x more h z) = λ m. omega (arith, f (last_writing s x.given.place), more, z)
  stays_late f n (kept m h z) = λ m'. omega (arith, f m, z)

  -- what is recorded now and what is still to come are no more than was allowed
  fewer : (rest : ℕ) → Late d → accepts_write i w e ≡ false → rest ≤ d'.late → LateMove w.core w.lent e i d d'
      → one_if (records_on i w e) + rest ≤ d.late
  fewer rest f n few (ended x z) = go (is_writing d.mode) refl
    where
      go : (b : Bool) → is_writing d.mode ≡ b → one_if (records_on i w e) + rest ≤ d.late
      go true q = omega (arith, one_at_most (records_on i w e), f (writing_is d.mode q), few, z)
      go false q = omega (arith, none_recorded q, few, z)
  fewer rest f n few (begun s a z) = begun_seen n s a
  fewer rest f n few (counted s b x more h z) = omega (arith, one_at_most (records_on i w e), f (last_writing s x.given.place), few, z)
  fewer rest f n few (kept m h z) = omega (arith, no_further (is_act is_give (event_of e)) d.head d'.head h, few, z)

at_most : (es : List (List ℕ)) (w : World) (i : ℕ) → i ≤ 3 → Sound w.core w.lent → Late (drive_at w.core i)
    → blocks_on i w es ≤ (drive_at w.core i).late
unfolding after
at_most [] w i r k f = zero-le
at_most (e ∷ es) w i r k f =
    go (accepts_write i w e) refl (λ late. at_most es (after w e) i r (step_stays_sound w.core w.lent e k) late)
  where
    go : (b : Bool) → accepts_write i w e ≡ b → (Late (drive_at (after w e).core i) → blocks_on i (after w e) es ≤ (drive_at (after w e).core i).late)
        → none_if b (one_if (records_on i w e) + blocks_on i (after w e) es) ≤ (drive_at w.core i).late
    go true q few = zero-le
    go false q few =
        let m = late_moves w.core w.lent e i r k.whole (sound_possible w.core w.lent k) in
        fewer w e i r k (blocks_on i (after w e) es) f q (few (stays_late w e i r k f q m)) m

pub at_most_two : AtMostTwo
unfolding after
at_most_two w e k x short es =
    let n = w.core.port.selected in
    let s = sound w.core w.lent k.possible k.short k.whole in
    let late : (drive_at (after w e).core n).late ≡ 2 = accepted_begins w.core w.lent e x ∙ two_late (drive_of w).head (length (tape_of w)) short in
    let few = at_most es (after w e) n s.sel (step_stays_sound w.core w.lent e s) (λ _. omega (arith, late)) in
    omega (arith, few, late)
