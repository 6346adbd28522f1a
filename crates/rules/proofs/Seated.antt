-- One event of the host, seen from the seat of the selected drive: what its act leaves is what the next one finds.
use Prim.Native.Nat.{ℕ}
use mathlib.Core.Path.{◌≡◌, refl, ap, subst, ◌∙◌}
use mathlib.Core.Bool.{true}
use mathlib.Core.List.{List}
use Rattle.std.specs.Prelude.{Some}
use Rattle.basis.specs.Choice.{pick}
use Rattle.rules.specs.declared.unit.Core.{Core}
use Rattle.rules.specs.declared.event.Act.{Act}
use Rattle.rules.specs.declared.event.Event.TheVariants.{Own}
use Rattle.rules.specs.declared.answer.Answer.TheVariants.{Taken, Raised}
use Rattle.rules.specs.Unit.{Lent}
use Rattle.rules.specs.Event.{event_of}
use Rattle.rules.specs.Refusal.{in_step_at}
use Rattle.rules.specs.Effect.{Seat, seat, Acted}
use Rattle.rules.specs.Step.{Stepped, staged, act, staged_in, seat_of, owned, step_of}
use Rattle.rules.specs.Run.{World, after, turn_of}
use Rattle.rules.specs.Promises.Strike.{Works}
use Rattle.rules.proofs.Places.{put_same}
use Rattle.rules.proofs.Sound.{Sound, sound, sound_possible, sound_short}
use Rattle.rules.proofs.StepBy.{step_is}
use Rattle.rules.proofs.Keeps.{step_stays_sound}

-- A world in which the staging block is g and the selected drive sees s.
pub record Sits (w : World) (g : List ℕ) (s : Seat) : Type 0 where
  pub seat : seat_of w.core w.lent ≡ s
  pub staging : w.lent.staging ≡ g
  pub sound : Sound w.core w.lent

pub sits_here : (w : World) → Works w → Sits w w.lent.staging (seat_of w.core w.lent)
sits_here w k = record { seat = refl; staging = refl; sound = sound w.core w.lent k.possible k.short k.whole }

pub sits_works : {w : World} {g : List ℕ} {s : Seat} → Sits w g s → Works w
sits_works {w} k =
    record {
      possible = sound_possible w.core w.lent k.sound;
      short = sound_short w.core w.lent k.sound;
      whole = k.sound.whole;
    }

-- What an act leaves for the next one.
abbrev pub left : Acted → Seat
left m = seat m.moved.port m.moved.drive m.tape

-- The event e was taken, and m is what the act did.
pub record Moves (w : World) (e : List ℕ) (g : List ℕ) (m : Acted) : Type 0 where
  pub next : Sits (after w e) g (left m)
  pub answer : (turn_of w e).answer ≡ pick m.moved.raised Raised Taken
  pub byte : (turn_of w e).byte ≡ m.moved.byte

step_owned : (c : Core) (l : Lent) (e : List ℕ) (a : Act) → Sound c l → event_of e ≡ Some (Own a)
    → in_step_at c.port.phase (seat_of c l).drive a ≡ true → step_of c l e ≡ owned c (staged_in c a l) a
unfolding pick
step_owned c l e a k q i = step_is c l e k ∙ rw (q, i)

moves_here : (w : World) (e : List ℕ) (a : Act) → Sound w.core w.lent → event_of e ≡ Some (Own a)
    → in_step_at w.core.port.phase (seat_of w.core w.lent).drive a ≡ true
    → (act (staged w.core.port.phase a w.lent.staging) (seat_of w.core w.lent) a).moved.port.selected ≡ w.core.port.selected
    → Moves w e (staged w.core.port.phase a w.lent.staging)
    (act (staged w.core.port.phase a w.lent.staging) (seat_of w.core w.lent) a)
unfolding after turn_of
moves_here w e a k q i h =
    let o = step_owned w.core w.lent e a k q i in
    record {
      next =
          record {
            seat = ap (λ (s : Stepped). seat_of s.turn.core s.lent) o ∙ rw (h, put_same, put_same);
            staging = ap (λ (s : Stepped). s.lent.staging) o;
            sound = step_stays_sound w.core w.lent e k;
          };
      answer = ap (λ (s : Stepped). s.turn.answer) o;
      byte = ap (λ (s : Stepped). s.turn.byte) o;
    }

-- An act of the host that is in step, and leaves the drive selected, is what the event does.
pub sits_step : (w : World) (g : List ℕ) (s : Seat) (e : List ℕ) (a : Act) → Sits w g s → event_of e ≡ Some (Own a)
    → in_step_at s.port.phase s.drive a ≡ true
    → (act (staged s.port.phase a g) s a).moved.port.selected ≡ s.port.selected
    → Moves w e (staged s.port.phase a g) (act (staged s.port.phase a g) s a)
sits_step w g s e a k q =
    subst (λ (x : Seat). in_step_at x.port.phase x.drive a ≡ true
    → (act (staged x.port.phase a g) x a).moved.port.selected ≡ x.port.selected
    → Moves w e (staged x.port.phase a g) (act (staged x.port.phase a g) x a)) k.seat
    (subst (λ (y : List ℕ). in_step_at w.core.port.phase (seat_of w.core w.lent).drive a ≡ true
    → (act (staged w.core.port.phase a y) (seat_of w.core w.lent) a).moved.port.selected ≡ w.core.port.selected
    → Moves w e (staged w.core.port.phase a y) (act (staged w.core.port.phase a y) (seat_of w.core w.lent) a)) k.staging
    (moves_here w e a k.sound q))
