-- 512 bytes taken from a drive that reads, with a whole block at its head: they are the block's own, and then comes the edge check.
use Prim.Native.Nat.{ℕ, zero, suc, ◌+◌, ◌<◌}
use mathlib.Core.Path.{◌≡◌, refl, sym, ap, subst, ◌∙◌}
use mathlib.Core.Bool.{true, false}
use mathlib.Core.List.{List, [], ◌∷◌, ◌++◌}
use Rattle.std.specs.Prelude.{Some}
use native.Mathlib.Omega.{arith}
use native.Mathlib.Nat.{add-zero}
use native.Mathlib.Numerals.{add-one}
use lib.Dec.{ltb}
use lib.ListN.{length, get_or, drop, take-append-drop}
use lib.Seq.{drop-drop, get_or-drop}
use borrow.Author.Tests.{lt-ltb}
use Rattle.std.specs.Prelude.{Some}
use Rattle.basis.specs.Choice.{pick}
use Rattle.basis.proofs.Choosing.{choice_holds}
use Rattle.std.specs.Prelude.{Ok}
use Rattle.tape.specs.declared.found.Kind.TheVariants.{Block}
use Rattle.tape.specs.Record.{block_record, found_at}
use Rattle.tape.specs.Held.{Holds}
use Rattle.rules.specs.declared.drive.Drive.{Drive}
use Rattle.rules.specs.declared.unit.Port.{Port}
use Rattle.rules.specs.declared.phase.Phase.{Phase}
use Rattle.rules.specs.declared.phase.Phase.TheVariants.{Rest, Giving}
use Rattle.rules.specs.declared.event.Act.TheVariants.{Take}
use Rattle.rules.specs.declared.event.Event.TheVariants.{Own}
use Rattle.rules.specs.declared.order.Checked.{Checked}
use Rattle.rules.specs.declared.answer.Turn.{Turn}
use Rattle.rules.specs.Drive.{reads, passed_to}
use Rattle.rules.specs.Unit.{at_phase}
use Rattle.rules.specs.Event.{bare_event, event_of}
use Rattle.rules.specs.Refusal.{in_step_at}
use Rattle.rules.specs.Edge.{checked}
use Rattle.rules.specs.Effect.{Seat, seat, Acted, hands}
use Rattle.rules.specs.Bytes.{handed, last_handed, byte_taken}
use Rattle.rules.specs.Run.{World, after, run, turn_of, turns, taken_times}
use Rattle.rules.specs.Promises.Strike.{AllTaken, RaisedLast, last, then, handed_out}
use Rattle.rules.proofs.Seated.{Sits, Moves, sits_step}

-- the phase in which n bytes of a block were taken
abbrev pub taken_at : ℕ → Phase
taken_at zero = Rest
taken_at (suc n) = Giving (suc n)

pub may_take : (n : ℕ) (d : Drive) → reads d ≡ true → in_step_at (taken_at n) d Take ≡ true
may_take zero d h = h
may_take (suc n) d h = refl

pub take_event : event_of (3 ∷ []) ≡ Some (Own Take)
unfolding event_of bare_event pick
take_event = refl

pub taken_is : (s : Seat) (n : ℕ) → found_at s.tape s.drive.head ≡ Ok Block → byte_taken s (taken_at n) ≡ handed s n
unfolding pick checked
taken_is s zero f = rw f
taken_is s (suc n) f = rw f

handed_here : (s : Seat) (n : ℕ) → (handed s n).moved.port.selected ≡ s.port.selected
unfolding handed
handed_here s n = choice_holds (λ (m : Acted). m.moved.port.selected ≡ s.port.selected) (ltb n 511) refl refl

part_handed : (s : Seat) (n : ℕ) → n < 511
    → handed s n ≡ hands false (get_or s.tape (s.drive.head + 1 + n) 0) (at_phase (taken_at (suc n)) s.port) s.drive s.tape
unfolding pick handed
part_handed s n l = rw (lt-ltb n 511 l, add-one n)

handed_on : (r : Turn) (rs : List Turn) (b : ℕ) (bs : List ℕ) → r.byte ≡ Some b → handed_out rs ≡ bs → handed_out (r ∷ rs) ≡ b ∷ bs
handed_on r rs b bs e h = rw (e, h)

-- the byte that stands there, and what stands behind it
byte_there : (t more bs : List ℕ) (k b : ℕ) → drop k t ≡ (b ∷ bs) ++ more → get_or t k 0 ≡ b
byte_there t more bs k b e = ap (λ (m : ℕ). get_or t m 0) (sym (add-zero k)) ∙ sym (get_or-drop k t 0 0) ∙ ap (λ (l : List ℕ). get_or l 0 0) e

rest_there : (t more bs : List ℕ) (k b : ℕ) → drop k t ≡ (b ∷ bs) ++ more → drop (k + 1) t ≡ bs ++ more
rest_there t more bs k b e = sym (drop-drop 1 k t) ∙ ap (drop 1) e

module _ (p : Port) (d : Drive) (t g : List ℕ) (may : reads d ≡ true) (whole : found_at t d.head ≡ Ok Block) where
  abbrev seat_at : ℕ → Seat
  seat_at n = seat (at_phase (taken_at n) p) d t

  -- the edge check behind the block
  abbrev edge : Checked
  edge = checked t (passed_to (d.head + 513) d)

  -- what taking these bytes left
  pub record Handed (w : World) (bs : List ℕ) : Type 0 where
    pub next : Sits (run w (taken_times (length bs))) g (seat (at_phase Rest p) edge.drive t)
    pub bytes : handed_out (turns w (taken_times (length bs))) ≡ bs
    pub quiet : edge.raised ≡ false → AllTaken (turns w (taken_times (length bs)))
    pub raised : edge.raised ≡ true → RaisedLast (turns w (taken_times (length bs)))

  take_moves : (w : World) (n : ℕ) → Sits w g (seat_at n) → Moves w (3 ∷ []) g (handed (seat_at n) n)
  take_moves w n k =
      subst (Moves w (3 ∷ []) g) (taken_is (seat_at n) n whole)
      (sits_step w g (seat_at n) (3 ∷ []) Take k take_event (may_take n d may)
      (ap (λ (m : Acted). m.moved.port.selected) (taken_is (seat_at n) n whole) ∙ handed_here (seat_at n) n))

  take_last : (w : World) → Sits w g (seat_at 511) → Moves w (3 ∷ []) g (last_handed (seat_at 511) edge)
  unfolding pick handed
  take_last w k = take_moves w 511 k

  -- the bytes from place n on, the last of them at 511
  take_rest : (bs more : List ℕ) (w : World) (n b : ℕ) → n + length (b ∷ bs) ≡ 512 → drop (d.head + 1 + n) t ≡ (b ∷ bs) ++ more
      → Sits w g (seat_at n) → Handed w (b ∷ bs)
  unfolding pick
  take_rest [] more w n b e q k =
      let z : n ≡ 511 = omega (arith, e) in
      let m = take_last w (subst (λ (x : ℕ). Sits w g (seat_at x)) z k) in
      let at : d.head + 1 + n ≡ d.head + 512 = omega (arith, z) in
      let byte : get_or t (d.head + 512) 0 ≡ b = ap (λ (x : ℕ). get_or t x 0) (sym at) ∙ byte_there t more [] (d.head + 1 + n) b q in
      record {
        next = m.next;
        bytes = handed_on (turn_of w (3 ∷ [])) [] b [] (m.byte ∙ ap Some byte) refl;
        quiet = λ r. (m.answer ∙ rw r, tt);
        raised = λ r. last (m.answer ∙ rw r);
      }
  take_rest (b' ∷ bs) more w n b e q k =
      let l : n < 511 = omega (arith, e) in
      let m = subst (Moves w (3 ∷ []) g) (part_handed (seat_at n) n l) (take_moves w n k) in
      let at : d.head + 1 + n + 1 ≡ d.head + 1 + suc n = omega arith in
      let q' : drop (d.head + 1 + suc n) t ≡ (b' ∷ bs) ++ more =
      ap (λ (x : ℕ). drop x t) (sym at) ∙ rest_there t more (b' ∷ bs) (d.head + 1 + n) b q in
      let r = take_rest bs more (after w (3 ∷ [])) (suc n) b' (omega (arith, e)) q' m.next in
      record {
        next = r.next;
        bytes =
            handed_on (turn_of w (3 ∷ [])) (turns (after w (3 ∷ [])) (taken_times (length (b' ∷ bs)))) b (b' ∷ bs)
            (m.byte ∙ ap Some (byte_there t more (b' ∷ bs) (d.head + 1 + n) b q)) r.bytes;
        quiet = λ x. (m.answer, r.quiet x);
        raised = λ x. then m.answer (r.raised x);
      }

-- a whole block that stands at the head, taken from Rest on
pub block_handed : (p : Port) (d : Drive) (t g : List ℕ) (may : reads d ≡ true) (whole : found_at t d.head ≡ Ok Block) (w : World) (body : List ℕ)
    → length body ≡ 512 → Holds t d.head (block_record body) → Sits w g (seat (at_phase Rest p) d t) → Handed p d t g may whole w body
block_handed p d t g may whole w [] e h k = absurd (omega (arith, e))
block_handed p d t g may whole w (b ∷ bs) e h k =
    let more = drop (length (block_record (b ∷ bs))) (drop d.head t) in
    let all : drop d.head t ≡ block_record (b ∷ bs) ++ more =
    sym (take-append-drop (length (block_record (b ∷ bs))) (drop d.head t)) ∙ ap (λ (x : List ℕ). x ++ more) h in
    take_rest p d t g may whole bs more w 0 b (omega (arith, e))
    (ap (λ (x : ℕ). drop x t) (add-zero (d.head + 1)) ∙ rest_there t more (b ∷ bs) d.head 1 all) k
