-- The demands, carried from the book to runs of the step.
use Prim.Native.Nat.{ℕ}
use mathlib.Core.Path.{◌≡◌, refl, sym, ap, ap₂, subst, ◌∙◌}
use mathlib.Core.Bool.{Bool, true, false}
use mathlib.Core.List.{List, [], ◌∷◌, ◌++◌}
use lib.ListN.{length}
use Rattle.rules.specs.declared.unit.Core.{Core}
use Rattle.rules.specs.declared.answer.Turn.{Turn}
use Rattle.rules.specs.Unit.{Lent, Whole, drive_at, tape_at}
use Rattle.rules.specs.Event.{event_of}
use Rattle.rules.specs.Answer.{row_of}
use Rattle.rules.specs.Step.{Stepped, stepped, step_of, Steps}
use Rattle.rules.specs.Run.{World, world, run}
use Rattle.rules.specs.Reach.{Change, real_change, any_level, Gave, reaches_by, gave_by, only_if, reaches, gave, reached, given}
use Rattle.rules.specs.Promises.Table.{answer_to}
use Rattle.rules.specs.Promises.Refused.{AsFound, ByteRules}
use Rattle.rules.specs.Promises.Orders.{IllegalRules}
use Rattle.rules.specs.Promises.Status.{ByStatus}
use Rattle.rules.specs.Promises.BadKinds.{KindTold}
use Rattle.rules.specs.Promises.Changes.{Happens}
use Rattle.rules.specs.Promises.Changes
use Rattle.rules.specs.Promises.Strike.{recording, reading, passing, bytes_of}
use Rattle.rules.specs.Promises.Late.{LateMove, Behind, EomOrOn}
use Rattle.rules.specs.Promises.Demand3.{Demand3For}
use Rattle.rules.specs.Ran.{Ran, no_events, next}
use Rattle.rules.proofs.Table.{answers_by_the_table}
use Rattle.rules.proofs.Refused.{refused_keeps, bytes_exactly}
use Rattle.rules.proofs.Illegal.{illegal_exactly}
use Rattle.rules.proofs.Status.{exception_falls}
use Rattle.rules.proofs.BadKinds.{kinds_told}
use Rattle.rules.proofs.Keeps.{protected_keeps}
use Rattle.rules.proofs.Plug.{other_tapes_stay, other_drives_stay}
use Rattle.rules.proofs.Changes.{one_change, recording_happens}
use Rattle.rules.proofs.Lates.{late_moves}
use Rattle.rules.proofs.LateBlocks.{byte_behind, eom_exactly}
use Rattle.rules.proofs.LateRuns.{at_most_two}
use Rattle.rules.proofs.Returns.{strike_comes_back}
use Rattle.rules.proofs.Among.{strike_among_others}
use Rattle.rules.proofs.Demand3.{demand_3, demand_3_any_level}
use Rattle.rules.proofs.Ran.{steps_are_the_books, runs_are_the_books}
use Rattle.unit.specs.Demands.{reached_in, gave_in, OneDrive, ComesBack, ComesBackAmongOthers, Answered, ByTheRules, DemandsHold}

-- what a run of the step shows of a drive is what the book's shows
record Seen (k : Change) (d : ℕ) (w : World) (es : List (List ℕ)) (rs : List Turn) : Type 0 where
  reached_is : reached_in k d w.core es rs ≡ reached k d w es
  gave_is : gave_in k d w.core es rs ≡ given k d w es

seen : (k : Change) (d : ℕ) (w w' : World) (es : List (List ℕ)) (rs : List Turn) → Ran w es rs w' → Seen k d w es rs
unfolding reaches gave
seen k d w w' [] [] no_events = record { reached_is = refl; gave_is = refl }
seen k d w w' [] (r ∷ rs) none = elim none [ ]
seen k d w w' (e ∷ es) [] none = elim none [ ]
seen k d w w' (e ∷ es) (r ∷ rs) (next {c} {l} {l'} p q) =
    let one = steps_are_the_books c l e r l' p in
    let rest = seen k d (world r.core l') w' es rs q in
    let here : Turn → Bool = λ t. reaches_by k d c.port.selected c.port.online t.answer (event_of e) in
    record {
      reached_is =
          ap (λ (x : List (List ℕ)). only_if (here r) e x) rest.reached_is
          ∙ ap₂ (λ (t : Turn) (v : World). only_if (here t) e (reached k d v es)) (sym one.answered) (sym one.left);
      gave_is =
          ap (λ (x : List Gave). only_if (here r) (gave_by d c.port.selected (event_of e) r) x) rest.gave_is
          ∙ ap₂ (λ (t : Turn) (v : World). only_if (here t) (gave_by d c.port.selected (event_of e) t) (given k d v es)) (sym one.answered)
          (sym one.left);
    }

one_drive : (k : Change) → Demand3For k → OneDrive k
one_drive k book d d3 a b c e a' b' c' e' h h' t es es' rs rs' w w' p p' same =
    let x = seen k d _ w es rs p in
    let x' = seen k d _ w' es' rs' p' in
    let fate = book d d3 a b c e a' b' c' e' h h' t es es' (sym x.reached_is ∙ same ∙ x'.reached_is) in (
      rw ((runs_are_the_books _ w es rs p).left, (runs_are_the_books _ w' es' rs' p').left) fate.ends,
      x.gave_is ∙ fate.gives ∙ sym x'.gave_is,
    )

-- ---- the strike

comes_back : ComesBack
comes_back w w₁ w₂ w₃ bs k back rs₁ rs₂ rs₃ a m e b p q r =
    let x = runs_are_the_books w w₁ (recording bs) rs₁ p in
    let y = runs_are_the_books w₁ w₂ (back ++ passing k) rs₂ q in
    let z = runs_are_the_books w₂ w₃ (reading (length bs)) rs₃ r in
    let there : w₂ ≡ run (run w (recording bs)) (back ++ passing k) = y.left ∙ ap (λ (v : World). run v (back ++ passing k)) x.left in
    let s = strike_comes_back w bs k back a m e b in
    (rw x.answered s.0, rw (z.left, z.answered, there) s.1)

among_others : ComesBackAmongOthers
among_others d d3 a b c e h before es bs k back sel whole may began bk rs w' p same =
    let x = seen real_change d _ w' es rs p in
    ap bytes_of x.gave_is ∙ strike_among_others d d3 a b c e h before es bs k back sel whole may began bk (sym x.reached_is ∙ same)

-- ---- one event

-- what holds of the book's step holds of what the step handed back and left
carry : (P : Stepped → Type 0) (c : Core) (l : Lent) (event : List ℕ) (r : Turn) (l' : Lent) → Steps c l event r l' → P (step_of c l event)
    → P (stepped r l')
carry P c l event r l' p = subst P (sym p.is)

answered : (c : Core) (l : Lent) (event : List ℕ) (r : Turn) (l' : Lent) → Steps c l event r l' → Answered c l event r l'
answered c l event r l' p =
    record {
      answer = carry (λ s. s.turn.answer ≡ answer_to c l event) c l event r l' p refl;
      table = answers_by_the_table c l event;
      refused = carry (λ s. (row_of s.turn.answer).refuses ≡ true → AsFound c l s) c l event r l' p (refused_keeps c l event);
    }

by_the_rules : (c : Core) (l : Lent) (event : List ℕ) (r : Turn) (l' : Lent) → Whole l → Steps c l event r l' → ByTheRules c l event r l'
by_the_rules c l event r l' w p =
    let of : (P : Stepped → Type 0) → P (step_of c l event) → P (stepped r l') = λ P. carry P c l event r l' p in
    let n = c.port.selected in
    record {
      illegal = λ k q. of (λ s. (row_of s.turn.answer).refuses ≡ false → IllegalRules c l k s) (illegal_exactly c l event k w q);
      exception = λ i h up. of (λ s. (drive_at s.turn.core i).exception ≡ false → ByStatus c event i) (exception_falls c l event i h w up);
      kind = of (KindTold c l event) (kinds_told c l event w);
      bytes = of (ByteRules c l event) (bytes_exactly c l event w);
      plug = λ i h q. of (λ s. tape_at s.lent i ≡ tape_at l i) (protected_keeps c l event i h w q);
      cable = λ i h q. of (λ s. tape_at s.lent i ≡ tape_at l i) (other_tapes_stay c l event i h w q);
      cable_record = λ i h q m. of (λ s. drive_at s.turn.core i ≡ drive_at c i) (other_drives_stay c l event i h w q m);
      change = of (λ s. Changes.Change c l event (tape_at s.lent n)) (one_change c l event w);
      happens = of (λ s. Happens c l event (tape_at s.lent n)) (recording_happens c l event w);
      late = λ i h q. of (λ s. LateMove c l event i (drive_at c i) (drive_at s.turn.core i)) (late_moves c l event i h w q);
      behind = λ b q. of (λ s. Behind (drive_at s.turn.core n) (tape_at s.lent n) (drive_at c n).head) (byte_behind c l event b w q);
      eom = λ b q. of (λ s. EomOrOn (drive_at c n) (drive_at s.turn.core n) (length (tape_at l n)) s.turn.answer) (eom_exactly c l event b w q);
    }

pub demands_hold : DemandsHold
demands_hold =
    record {
      answered = answered;
      by_the_rules = by_the_rules;
      books = runs_are_the_books;
      two_late = at_most_two;
      one_drive = one_drive real_change demand_3;
      one_drive_any_level = one_drive any_level demand_3_any_level;
      strike = comes_back;
      strike_among_others = among_others;
    }
