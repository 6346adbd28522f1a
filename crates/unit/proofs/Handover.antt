-- Many events in one call: how a run that stops after the first that is not answered 0 goes on, leg by leg.
use Prim.Native.Nat.{ℕ, ◌+◌}
use mathlib.Core.Path.{◌≡◌, refl, sym, ap, ap₂, subst, ◌∙◌}
use mathlib.Core.Bool.{Bool, true, false, false≢true}
use mathlib.Core.List.{List, [], ◌∷◌, ◌++◌, append_assoc, append-nil}
use native.Mathlib.Nat.{zero-add, add_assoc}
use lib.ListN.{length}
use Rattle.basis.specs.Choice.{pick}
use Rattle.basis.proofs.Choosing.{elim_true, elim_false}
use Rattle.rules.specs.declared.unit.Core.{Core}
use Rattle.rules.specs.declared.answer.Turn.{Turn}
use Rattle.rules.specs.Unit.{Lent}
use Rattle.rules.specs.Step.{Steps}
use Rattle.rules.specs.Run.{World, world, after, run, turn_of, turns}
use Rattle.rules.specs.Ran.{Ran, no_events, next, SameSizes}
use Rattle.rules.specs.Promises.Strike.{AllTaken}
use Rattle.rules.proofs.Ran.{runs_are_the_books, steps_are_the_books, every_run, same_sizes, sizes_on, run_append, turns_append}
use Rattle.unit.specs.declared.many.Handed.{Handed}
use Rattle.unit.specs.Handover.{is_zero, up_to, turns_up_to, count_of, last_of, no_event, Over, over, handover, HandoverRan, AllRun}
use Rattle.unit.specs.Ahead.{Leg}

-- ---- Turns in a row

pub count_append : (went : Turn → Bool) (rs ts : List Turn) → count_of went (rs ++ ts) ≡ count_of went rs + count_of went ts
count_append went [] ts = sym (zero-add _)
count_append went (r ∷ rs) ts = ap (λ (n : ℕ). pick (went r) 1 0 + n) (count_append went rs ts) ∙ sym (add_assoc (pick (went r) 1 0) _ _)

pub last_append : (x : Turn) (rs ts : List Turn) → last_of x (rs ++ ts) ≡ last_of (last_of x rs) ts
last_append x [] ts = refl
last_append x (r ∷ rs) ts = last_append r rs ts

-- ---- Where each event is answered 0, those behind them are still to come

pub up_to_on : (w w' : World) (es fs : List (List ℕ)) (rs : List Turn) → Ran w es rs w' → AllTaken rs → up_to w (es ++ fs) ≡ es ++ up_to w' fs
up_to_on w w' [] fs [] no_events all = refl
up_to_on w w' [] fs (r ∷ rs) none all = elim none [ ]
up_to_on w w' (e ∷ es) fs [] none all = elim none [ ]
up_to_on w w' (e ∷ es) fs (r ∷ rs) (next {c} {l} {l'} p more) all =
    let one = steps_are_the_books c l e r l' p in
    let zero : is_zero (turn_of (world c l) e) ≡ true = ap is_zero one.answered ∙ rw all.0 refl in
    ap (λ (x : List (List ℕ)). e ∷ x)
    (elim_true (is_zero (turn_of (world c l) e)) (up_to (after (world c l) e) (es ++ fs)) [] zero
    ∙ ap (λ (x : World). up_to x (es ++ fs)) one.left ∙ up_to_on (world r.core l') w' es fs rs more all.1)

-- One event that is answered otherwise is the last.
pub up_to_ends : (c : Core) (l : Lent) (e : List ℕ) (r : Turn) (l' : Lent) (es : List (List ℕ)) → Steps c l e r l' → is_zero r ≡ false
    → up_to (world c l) (e ∷ es) ≡ e ∷ []
up_to_ends c l e r l' es p no_zero =
    let one = steps_are_the_books c l e r l' p in
    ap (λ (x : List (List ℕ)). e ∷ x) (elim_false (is_zero (turn_of (world c l) e)) _ [] (ap is_zero one.answered ∙ no_zero))

-- ---- A call under way

-- The turns so far, and the events still to come: they lead where all of them lead.
pub record UnderWay (went : Turn → Bool) (c₀ : Core) (l₀ : Lent) (all : List (List ℕ)) (n : ℕ) (last : Turn) (l : Lent) (still : List (List ℕ))
    (rs : List Turn) : Type 0 where
  pub turns_on : turns_up_to (world c₀ l₀) all ≡ rs ++ turns_up_to (world last.core l) still
  pub run_on : run (world c₀ l₀) (up_to (world c₀ l₀) all) ≡ run (world last.core l) (up_to (world last.core l) still)
  pub count : count_of went rs ≡ n
  pub lastly : last_of (no_event c₀) rs ≡ last

-- The call has ended: all its turns.
pub record Ended (went : Turn → Bool) (c₀ : Core) (l₀ : Lent) (all : List (List ℕ)) (n : ℕ) (last : Turn) (l : Lent) (rs : List Turn) : Type 0 where
  pub turns_all : turns_up_to (world c₀ l₀) all ≡ rs
  pub is : over (record { count = n; last = last }) l ≡ handover went (world c₀ l₀) all

-- The core that a turn without an event has.
pub begun : {r : Turn} {c : Core} → r ≡ no_event c → r.core ≡ c
begun e = ap (λ (x : Turn). x.core) e

module _ (went : Turn → Bool) (c₀ : Core) (l₀ : Lent) (all : List (List ℕ)) where
  pub begins : (still : List (List ℕ)) → all ≡ still → UnderWay went c₀ l₀ all 0 (no_event c₀) l₀ still []
  begins still same =
      let w = world c₀ l₀ in
      record { turns_on = ap (turns_up_to w) same; run_on = ap (λ (es : List (List ℕ)). run w (up_to w es)) same; count = refl; lastly = refl }

  told : (n : ℕ) (last : Turn) (l : Lent) (rs : List Turn) → turns_up_to (world c₀ l₀) all ≡ rs → run (world c₀ l₀) (up_to (world c₀ l₀) all) ≡ world last.core l
      → count_of went rs ≡ n → last_of (no_event c₀) rs ≡ last → Ended went c₀ l₀ all n last l rs
  unfolding handover
  told n last l rs turns_all run-all count lastly =
      record {
        turns_all = turns_all;
        is = sym (rw (turns_all, run-all, count, lastly) refl);
      }

  pub ends : (n : ℕ) (last : Turn) (l : Lent) (still : List (List ℕ)) (rs : List Turn) → UnderWay went c₀ l₀ all n last l still rs → still ≡ []
      → Ended went c₀ l₀ all n last l rs
  ends n last l still rs at none =
      let w = world last.core l in
      told n last l rs (at.turns_on ∙ ap (λ (es : List (List ℕ)). rs ++ turns_up_to w es) none ∙ append-nil rs)
      (at.run_on ∙ ap (λ (es : List (List ℕ)). run w (up_to w es)) none) at.count at.lastly

  -- a leg further
  module _ (n : ℕ) (last : Turn) (l : Lent) (still : List (List ℕ)) (rs : List Turn) (r : Handed) (l' : Lent) (rest : List (List ℕ)) (ts : List Turn)
      (at : UnderWay went c₀ l₀ all n last l still rs) (leg : Leg went (world last.core l) still r l' rest ts) where
    count_on : count_of went (rs ++ ts) ≡ n + r.count
    count_on = count_append went rs ts ∙ ap₂ ◌+◌ at.count leg.count

    last_on : last_of (no_event c₀) (rs ++ ts) ≡ r.last
    last_on = last_append (no_event c₀) rs ts ∙ leg.last _

    pub goes_on : is_zero r.last ≡ true → UnderWay went c₀ l₀ all (n + r.count) r.last l' rest (rs ++ ts)
    goes_on zero =
        let w = world last.core l in
        let w' = world r.last.core l' in
        let books = runs_are_the_books w w' leg.some ts leg.ran in
        let up = leg.goes_on zero in
        record {
          turns_on =
              at.turns_on
              ∙ ap (λ (es : List (List ℕ)). rs ++ turns w es) up
              ∙ ap (λ (x : List Turn). rs ++ x) (turns_append w leg.some (up_to w' rest)
              ∙ ap₂ (λ (x : List Turn) (y : World). x ++ turns y (up_to w' rest)) (sym books.answered) (sym books.left))
              ∙ sym (append_assoc rs ts (turns_up_to w' rest));
          run_on =
              at.run_on
              ∙ ap (run w) up
              ∙ run_append w leg.some (up_to w' rest)
              ∙ ap (λ (y : World). run y (up_to w' rest)) (sym books.left);
          count = count_on;
          lastly = last_on;
        }

    pub stops : is_zero r.last ≡ false → Ended went c₀ l₀ all (n + r.count) r.last l' (rs ++ ts)
    stops other =
        let w = world last.core l in
        let w' = world r.last.core l' in
        let books = runs_are_the_books w w' leg.some ts leg.ran in
        let up = leg.ends other in
        told (n + r.count) r.last l' (rs ++ ts)
        (at.turns_on ∙ ap (λ (es : List (List ℕ)). rs ++ turns w es) up ∙ ap (λ (x : List Turn). rs ++ x) (sym books.answered))
        (at.run_on ∙ ap (run w) up ∙ sym books.left) count_on last_on

-- ---- What a loop over legs keeps

-- The staging block and the tapes have the lengths that they had.
pub record Sizes (l l₀ : Lent) : Type 0 where
  pub staging : length l.staging ≡ length l₀.staging
  pub tapes : SameSizes l l₀

pub all_sizes : (l : Lent) → Sizes l l
all_sizes l = record { staging = refl; tapes = same_sizes l }

pub all_sizes_on : {l l' l₀ : Lent} → Sizes l' l → Sizes l l₀ → Sizes l' l₀
all_sizes_on p q = record { staging = p.staging ∙ q.staging; tapes = sizes_on p.tapes q.tapes }

-- Where it stands: some turns were had, and the lengths are kept. P is what else those turns come to.
pub record Standing (went : Turn → Bool) (c₀ : Core) (l₀ : Lent) (all : List (List ℕ)) (n : ℕ) (last : Turn) (l : Lent) (still : List (List ℕ))
    (P : List Turn → Type 0) : Type 0 where
  pub rs : List Turn
  pub at : UnderWay went c₀ l₀ all n last l still rs
  pub sizes : Sizes l l₀
  pub more : P rs

-- ---- For who builds on it

last_core : (x : Turn) (w : World) (es : List (List ℕ)) → x.core ≡ w.core → (last_of x (turns w es)).core ≡ (run w es).core
unfolding after turn_of
last_core x w [] same = same
last_core x w (e ∷ es) same = last_core (turn_of w e) (after w e) es refl

pub handover_ran : HandoverRan
unfolding handover
handover_ran went w es r l' is =
    let core : r.last.core ≡ (run w (up_to w es)).core =
    ap (λ (o : Over). o.last.core) is ∙ last_core (no_event w.core) w (up_to w es) refl in
    let end : run w (up_to w es) ≡ world r.last.core l' = ap₂ world (sym core) (sym (ap (λ (o : Over). o.lent) is)) in
    subst (Ran w (up_to w es) (turns_up_to w es)) end (every_run w (up_to w es))

all_run_from : (x : Turn) (w : World) (es : List (List ℕ)) → is_zero (last_of x (turns_up_to w es)) ≡ true → up_to w es ≡ es
all_run_from x w [] so = refl
all_run_from x w (e ∷ es) so = go (is_zero (turn_of w e)) refl so (all_run_from (turn_of w e) (after w e) es)
  where
    go : (b : Bool) → is_zero (turn_of w e) ≡ b
        → is_zero (last_of (turn_of w e) (turns (after w e) (elim b [ true ↦ up_to (after w e) es | false ↦ [] ]))) ≡ true
        → (is_zero (last_of (turn_of w e) (turns_up_to (after w e) es)) ≡ true → up_to (after w e) es ≡ es)
        → e ∷ (elim b [ true ↦ up_to (after w e) es | false ↦ [] ]) ≡ e ∷ es
    go true p all rest = ap (λ (l : List (List ℕ)). e ∷ l) (rest all)
    go false p all rest = absurd (false≢true (sym p ∙ all))

pub all_run : AllRun
all_run w es so = all_run_from (no_event w.core) w es so
