-- The cutting and document 01's table of events agree.
use Prim.Native.Nat.{ℕ, ◌≤◌}
use mathlib.Core.Bool.{Bool, true, false}
use mathlib.Core.List.{List, [], ◌∷◌, ◌++◌, append-nil}
use mathlib.Core.Path.{◌≡◌, refl, ap, ◌∙◌}
use native.Mathlib.Omega.{arith}
use lib.Dec.{eqb}
use lib.ListN.{length, take, drop, take-append-drop}
use borrow.Author.Tests.{eqb-true, ne_eqb, le-leb}
use Rattle.std.specs.Prelude.{Option, None, Some, Ok}
use Rattle.basis.specs.Choice.{pick}
use Rattle.rules.specs.declared.unit.Core.{Core}
use Rattle.rules.specs.declared.answer.Answer.{Answer}
use Rattle.rules.specs.declared.answer.Answer.TheVariants.{Malformed}
use Rattle.rules.specs.declared.event.Event.{Event}
use Rattle.rules.specs.declared.event.Event.TheVariants.{Reset, Named, Own}
use Rattle.rules.specs.Unit.{Lent}
use Rattle.rules.specs.Event.{bare_event, bodied_event, event_of}
use Rattle.rules.specs.Refusal.{possible, short, refusal_of}
use Rattle.rules.specs.Step.{settled, step_by, step_of}
use Rattle.rules.specs.Run.{world, turn_of}
use Rattle.trace.specs.Cut.{kind_size, cut_by, cut_of}
use Rattle.trace.specs.Play.{stops}
use Rattle.trace.specs.Form.{CutByTheTable}

-- A kind is one of the table, or its event is none.
kind_is : (k j size : ℕ) (e d : Option Event) → kind_size j ≡ Some size → ((d ≡ None → ⊥) → kind_size k ≡ Some size) → (pick (eqb k j) e d ≡ None → ⊥)
    → kind_size k ≡ Some size
unfolding pick
kind_is k j size e d at_j otherwise h = go (eqb k j) refl h
  where
    go : (b : Bool) → eqb k j ≡ b → (pick b e d ≡ None → ⊥) → kind_size k ≡ Some size
    go true p q = ap kind_size (eqb-true k j p) ∙ at_j
    go false p q = otherwise q

bare_size_lem : (k : ℕ) → (bare_event k ≡ None → ⊥) → kind_size k ≡ Some 1
unfolding bare_event kind_size pick
bare_size_lem k h =
    kind_is k 3 1 _ _ refl (kind_is k 4 1 _ _ refl (kind_is k 5 1 _ _ refl (kind_is k 6 1 _ _ refl (λ q. absurd (q refl))))) h

bodied_size_lem : (k b : ℕ) → (bodied_event k b ≡ None → ⊥) → kind_size k ≡ Some 2
unfolding bodied_event kind_size pick
bodied_size_lem k b h =
    kind_is k 1 2 _ _ refl
    (kind_is k 2 2 _ _ refl
    (kind_is k 7 2 _ _ refl
    (kind_is k 8 2 _ _ refl
    (kind_is k 9 2 _ _ refl
    (kind_is k 10 2 _ _ refl (λ q. absurd (q refl))))))) h

whole_cut : (k : ℕ) (l : List ℕ) (size : ℕ) → kind_size k ≡ Some size → size ≤ length (k ∷ l) → cut_of (k ∷ l) ≡ Ok size
unfolding cut_of cut_by pick
whole_cut k l size e h = rw (e, le-leb size (length (k ∷ l)) h)

whole_is : (e m : List ℕ) → (event_of e ≡ None → ⊥) → cut_of (e ++ m) ≡ Ok (length e)
unfolding event_of pick
whole_is [] m h = absurd (h refl)
whole_is (k ∷ []) m h = whole_cut k m 1 (bare_size_lem k h) (omega arith)
whole_is (k ∷ (b ∷ [])) m h = whole_cut k (b ∷ m) 2 (bodied_size_lem k b h) (omega arith)
whole_is (k ∷ (b ∷ (x ∷ l))) m h =
    absurd (h (rw (ne_eqb (length (k ∷ (b ∷ (x ∷ l)))) 1 (λ p. omega (arith, p)), ne_eqb (length (k ∷ (b ∷ (x ∷ l)))) 2 (λ p. omega (arith, p)))))

-- What is not cut off whole is no event of the table.
none_is : (e m : List ℕ) → (cut_of (e ++ m) ≡ Ok (length e) → ⊥) → event_of e ≡ None
none_is e m h = go (event_of e) refl
  where
    go : (x : Option Event) → event_of e ≡ x → event_of e ≡ None
    go None p = p
    go (Some Reset) p = absurd (h (whole_is e m (λ q. let z : ◌≡◌ {A = ℕ} 0 1 = cc in omega arith)))
    go (Some (Named i w)) p = absurd (h (whole_is e m (λ q. let z : ◌≡◌ {A = ℕ} 0 1 = cc in omega arith)))
    go (Some (Own a)) p = absurd (h (whole_is e m (λ q. let z : ◌≡◌ {A = ℕ} 0 1 = cc in omega arith)))

refusal_is : (c : Core) (l : Lent) → possible c ≡ true → short l ≡ true → refusal_of c l None ≡ Malformed
unfolding refusal_of pick
refusal_is c l p q = rw (p, q)

stopped_is : (c : Core) (l : Lent) (e : List ℕ) → possible c ≡ true → short l ≡ true → event_of e ≡ None
    → stops (turn_of (world c l) e).answer ≡ true
unfolding turn_of step_of step_by stops pick
stopped_is c l e p q h =
    ap (λ (x : Option Event). stops (step_by c l x).turn.answer) h
    ∙ ap (λ (a : Answer). stops (settled c l None a).turn.answer) (refusal_is c l p q)

pub cut_by_the_table : CutByTheTable
cut_by_the_table =
    record {
      whole = whole_is;
      unknown =
          λ l p. none_is (take 1 l) (drop 1 l)
          (λ q. let r = rw (take-append-drop 1 l) at q in let z : ◌≡◌ {A = ℕ} 0 1 = cc in omega arith);
      cut_off = λ l p. none_is l [] (λ q. let r = rw (append-nil l) at q in let z : ◌≡◌ {A = ℕ} 0 1 = cc in omega arith);
      stopped = stopped_is;
    }
