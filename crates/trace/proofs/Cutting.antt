-- Laws of the cutting: an event lies inside the bytes it is cut from, and the events are the first and those behind it.
use Prim.Native.Nat.{ℕ, zero, suc, ◌≤◌}
use mathlib.Core.Bool.{Bool, true, false, ◌&&◌}
use mathlib.Core.List.{List, [], ◌∷◌}
use mathlib.Core.Path.{◌≡◌, refl, sym, ap, ◌∙◌}
use native.Mathlib.Omega.{arith}
use lib.Dec.{leb}
use lib.ListN.{length, take, drop, length-drop}
use borrow.Author.Tests.{leb-true}
use Rattle.std.specs.Prelude.{Option, Some, None, Ok, Err, slice_get}
use Rattle.std.proofs.lemmas.Option.{same_Some, none-some}
use Rattle.basis.specs.Choice.{pick}
use Rattle.trace.specs.declared.cut.Cut.TheVariants.{CutOff, NoneLeft}
use Rattle.trace.specs.Cut.{kind_size, cut_by, cut_of, answered, next_size, events_by, events_of}

-- An event of a known kind has at least one byte.
kind_some : (k size : ℕ) → kind_size k ≡ Some size → 1 ≤ size
unfolding kind_size pick
kind_some k size h = go (leb 3 k && leb k 6) (leb 1 k && leb k 10) h
  where
    go : (x y : Bool) → pick x (Some 1) (pick y (Some 2) None) ≡ Some size → 1 ≤ size
    go true y p = omega (arith, same_Some 1 size p)
    go false true p = omega (arith, same_Some 2 size p)
    go false false p = absurd (none-some size p)

-- What a stretch of bytes begins with, by its first byte.
pub cut_none : (l : List ℕ) → slice_get l 0 ≡ None → cut_of l ≡ Err NoneLeft
unfolding cut_of
cut_none [] h = refl
cut_none (k ∷ l) h = absurd (none-some k (sym h))

pub cut_some : (l : List ℕ) (k : ℕ) → slice_get l 0 ≡ Some k → cut_of l ≡ cut_by (kind_size k) (length l)
unfolding cut_of
cut_some [] k h = absurd (none-some k h)
cut_some (j ∷ l) k h = rw (same_Some j k h)

test_fits : (ending : Bool) (n s size : ℕ) (b : Bool) → 1 ≤ n → 1 ≤ s → leb s n ≡ b
    → answered ending n (pick b (Ok s) (Err CutOff)) ≡ Some size → (1 ≤ size) × (size ≤ n)
unfolding pick
test_fits ending n s size true h q e p =
    let r = same_Some s size p in let k = leb-true s n e in (omega arith, omega arith)
test_fits true n s size false h q e p = let r = same_Some n size p in (omega arith, omega arith)
test_fits false n s size false h q e p = absurd (none-some size p)

kind_fits : (ending : Bool) (n : ℕ) (o : Option ℕ) (size : ℕ) → 1 ≤ n → ((s : ℕ) → o ≡ Some s → 1 ≤ s)
    → answered ending n (cut_by o n) ≡ Some size → (1 ≤ size) × (size ≤ n)
unfolding cut_by
kind_fits ending n None size h q p = let r = same_Some 1 size p in (omega arith, omega arith)
kind_fits ending n (Some s) size h q p = test_fits ending n s size (leb s n) h (q s refl) refl p

-- What is cut off the front has at least one byte, and lies inside.
pub next_fits : (ending : Bool) (l : List ℕ) (size : ℕ) → next_size ending l ≡ Some size → (1 ≤ size) × (size ≤ length l)
unfolding next_size cut_of
next_fits ending [] size p = absurd (none-some size p)
next_fits ending (k ∷ l) size p = kind_fits ending (length (k ∷ l)) (kind_size k) size (omega arith) (kind_some k) p

pub none_of_none : (ending : Bool) (l : List ℕ) → length l ≤ 0 → next_size ending l ≡ None
unfolding next_size cut_of
none_of_none ending [] h = refl
none_of_none ending (k ∷ l) h = absurd (omega arith)

-- The events, where so many bytes are cut off the front.
abbrev events_cut : ℕ → Bool → List ℕ → Option ℕ → List (List ℕ)
events_cut fuel ending l o = elim o [ None ↦ [] | Some size ↦ take size l ∷ events_by fuel ending (drop size l) ]

fuel_step : (f g : ℕ) (ending : Bool) (l : List ℕ) (o : Option ℕ)
    → ((size : ℕ) → o ≡ Some size → events_by f ending (drop size l) ≡ events_by g ending (drop size l))
    → events_cut f ending l o ≡ events_cut g ending l o
fuel_step f g ending l None h = refl
fuel_step f g ending l (Some size) h = ap (λ (es : List (List ℕ)). take size l ∷ es) (h size refl)

pub shorter : (l : List ℕ) (size f : ℕ) → 1 ≤ size → length l ≤ suc f → length (drop size l) ≤ f
shorter l size f some h = rw (length-drop size l) (omega arith)

-- Where no byte is left there is no event, whatever the fuel.
spent : (f : ℕ) (ending : Bool) (l : List ℕ) → length l ≤ 0 → events_by f ending l ≡ []
spent zero ending l h = refl
spent (suc f) ending l h = ap (events_cut f ending l) (none_of_none ending l h)

events_fuel : (f g : ℕ) (ending : Bool) (l : List ℕ) → length l ≤ f → length l ≤ g → events_by f ending l ≡ events_by g ending l
events_fuel zero g ending l p q = sym (spent g ending l p)
events_fuel (suc f) zero ending l p q = spent (suc f) ending l q
events_fuel (suc f) (suc g) ending l p q =
    fuel_step f g ending l (next_size ending l)
    (λ size e.
    let some = (next_fits ending l size e).0 in events_fuel f g ending (drop size l) (shorter l size f some p) (shorter l size g some q))

-- No event is left.
pub events_none : (ending : Bool) (l : List ℕ) → next_size ending l ≡ None → events_of ending l ≡ []
unfolding events_of
events_none ending l h =
    events_fuel (length l) (suc (length l)) ending l (omega arith) (omega arith)
    ∙ ap (events_cut (length l) ending l) h

-- The events are the one that is cut off the front, and those behind it.
pub events_next : (ending : Bool) (l : List ℕ) (size : ℕ) → next_size ending l ≡ Some size
    → events_of ending l ≡ take size l ∷ events_of ending (drop size l)
unfolding events_of
events_next ending l size e =
    events_fuel (length l) (suc (length l)) ending l (omega arith) (omega arith)
    ∙ ap (events_cut (length l) ending l) e
    ∙ ap (λ (es : List (List ℕ)). take size l ∷ es)
    (events_fuel (length l) (length (drop size l)) ending (drop size l) (rw (length-drop size l) (omega arith)) (omega arith))
