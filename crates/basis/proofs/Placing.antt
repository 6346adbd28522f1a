-- Laws of bytes put at an offset of a buffer.
use Prim.Native.Nat.{ℕ, zero, suc, ◌+◌, ◌≤◌, ◌<◌}
use mathlib.Core.List.{List, [], ◌∷◌, ◌++◌, append-nil}
use mathlib.Core.Path.{◌≡◌, refl, sym, ap, ◌∙◌}
use native.Mathlib.Nat.{add-zero}
use native.Mathlib.Omega.{arith}
use lib.ListN.{length, get_or, take, drop, set, length-append, take-append-drop}
use lib.Seq.{sets, sets-eq, length-sets, set_comm, paste, take-length, take_at, drop_at, drop-cons, length-take-le, get_or-take, get_or-append-add}
use Rattle.std.specs.Prelude.{Option, None, Some, MatchOption}
use Rattle.std.specs.Option.{option_to_list}
use Rattle.basis.specs.Placed.{placed}

-- n bytes from an offset on, one by one
abbrev pub each : ℕ → ℕ → List ℕ → List ℕ
each zero k l = []
each (suc n) k l = get_or l k 0 ∷ each n (suc k) l

pub each_is : (n k : ℕ) (l : List ℕ) → n + k ≤ length l → each n k l ≡ take n (drop k l)
each_is zero k l fits = refl
each_is (suc n) k l fits =
    ap (λ (r : List ℕ). get_or l k 0 ∷ r) (each_is n (suc k) l (omega arith)) ∙ ap (take (suc n)) (sym (drop-cons l k 0 (omega arith)))

-- Nothing put changes nothing.
pub placed_none : (o : List ℕ) (at : ℕ) → placed o at [] ≡ o
unfolding placed
placed_none o at = rw (add-zero at, append-nil (take at o)) (take-append-drop at o)

pub placed_sets : (o : List ℕ) (at : ℕ) (l : List ℕ) → at + length l ≤ length o → placed o at l ≡ sets o at l
unfolding placed
placed_sets o at l h = sym (sets-eq l o at h)

pub pasted : (o : List ℕ) (at : ℕ) (l : List ℕ) → paste o at l (length l) ≡ placed o at l
unfolding placed
pasted o at l = ap (λ (x : List ℕ). take at o ++ x ++ drop (at + length l) o) (take-length l)

-- One byte put where the bytes that come later in time will end.
pub sets_snoc : (xs o : List ℕ) (at y : ℕ) → sets (set o (at + length xs) y) at xs ≡ sets o at (xs ++ (y ∷ []))
sets_snoc [] o at y = ap (λ (k : ℕ). set o k y) (add-zero at)
sets_snoc (x ∷ xs) o at y =
    let e : at + suc (length xs) ≡ suc at + length xs = omega arith in
    ap (λ (k : ℕ). sets (set (set o k y) at x) (suc at) xs) e
    ∙ ap (λ (l : List ℕ). sets l (suc at) xs) (set_comm o (suc at + length xs) at y x (λ p. omega (arith, p)))
    ∙ sets_snoc xs (set o at x) (suc at) y

sets_then : (a o : List ℕ) (at : ℕ) (b : List ℕ) → sets (sets o at a) (at + length a) b ≡ sets o at (a ++ b)
sets_then [] o at b = ap (λ (k : ℕ). sets o k b) (add-zero at)
sets_then (x ∷ a) o at b =
    let e : at + suc (length a) ≡ suc at + length a = omega arith in
    ap (λ (k : ℕ). sets (sets (set o at x) (suc at) a) k b) e ∙ sets_then a (set o at x) (suc at) b

pub placed_length : (o : List ℕ) (at : ℕ) (l : List ℕ) → at + length l ≤ length o → length (placed o at l) ≡ length o
placed_length o at l h = ap length (placed_sets o at l h) ∙ length-sets o at l

-- What is put in two parts, the second where the first ends.
pub placed_then : (o : List ℕ) (at : ℕ) (a b : List ℕ) → at + (length a + length b) ≤ length o
    → placed (placed o at a) (at + length a) b ≡ placed o at (a ++ b)
placed_then o at a b h =
    let e : placed o at a ≡ sets o at a = placed_sets o at a (omega arith) in
    ap (λ (x : List ℕ). placed x (at + length a) b) e
    ∙ placed_sets (sets o at a) (at + length a) b (rw (length-sets o at a) (omega arith))
    ∙ sets_then a o at b
    ∙ sym (placed_sets o at (a ++ b) (rw (length-append a b) h))

module _ (o : List ℕ) (at : ℕ) (l : List ℕ) (h : at + length l ≤ length o) where
  front : length (take at o ++ l) ≡ at + length l
  front = length-append (take at o) l ∙ ap (λ (k : ℕ). k + length l) (length-take-le at o (omega arith))

  -- What stands up to the end of what was put, and what stands behind it.
  pub take_placed : take (at + length l) (placed o at l) ≡ take at o ++ l
  unfolding placed
  take_placed = take_at (take at o ++ l) (drop (at + length l) o) (at + length l) front

  pub drop_placed : drop (at + length l) (placed o at l) ≡ drop (at + length l) o
  unfolding placed
  drop_placed = drop_at (take at o ++ l) (drop (at + length l) o) (at + length l) front

  -- A byte of what was put.
  pub placed_byte : (i : ℕ) → i < length l → get_or (placed o at l) (at + i) 0 ≡ get_or l i 0
  placed_byte i lt =
      let before : length (take at o) ≡ at = length-take-le at o (omega arith) in
      sym (get_or-take (at + length l) (placed o at l) (at + i) 0 (omega (arith, lt)))
      ∙ ap (λ (x : List ℕ). get_or x (at + i) 0) take_placed
      ∙ ap (λ (k : ℕ). get_or (take at o ++ l) (k + i) 0) (sym before)
      ∙ get_or-append-add (take at o) l i 0

-- what is there, or not, as a slice: one byte or none
pub one_or_none : (o : Option ℕ) {l : List ℕ} → MatchOption o (l ≡ []) (λ x. l ≡ x ∷ []) → l ≡ option_to_list o
one_or_none None is = is
one_or_none (Some x) is = is

pub one_at_most : (o : Option ℕ) → length (option_to_list o) ≤ 1
one_at_most None = omega arith
one_at_most (Some x) = omega arith
