-- What a stretch of a list is.
use Prim.Native.Nat.{ℕ, ◌+◌, ◌≤◌}
use mathlib.Core.Path.{◌≡◌, sym, ap, ◌∙◌}
use mathlib.Core.List.{List, ◌++◌}
use native.Mathlib.Omega.{arith}
use lib.ListN.{length, take, drop, length-drop, take-append-drop}
use lib.Seq.{take_all, take_at, length-take-le, drop-drop, drop-append-add}
use Rattle.layout.specs.Read.{stretch}

pub stretch_long : (l : List ℕ) (at n : ℕ) → at + n ≤ length l → length (stretch at n l) ≡ n
unfolding stretch
stretch_long l at n fits = length-take-le n (drop at l) (omega (arith, fits, length-drop at l))

-- up to the end it is all that is behind the offset, else that has more
pub stretch_end : (l : List ℕ) (at n : ℕ) → length l ≡ at + n → stretch at n l ≡ drop at l
unfolding stretch
stretch_end l at n size = take_all n (drop at l) (omega (arith, size, length-drop at l))

pub stretch_off : (l : List ℕ) (at n : ℕ) → stretch at n l ++ drop (at + n) l ≡ drop at l
unfolding stretch
stretch_off l at n = ap (λ (r : List ℕ). take n (drop at l) ++ r) (sym (drop-drop n at l)) ∙ take-append-drop n (drop at l)

-- of two lists, behind the first and at its front
pub skip : (p r : List ℕ) (n m k : ℕ) → length p ≡ n → stretch (n + m) k (p ++ r) ≡ stretch m k r
unfolding stretch
skip p r n m k size = ap (λ (i : ℕ). take k (drop (i + m) (p ++ r))) (sym size) ∙ ap (take k) (drop-append-add p r m)

pub here : (p r : List ℕ) (n : ℕ) → length p ≡ n → stretch 0 n (p ++ r) ≡ p
unfolding stretch
here p r n size = take_at p r n size
