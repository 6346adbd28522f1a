-- What stores into a part of the tape leave, and the whole tape when the part is back.
use Prim.Native.Nat.{ℕ, zero, suc, ◌+◌, ◌-◌, ◌≤◌, ◌<◌}
use mathlib.Core.Path.{◌≡◌, refl, sym, ap, ◌∙◌}
use mathlib.Core.List.{List, [], ◌∷◌, ◌++◌, append-nil}
use mathlib.Core.Bool.{Bool, true, false}
use native.Mathlib.Omega.{arith}
use native.Mathlib.Nat.{not-suc-le-zero}
use lib.ListN.{length, take, drop, set, length-drop, drop_of_length-le}
use lib.Seq.{take_all, take_at, drop_at, paste}
use lib.Dec.{leb}
use borrow.Author.Tests.{leb-true, leb-false, le-leb, lt-leb}
use Rattle.std.specs.Prelude.{Some, None}
use Rattle.basis.specs.Choice.{pick}
use Rattle.tape.specs.Record.{block_record}
use Rattle.tape.specs.Recording.{ended_at, put_in, recorded, written, written_at}

-- what a test for room said
pub roomy : (h n l : ℕ) {b : Bool} → b ≡ leb (h + n) l → b ≡ true → h + n ≤ l
roomy h n l p q = leb-true (h + n) l (sym p ∙ q)

pub full : (h n l : ℕ) {b : Bool} → b ≡ leb (h + n) l → b ≡ false → l < h + n
full h n l p q = leb-false (h + n) l (sym p ∙ q)

-- one 00 stored at n, inside the part or past its end
pub end_in : (d : List ℕ) (n : ℕ) → n < length d → set d n 0 ≡ ended_at d n
end_in [] n l = absurd (not-suc-le-zero l)
end_in (x ∷ xs) zero l = refl
end_in (x ∷ xs) (suc n) l = ap (λ (r : List ℕ). x ∷ r) (end_in xs n (omega arith))

pub end_out : (d : List ℕ) (n : ℕ) → length d ≤ n → d ≡ ended_at d n
end_out d n l = sym (rw (take_all n d l, drop_of_length-le d l, append-nil))

-- a block's kind stored, its body pasted, and the 00 after it
pub block_put : (d s : List ℕ) → length s ≡ 512 → 513 ≤ length d → ended_at (paste (set d 0 1) 1 s 512) 513 ≡ put_in (block_record s) d
block_put [] s e l = absurd (not-suc-le-zero l)
block_put (x ∷ xs) s e l = rw (take_all 512 s (omega (arith, e)), take_at s (drop 512 xs) 512 e, drop_at s (drop 512 xs) 512 e, e)

-- the part from h on is the whole of it
pub part_of : (t : List ℕ) (h : ℕ) → take (length t - h) (drop h t) ≡ drop h t
part_of t h = take_all (length t - h) (drop h t) (omega (arith, length-drop h t))

part_back : (t p : List ℕ) (h : ℕ) → take h t ++ (p ++ drop (length t - h) (drop h t)) ≡ take h t ++ p
part_back t p h = rw (drop_of_length-le (drop h t) {i = length t - h} (omega (arith, length-drop h t)), append-nil)

-- the whole tape, when the part from h on is back with a record at its front
record_back : (t p rec : List ℕ) (h : ℕ) → p ≡ put_in rec (take (length t - h) (drop h t)) → take h t
    ++ (p ++ drop (length t - h) (drop h t)) ≡ recorded t h rec
unfolding recorded
record_back t p rec h e = part_back t p h ∙ ap (λ (q : List ℕ). take h t ++ q) (e ∙ ap (put_in rec) (part_of t h))

-- a record made where it has room, and none where it has not
pub made_with_room : (t p rec : List ℕ) (h n spare : ℕ) → h + (n + spare) ≤ length t → p ≡ put_in rec (take (length t - h) (drop h t))
    → written (Some (h + n)) (take h t ++ (p ++ drop (length t - h) (drop h t))) ≡ written_at t h n spare rec
unfolding pick written_at
made_with_room t p rec h n spare l e = rw (le-leb (h + (n + spare)) (length t) l) (ap (written (Some (h + n))) (record_back t p rec h e))

pub none_without_room : (t rec : List ℕ) (h n spare : ℕ) → length t < h + (n + spare) → written None t ≡ written_at t h n spare rec
unfolding pick written_at
none_without_room t rec h n spare l = rw (lt-leb (h + (n + spare)) (length t) l)
