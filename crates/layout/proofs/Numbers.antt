-- What the library makes of a number's bytes is what the layout says of them.
use Rattle.std.proofs.Common.{ℕ, zero, suc, ◌+◌, ◌<◌, ◌≡◌, List, get_or, refl, ap, ◌∙◌, arith}
use Rattle.std.specs.Int.{w16, w32, w64, to_le_bytes, from_le_bytes}
use Rattle.std.proofs.lemmas.Nat.{le_bytes_2, le_bytes_8}
use lib.ListN.{drop}
use lib.Seq.{get_or-take, get_or-drop}
use Rattle.layout.specs.Number.{two, eight, byte_at, two_at, four_at, eight_at}
use Rattle.layout.specs.Read.{stretch}

-- a byte of a stretch is one of the list
byte : (l : List ℕ) (at n k i : ℕ) → k < n → at + k ≡ i → get_or (stretch at n l) k 0 ≡ byte_at l i
unfolding stretch
byte l at n k i lt e = get_or-take n (drop at l) k 0 lt ∙ get_or-drop at l k 0 ∙ ap (byte_at l) e

-- a number read from the bytes at an offset
pub two_read : (l part : List ℕ) (at n : ℕ) → part ≡ stretch at 2 l → n ≡ from_le_bytes w16 part → n ≡ two_at l at
two_read l part at n p e =
    e ∙ ap (from_le_bytes w16) p ∙ omega (arith, byte l at 2 0 at (omega arith) (omega arith), byte l at 2 1 (at + 1) (omega arith) (omega arith))

pub four_read : (l part : List ℕ) (at n : ℕ) → part ≡ stretch at 4 l → n ≡ from_le_bytes w32 part → n ≡ four_at l at
four_read l part at n p e =
    let b : (k i : ℕ) → k < 4 → at + k ≡ i → get_or (stretch at 4 l) k 0 ≡ byte_at l i = byte l at 4 in
    e ∙ ap (from_le_bytes w32) p ∙ omega (
      arith,
      b 0 at (omega arith) (omega arith),
      b 1 (at + 1) (omega arith) (omega arith),
      b 2 (at + 2) (omega arith) (omega arith),
      b 3 (at + 2 + 1) (omega arith) (omega arith),
    )

pub eight_read : (l part : List ℕ) (at n : ℕ) → part ≡ stretch at 8 l → n ≡ from_le_bytes w64 part → n ≡ eight_at l at
eight_read l part at n p e =
    let b : (k i : ℕ) → k < 8 → at + k ≡ i → get_or (stretch at 8 l) k 0 ≡ byte_at l i = byte l at 8 in
    e ∙ ap (from_le_bytes w64) p ∙ omega (
      arith,
      b 0 at (omega arith) (omega arith),
      b 1 (at + 1) (omega arith) (omega arith),
      b 2 (at + 2) (omega arith) (omega arith),
      b 3 (at + 2 + 1) (omega arith) (omega arith),
      b 4 (at + 4) (omega arith) (omega arith),
      b 5 (at + 4 + 1) (omega arith) (omega arith),
      b 6 (at + 4 + 2) (omega arith) (omega arith),
      b 7 (at + 4 + 2 + 1) (omega arith) (omega arith),
    )

-- and written
two_small : (n : ℕ) → n < 65536 → (i : ℕ) → get_or (two n) i 0 < 256
two_small n lt zero = omega arith
two_small n lt (suc zero) = omega arith
two_small n lt (suc (suc i)) = omega arith

pub two_written : (n : ℕ) → n < 65536 → to_le_bytes w16 n ≡ two n
two_written n lt = le_bytes_2 (two n) n refl (two_small n lt) (omega arith)

eight_small : (n : ℕ) → n < 18446744073709551616 → (i : ℕ) → get_or (eight n) i 0 < 256
eight_small n lt zero = omega arith
eight_small n lt (suc zero) = omega arith
eight_small n lt (suc (suc zero)) = omega arith
eight_small n lt (suc (suc (suc zero))) = omega arith
eight_small n lt (suc (suc (suc (suc zero)))) = omega arith
eight_small n lt (suc (suc (suc (suc (suc zero))))) = omega arith
eight_small n lt (suc (suc (suc (suc (suc (suc zero)))))) = omega arith
eight_small n lt (suc (suc (suc (suc (suc (suc (suc zero))))))) = omega arith
eight_small n lt (suc (suc (suc (suc (suc (suc (suc (suc i)))))))) = omega arith

pub eight_written : (n : ℕ) → n < 18446744073709551616 → to_le_bytes w64 n ≡ eight n
eight_written n lt = le_bytes_8 (eight n) n refl (eight_small n lt) (omega arith)
