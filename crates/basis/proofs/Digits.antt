-- Laws of a number in decimal.
use Prim.Native.Nat.{ℕ, zero, suc, ◌+◌, ◌*◌, ◌/◌, ◌%◌, ◌^◌, ◌≤◌, ◌<◌}
use mathlib.Core.Bool.{Bool, true, false}
use mathlib.Core.List.{List, [], ◌∷◌, ◌++◌}
use mathlib.Core.Path.{◌≡◌, refl, ap, ◌∙◌}
use native.Mathlib.Nat.{div-lt_self, mul-div-le, one-le-pow, pow-suc}
use native.Mathlib.Omega.{arith}
use lib.Dec.{ltb}
use lib.ListN.{length, length-append}
use borrow.Author.Tests.{ltb-true, ltb-false, lt-ltb, le-ltb}
use Rattle.basis.specs.Text.{digit, digits_by, decimal}
use Rattle.basis.proofs.Choosing.{elim_true, elim_false}

tenth : (n f : ℕ) → 10 ≤ n → n < suc f → n / 10 < f
tenth n f h p = omega (arith, div-lt_self {n = n} {k = 10} (omega arith) (omega arith))

fuel_step : (f g n : ℕ) (b : Bool) → (b ≡ false → digits_by f (n / 10) ≡ digits_by g (n / 10))
    → ◌≡◌ {A = List ℕ}
    (elim b [ true ↦ digit n ∷ [] | false ↦ digits_by f (n / 10) ++ (digit (n % 10) ∷ []) ])
    (elim b [ true ↦ digit n ∷ [] | false ↦ digits_by g (n / 10) ++ (digit (n % 10) ∷ []) ])
fuel_step f g n true h = refl
fuel_step f g n false h = ap (λ (l : List ℕ). l ++ (digit (n % 10) ∷ [])) (h refl)

digits_fuel : (f g n : ℕ) → n < f → n < g → digits_by f n ≡ digits_by g n
digits_fuel zero g n p q = absurd (omega (arith, p))
digits_fuel (suc f) zero n p q = absurd (omega (arith, q))
digits_fuel (suc f) (suc g) n p q =
    fuel_step f g n (ltb n 10) (λ e. digits_fuel f g (n / 10) (tenth n f (ltb-false n 10 e) p) (tenth n g (ltb-false n 10 e) q))

pub decimal_last : (n : ℕ) → n < 10 → decimal n ≡ digit n ∷ []
unfolding decimal
decimal_last n h = elim_true (ltb n 10) (digit n ∷ []) (digits_by n (n / 10) ++ (digit (n % 10) ∷ [])) (lt-ltb n 10 h)

pub decimal_more : (n : ℕ) → 10 ≤ n → decimal n ≡ decimal (n / 10) ++ (digit (n % 10) ∷ [])
unfolding decimal
decimal_more n h =
    elim_false (ltb n 10) (digit n ∷ []) (digits_by n (n / 10) ++ (digit (n % 10) ∷ [])) (le-ltb n 10 h)
    ∙ ap (λ (l : List ℕ). l ++ (digit (n % 10) ∷ []))
    (digits_fuel n (suc (n / 10)) (n / 10) (div-lt_self {n = n} {k = 10} (omega arith) (omega arith)) (omega arith))

pub one_more : (n : ℕ) → 10 ≤ n → length (decimal n) ≡ length (decimal (n / 10)) + 1
one_more n h = ap length (decimal_more n h) ∙ length-append (decimal (n / 10)) (digit (n % 10) ∷ [])

few_by : (f n : ℕ) → n < suc f → (b : Bool) → ltb n 10 ≡ b → ((m : ℕ) → m < f → 9 * length (decimal m) ≤ m + 9) → 9 * length (decimal n) ≤ n + 9
few_by f n p true e h = omega (arith, ap length (decimal_last n (ltb-true n 10 e)))
few_by f n p false e h =
    let t = ltb-false n 10 e in
    omega (arith, one_more n t, h (n / 10) (tenth n f t p), mul-div-le n 10)

few : (f n : ℕ) → n < f → 9 * length (decimal n) ≤ n + 9
few zero n p = absurd (omega (arith, p))
few (suc f) n p = few_by f n p (ltb n 10) refl (few f)

-- A number has far fewer digits than it counts.
pub few_digits : (n : ℕ) → 9 * length (decimal n) ≤ n + 9
few_digits n = few (suc n) n (omega arith)

-- A number of one digit is below ten, and one of more is not.
pub ten_or_more : (n : ℕ) → 1 < length (decimal n) → 10 ≤ n
ten_or_more n h = go (ltb n 10) refl
  where
    go : (b : Bool) → ltb n 10 ≡ b → 10 ≤ n
    go true e = absurd (omega (arith, h, ap length (decimal_last n (ltb-true n 10 e))))
    go false e = ltb-false n 10 e

some_digit : (n : ℕ) → 1 ≤ length (decimal n)
some_digit n = go (ltb n 10) refl
  where
    go : (b : Bool) → ltb n 10 ≡ b → 1 ≤ length (decimal n)
    go true e = omega (arith, ap length (decimal_last n (ltb-true n 10 e)))
    go false e = omega (arith, one_more n (ltb-false n 10 e))

pub below_ten : (n : ℕ) → length (decimal n) ≤ 1 → n < 10
below_ten n h = go (ltb n 10) refl
  where
    go : (b : Bool) → ltb n 10 ≡ b → n < 10
    go true e = ltb-true n 10 e
    go false e = absurd (omega (arith, h, one_more n (ltb-false n 10 e), some_digit (n / 10)))

-- A number from a power of ten up to the next has one digit more than the power.
pub digits_of_power : (d n : ℕ) → 10 ^ d ≤ n → n < 10 * 10 ^ d → length (decimal n) ≡ d + 1
digits_of_power zero n h p = ap length (decimal_last n (omega (arith, p)))
digits_of_power (suc d) n h p =
    let s = pow-suc 10 d in
    let t : 10 ≤ n = omega (arith, h, s, one-le-pow d 10 (omega arith)) in
    omega (arith, one_more n t, digits_of_power d (n / 10) (omega (arith, h, s)) (omega (arith, p, s)))
