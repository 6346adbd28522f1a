-- Numbers as text: in decimal, and a byte in hex.
use Rattle.std.specs.Prelude.{ℕ, zero, suc, ◌+◌, ◌-◌, ◌/◌, ◌%◌, true, false, List, [], ◌∷◌, ◌++◌, ltb}
use Rattle.basis.specs.Choice.{pick}

abbrev pub digit0 : ℕ
digit0 = 48

abbrev pub letter_a : ℕ
letter_a = 65

-- A digit below 16: 0 to 9, then upper-case A to F.
unfoldable pub digit : ℕ → ℕ
digit d = pick (ltb d 10) (digit0 + d) (letter_a - 10 + d)

-- The two digits of a byte in hex.
abbrev pub high_digit : ℕ → ℕ
high_digit b = digit (b / 16)

abbrev pub low_digit : ℕ → ℕ
low_digit b = digit (b % 16)

-- A number in decimal, the highest digit first: the digits of a tenth of it, then its last. It has no more digits than fuel suc n.
abbrev pub digits_by : ℕ → ℕ → List ℕ
digits_by zero n = []
digits_by (suc fuel) n =
    elim (ltb n 10) [ true ↦ digit n ∷ [] | false ↦ digits_by fuel (n / 10) ++ (digit (n % 10) ∷ []) ]

unfoldable pub decimal : ℕ → List ℕ
decimal n = digits_by (suc n) n
