-- Numbers as bytes, the low end first.
use Rattle.std.specs.Prelude.{ℕ, ◌+◌, ◌*◌, ◌%◌, ◌/◌, List, [], ◌∷◌, ◌++◌, get_or}

-- A number of 2, 4 or 8 bytes: its low half, then its high half.
abbrev pub two : ℕ → List ℕ
two n = n % 256 ∷ n / 256 ∷ []

abbrev pub four : ℕ → List ℕ
four n = two (n % 65536) ++ two (n / 65536)

abbrev pub eight : ℕ → List ℕ
eight n = four (n % 4294967296) ++ four (n / 4294967296)

-- The number whose two halves are given.
abbrev pub of2 : ℕ → ℕ → ℕ
of2 low high = low + 256 * high

abbrev pub of4 : ℕ → ℕ → ℕ
of4 low high = low + 65536 * high

abbrev pub of8 : ℕ → ℕ → ℕ
of8 low high = low + 4294967296 * high

-- The byte at an offset, and the number of 2, 4 or 8 bytes that begins there.
abbrev pub byte_at : List ℕ → ℕ → ℕ
byte_at l i = get_or l i 0

abbrev pub two_at : List ℕ → ℕ → ℕ
two_at l i = of2 (byte_at l i) (byte_at l (i + 1))

abbrev pub four_at : List ℕ → ℕ → ℕ
four_at l i = of4 (two_at l i) (two_at l (i + 2))

abbrev pub eight_at : List ℕ → ℕ → ℕ
eight_at l i = of8 (four_at l i) (four_at l (i + 4))
