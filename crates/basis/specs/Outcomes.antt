-- Each public contract leaves one outcome: any two that it allows are equal.
use Rattle.std.specs.Prelude.{ℕ, ◌≡◌, List, length}
use Rattle.basis.specs.Placed.{placed}
use Rattle.basis.specs.Text.{digit, high_digit, low_digit, decimal}

pub record OneOutcome : Type 0 where
  pub digit : (d r r' : ℕ) → r ≡ digit d → r' ≡ digit d → r ≡ r'
  pub high_digit : (b r r' : ℕ) → r ≡ high_digit b → r' ≡ high_digit b → r ≡ r'
  pub low_digit : (b r r' : ℕ) → r ≡ low_digit b → r' ≡ low_digit b → r ≡ r'
  pub places : (n r r' : ℕ) → r ≡ length (decimal n) → r' ≡ length (decimal n) → r ≡ r'
  pub put_number : (o : List ℕ) (at n : ℕ) (o' o'' : List ℕ) → o' ≡ placed o at (decimal n) → o'' ≡ placed o at (decimal n) → o' ≡ o''
  pub put : (o : List ℕ) (at : ℕ) (l o' o'' : List ℕ) → o' ≡ placed o at l → o'' ≡ placed o at l → o' ≡ o''
