-- The contract that both loops share leaves one outcome: any two that it allows are equal.
use Rattle.std.specs.Prelude.{ℕ, ◌≡◌, List}
use Rattle.pace.specs.Pairs.{Paced}

pub record OneOutcome : Type 0 where
  pub paced : (a b c d pairs : List ℕ) (r r' : ℕ) (a' b' c' d' a'' b'' c'' d'' : List ℕ)
      → Paced a b c d pairs r a' b' c' d' → Paced a b c d pairs r' a'' b'' c'' d''
      → (r ≡ r') × (a' ≡ a'') × (b' ≡ b'') × (c' ≡ c'') × (d' ≡ d'')
