-- Each exported function's contract leaves one outcome: any two that it allows are equal.
use Rattle.std.specs.Prelude.{ℕ, ◌≡◌, List}
use Rattle.layout.specs.Written.{record_size}
use Rattle.board.specs.Serve.{Tapes, Serves, Gives, Takes, Freshens, Shows}

pub record OneOutcome : Type 0 where
  pub size : (r r' : ℕ) → r ≡ record_size → r' ≡ record_size → r ≡ r'
  pub fresh : (l : List ℕ) (r r' : ℕ) (l' l'' : List ℕ) → Freshens l r l' → Freshens l r' l'' → (r ≡ r') × (l' ≡ l'')
  pub step : (l : List ℕ) (t : Tapes) (event out out' l' l'' : List ℕ) (t' t'' : Tapes)
      → Serves l t event out l' t' → Serves l t event out' l'' t'' → (out ≡ out') × (l' ≡ l'') × (t' ≡ t'')
  pub give : (l : List ℕ) (t : Tapes) (bytes : List ℕ) (r r' : ℕ) (out out' l' l'' : List ℕ) (t' t'' : Tapes)
      → Gives l t bytes r out l' t' → Gives l t bytes r' out' l'' t'' → (r ≡ r') × (out ≡ out') × (l' ≡ l'') × (t' ≡ t'')
  pub take : (l : List ℕ) (t : Tapes) (bytes : List ℕ) (r r' : ℕ) (out out' l' l'' : List ℕ) (t' t'' : Tapes) (bytes' bytes'' : List ℕ)
      → Takes l t bytes r out l' t' bytes' → Takes l t bytes r' out' l'' t'' bytes''
      → (r ≡ r') × (out ≡ out') × (l' ≡ l'') × (t' ≡ t'') × (bytes' ≡ bytes'')
  pub lines : (l : List ℕ) (r r' : ℕ) (out out' : List ℕ) → Shows l r out → Shows l r' out' → (r ≡ r') × (out ≡ out')
