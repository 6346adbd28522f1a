-- Pairs of bytes as events, and what a fresh unit makes of them.
use Rattle.std.specs.Prelude.{ℕ, ◌≡◌, unwrap_or, List, [], ◌∷◌, get_or, take}
use Rattle.trace.specs.Cut.{kind_size}
use Rattle.rules.specs.declared.unit.Core.{Core}
use Rattle.rules.specs.Unit.{Lent, lent}
use Rattle.rules.specs.Run.{World, run, fresh_world}
use Rattle.unit.specs.declared.many.Handed.{Handed}

-- The bytes of a pair.
abbrev pub pair_size : ℕ
pair_size = 2

-- A pair as an event: as many of its bytes as its kind has; of an unknown kind none.
abbrev pub event_of : List ℕ → List ℕ
event_of pair = take (unwrap_or (kind_size (get_or pair 0 0)) 0) pair

-- Each pair is an event.
abbrev pub pairs_of : List ℕ → List (List ℕ)
pairs_of [] = []
pairs_of (kind ∷ []) = []
pairs_of (kind ∷ (body ∷ l)) = event_of (kind ∷ body ∷ []) ∷ pairs_of l

-- The four tapes and the selected drive after a fresh unit ran them all.
abbrev pub after : List ℕ → List ℕ → List ℕ → List ℕ → List ℕ → World
after a b c d pairs = run (fresh_world a b c d) (pairs_of pairs)

pub record Paced (a b c d pairs : List ℕ) (r : ℕ) (a' b' c' d' : List ℕ) : Type 0 where
  pub selected : r ≡ (after a b c d pairs).core.port.selected
  pub tape0 : a' ≡ (after a b c d pairs).lent.tape0
  pub tape1 : b' ≡ (after a b c d pairs).lent.tape1
  pub tape2 : c' ≡ (after a b c d pairs).lent.tape2
  pub tape3 : d' ≡ (after a b c d pairs).lent.tape3

-- The same where a call for many bytes follows them.
pub record PacedThen (call : Core → Lent → Handed → Lent → Type 0) (a b c d pairs : List ℕ) (r : ℕ) (a' b' c' d' : List ℕ) : Type 0 where
  pub handed : Handed
  pub staging : List ℕ
  pub is : call (after a b c d pairs).core (after a b c d pairs).lent handed (lent staging a' b' c' d')
  pub selected : r ≡ handed.last.core.port.selected
