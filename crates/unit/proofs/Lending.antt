-- Lent again and again, the four buffers are still those that were lent first.
use Prim.Native.Nat.{ℕ}
use mathlib.Core.Path.{◌≡◌, refl, ◌∙◌}
use mathlib.Core.List.{List}
use Rattle.unit.specs.declared.tapes.Tapes.{Tapes}
use Rattle.unit.specs.Tapes.{Same}

pub same_all : (t : Tapes) → Same t t
same_all t =
    record { same0 = refl; same1 = refl; same2 = refl; same3 = refl; size0 = refl; size1 = refl; size2 = refl; size3 = refl }

pub same_on : {t t' t₀ : Tapes} → Same t t' → Same t₀ t → Same t₀ t'
same_on p q =
    record {
      same0 = p.same0 ∙ q.same0;
      same1 = p.same1 ∙ q.same1;
      same2 = p.same2 ∙ q.same2;
      same3 = p.same3 ∙ q.same3;
      size0 = p.size0 ∙ q.size0;
      size1 = p.size1 ∙ q.size1;
      size2 = p.size2 ∙ q.size2;
      size3 = p.size3 ∙ q.size3;
    }

-- what is said of four buffers, said of the same ones by other names
pub left_as : (P : List ℕ → List ℕ → List ℕ → List ℕ → Type 0) {a b c d a' b' c' d' : List ℕ} → a' ≡ a → b' ≡ b → c' ≡ c → d' ≡ d → P a b c d
    → P a' b' c' d'
left_as P p q r s h = rw (p, q, r, s) h
