-- Pairs cut off one after the other, and what the world at the end has.
use Prim.Native.Nat.{ℕ, ◌<◌}
use mathlib.Core.Path.{◌≡◌, refl, sym, ap, subst, ◌∙◌}
use mathlib.Core.List.{List, [], ◌∷◌, ◌++◌}
use native.Mathlib.Omega.{arith}
use lib.ListN.{length}
use Rattle.rules.specs.declared.unit.Core.{Core}
use Rattle.rules.specs.Unit.{Lent, lent}
use Rattle.rules.specs.Run.{World, world, run, fresh_world}
use Rattle.unit.specs.declared.many.Handed.{Handed}
use Rattle.pace.specs.Pairs.{event_of, pairs_of, Paced}

-- a pair cut off the front is the first event
pub pairs_cut : (l pair event rest : List ℕ) → l ≡ pair ++ rest → length pair ≡ 2 → event ≡ event_of pair → pairs_of l ≡ event ∷ pairs_of rest
pairs_cut l [] event rest e two is = absurd (omega arith)
pairs_cut l (kind ∷ []) event rest e two is = absurd (omega arith)
pairs_cut l (kind ∷ (body ∷ [])) event rest e two is = ap pairs_of e ∙ ap (λ (x : List ℕ). x ∷ pairs_of rest) (sym is)
pairs_cut l (kind ∷ (body ∷ (x ∷ more))) event rest e two is = absurd (omega arith)

-- less than a pair is no event
pub pairs_end : (l : List ℕ) → length l < 2 → pairs_of l ≡ []
pairs_end [] h = refl
pairs_end (kind ∷ []) h = refl
pairs_end (kind ∷ (body ∷ l)) h = absurd (omega arith)

-- what the world at the end has
pub paced_of : (a b c d pairs : List ℕ) (k : Core) (g a' b' c' d' : List ℕ) → world k (lent g a' b' c' d') ≡ run (fresh_world a b c d) (pairs_of pairs)
    → Paced a b c d pairs k.port.selected a' b' c' d'
paced_of a b c d pairs k g a' b' c' d' e =
    record {
      selected = ap (λ (w : World). w.core.port.selected) e;
      tape0 = ap (λ (w : World). w.lent.tape0) e;
      tape1 = ap (λ (w : World). w.lent.tape1) e;
      tape2 = ap (λ (w : World). w.lent.tape2) e;
      tape3 = ap (λ (w : World). w.lent.tape3) e;
    }

-- a call that follows a run, from where the run ended
pub then_called : (call : Core → Lent → Handed → Lent → Type 0) (k : Core) (l : Lent) (w : World) (h : Handed) (l' : Lent)
    → world k l ≡ w → call k l h l' → call w.core w.lent h l'
then_called call k l w h l' e is = subst (λ (x : World). call x.core x.lent h l') e is
