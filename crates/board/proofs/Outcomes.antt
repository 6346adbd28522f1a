-- Each exported function's contract leaves one outcome.
use Prim.Native.Nat.{ℕ}
use mathlib.Core.Path.{◌≡◌, sym, ap, ap₂, ◌∙◌}
use Rattle.basis.specs.Tests.{same}
use mathlib.Core.List.{List}
use Rattle.rules.specs.declared.answer.Turn.{Turn}
use Rattle.rules.specs.Unit.{Lent}
use Rattle.rules.proofs.Outcomes.{steps_once}
use Rattle.layout.specs.Written.{unit, unit_bytes}
use Rattle.layout.specs.Read.{core_of, staging_of}
use Rattle.unit.specs.declared.many.Handed.{Handed}
use Rattle.unit.proofs.Outcomes.{one_outcome as unit-once}
use Rattle.board.specs.Serve.{Tapes, tapes, lent_with, result_bytes, Served, Serves, Gives, Takes}
use Rattle.board.specs.Outcomes.{OneOutcome}

-- the tapes beside a staging block
abbrev pub tapes_in : Lent → Tapes
tapes_in l = tapes l.tape0 l.tape1 l.tape2 l.tape3

served_once : (l : List ℕ) (t : Tapes) (event out out' l' l'' : List ℕ) (t' t'' : Tapes)
    → Served l t event out l' t' → Served l t event out' l'' t'' → (out ≡ out') × (l' ≡ l'') × (t' ≡ t'')
served_once l t event out out' l' l'' t' t'' p q =
    let e = steps_once (core_of l) (lent_with (staging_of l) t) event p.turn q.turn (lent_with p.staging t') (lent_with q.staging t'')
    p.steps q.steps in
    let bytes = ap₂ (λ (r : Turn) (g : Lent). unit_bytes (unit r.core g.staging)) e.0 e.1 in
    (p.result ∙ ap result_bytes e.0 ∙ sym q.result, p.left ∙ bytes ∙ sym q.left, ap tapes_in e.1)

serves_once : (l : List ℕ) (t : Tapes) (event out out' l' l'' : List ℕ) (t' t'' : Tapes)
    → Serves l t event out l' t' → Serves l t event out' l'' t'' → (out ≡ out') × (l' ≡ l'') × (t' ≡ t'')
serves_once l t event out out' l' l'' t' t'' (Serves.of_record so p) (Serves.of_record so' q) = served_once l t event out out' l' l'' t' t'' p q
serves_once l t event out out' l' l'' t' t'' (Serves.of_record so p) (Serves.of_none none q) = (cc, cc, cc)
serves_once l t event out out' l' l'' t' t'' (Serves.of_none none p) (Serves.of_record so q) = (cc, cc, cc)
serves_once l t event out out' l' l'' t' t'' (Serves.of_none none p) (Serves.of_none none' q) =
    (same p.result q.result, same p.left q.left, same p.tapes q.tapes)

-- two calls on one record, by what each handed back and left
many_once : (l out out' l' l'' : List ℕ) (t' t'' : Tapes) (r r' : ℕ) (h h' : Handed) (g g' : List ℕ)
    → (h ≡ h') × (lent_with g t' ≡ lent_with g' t'')
    → r ≡ h.count → r' ≡ h'.count → out ≡ result_bytes h.last → out' ≡ result_bytes h'.last
    → l' ≡ unit_bytes (unit h.last.core g) → l'' ≡ unit_bytes (unit h'.last.core g')
    → (r ≡ r') × (out ≡ out') × (l' ≡ l'') × (t' ≡ t'')
many_once l out out' l' l'' t' t'' r r' h h' g g' e n n' o o' w w' =
    let bytes = ap₂ (λ (x : Handed) (y : Lent). unit_bytes (unit x.last.core y.staging)) e.0 e.1 in (
      n ∙ ap (λ (x : Handed). x.count) e.0 ∙ sym n',
      o ∙ ap (λ (x : Handed). result_bytes x.last) e.0 ∙ sym o',
      w ∙ bytes ∙ sym w',
      ap tapes_in e.1,
    )

gives_once : (l : List ℕ) (t : Tapes) (bytes : List ℕ) (r r' : ℕ) (out out' l' l'' : List ℕ) (t' t'' : Tapes)
    → Gives l t bytes r out l' t' → Gives l t bytes r' out' l'' t'' → (r ≡ r') × (out ≡ out') × (l' ≡ l'') × (t' ≡ t'')
gives_once l t bytes r r' out out' l' l'' t' t'' (Gives.of_record so p) (Gives.of_record so' q) =
    many_once l out out' l' l'' t' t'' r r' p.handed q.handed p.staging q.staging
    (unit-once.give_bytes (core_of l) (lent_with (staging_of l) t) bytes _ _ _ _ p.is q.is)
    p.count q.count p.result q.result p.left q.left
gives_once l t bytes r r' out out' l' l'' t' t'' (Gives.of_record so p) (Gives.of_none none q z) = (cc, cc, cc, cc)
gives_once l t bytes r r' out out' l' l'' t' t'' (Gives.of_none none p z) (Gives.of_record so q) = (cc, cc, cc, cc)
gives_once l t bytes r r' out out' l' l'' t' t'' (Gives.of_none none p z) (Gives.of_none none' q z') =
    (same z z', same p.result q.result, same p.left q.left, same p.tapes q.tapes)

takes_once : (l : List ℕ) (t : Tapes) (bytes : List ℕ) (r r' : ℕ) (out out' l' l'' : List ℕ) (t' t'' : Tapes) (bytes' bytes'' : List ℕ)
    → Takes l t bytes r out l' t' bytes' → Takes l t bytes r' out' l'' t'' bytes''
    → (r ≡ r') × (out ≡ out') × (l' ≡ l'') × (t' ≡ t'') × (bytes' ≡ bytes'')
takes_once l t bytes r r' out out' l' l'' t' t'' bytes' bytes'' (Takes.of_record so p) (Takes.of_record so' q) =
    let e = unit-once.take_bytes (core_of l) (lent_with (staging_of l) t) bytes _ _ _ _ _ _ p.is q.is in
    let all = many_once l out out' l' l'' t' t'' r r' p.handed q.handed p.staging q.staging (e.0, e.1)
    p.count q.count p.result q.result p.left q.left in
    (all.0, all.1, all.2, all.3, e.2)
takes_once l t bytes r r' out out' l' l'' t' t'' bytes' bytes'' (Takes.of_record so p) (Takes.of_none none q z b) = (cc, cc, cc, cc, cc)
takes_once l t bytes r r' out out' l' l'' t' t'' bytes' bytes'' (Takes.of_none none p z b) (Takes.of_record so q) = (cc, cc, cc, cc, cc)
takes_once l t bytes r r' out out' l' l'' t' t'' bytes' bytes'' (Takes.of_none none p z b) (Takes.of_none none' q z' b') =
    (same z z', same p.result q.result, same p.left q.left, same p.tapes q.tapes, same b b')

pub one_outcome : OneOutcome
one_outcome =
    record {
      size = λ r r' p q. same p q;
      fresh = λ l r r' l' l'' p q. (same p.answer q.answer, same p.left q.left);
      step = serves_once;
      give = gives_once;
      take = takes_once;
      lines = λ l r r' out out' p q. (same p.answer q.answer, same p.result q.result);
    }
