-- Six less what is outstanding, and what is outstanding is 1 or more.
use Prim.Native.Nat.{ℕ, ◌-◌, max}
use mathlib.Core.Path.{◌∙◌, ◌≡◌}
use native.Mathlib.Omega.{arith}
use borrow.Author.Tests.{leb-true, leb-false}
use lib.Dec.{leb}
use Rattle.basis.proofs.Choosing.{choice_by}
use Rattle.rules.specs.Bytes.{octet_place}
use Rattle.report.proofs.taken.octet_place.Goals as goal

left : (k : ℕ) → 6 - max k 1 ≡ octet_place k
left k =
    let P : ℕ → Type 0 = λ (x : ℕ). 6 - max k 1 ≡ x in
    choice_by P (leb k 1) (λ e. omega (arith, leb-true k 1 e))
    (λ e. choice_by P (leb k 6) (λ f. omega (arith, leb-false k 1 e, leb-true k 6 f)) (λ f. omega (arith, leb-false k 6 f)))

pub returns : goal.returns
returns c =
    let k = c.args.k in
    (omega (arith, c.saturating_sub.ensures, c.max.ensures) ∙ left k, omega (arith, c.saturating_sub.ensures, c.max.ensures))
