use Prim.Native.Nat.{◌+◌, ℕ}
use Rattle.basis.proofs.Placing.{pasted}
use lib.ListN.{get_or, length, length-set, set}
use lib.Seq.{paste-suc, paste-zero}
use mathlib.Core.List.{List}
use mathlib.Core.Path.{◌∙◌, ◌≡◌, ap, refl}
use native.Mathlib.Numerals.{add-one}
use native.Mathlib.Omega.{arith}
use Rattle.basis.proofs.place.put.Goals as goal

pub loop-i-init : goal.loop-i-init
loop-i-init c = (refl, paste-zero _ c.args.at c.args.bytes.now)

pub loop-i-preserved : goal.loop-i-preserved
loop-i-preserved c =
    let a = c.args in
    let i = c.loop-i.i in
    let inv = c.loop-i.invariant in (
      simp length-set inv.0,
      ap (λ (l : List ℕ). set l (a.at + i) (get_or a.bytes.now i 0)) inv.1
          ∙ rw add-one (paste-suc a.out.now a.at a.bytes.now i 0 (omega arith) (omega arith)),
    )

pub returns : goal.returns
returns c =
    let a = c.args in
    let e : c.loop-i.i ≡ length a.bytes.now = omega arith in
    c.loop-i.invariant.1 ∙ rw e (pasted a.out.now a.at a.bytes.now)
