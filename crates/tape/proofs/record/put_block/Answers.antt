use Rattle.tape.proofs.Parts.{block_put}
use lib.Seq.{paste-zero, paste-suc}
use lib.ListN.{get_or, set, length-set}
use native.Mathlib.Numerals.{add-one}
use native.Mathlib.Omega.{arith}
use mathlib.Core.List.{List}
use mathlib.Core.Path.{◌≡◌, refl, ap, ◌∙◌}
use Prim.Native.Nat.{ℕ, ◌+◌}
use Rattle.tape.proofs.record.put_block.Goals as goal

pub loop-i-init : goal.loop-i-init
loop-i-init c = (refl, paste-zero _ 1 c.args.body.now)

pub bounds-part-i : goal.bounds-part-i
bounds-part-i c = omega (arith, c.loop-i.invariant.0, length-set c.args.part.now 0 1)

pub loop-i-preserved : goal.loop-i-preserved
loop-i-preserved c =
    let a = c.args in
    let i = c.loop-i.i in
    let inv = c.loop-i.invariant in (
      simp length-set (inv.0 ∙ simp length-set),
      ap (λ (l : List ℕ). set l (1 + i) (get_or a.body.now i 0)) inv.1
          ∙ rw add-one (paste-suc (set a.part.now 0 1) 1 a.body.now i 0 (simp length-set (omega arith)) (omega arith)),
    )

pub shape_of-part : goal.shape_of-part
shape_of-part c =
    omega (arith, c.end_at.auto.part, c.loop-i.invariant.0, length-set c.args.part.now 0 1)

pub returns : goal.returns
returns c =
    let a = c.args in
    let e : c.loop-i.i ≡ 512 = omega arith in
    c.end_at.ensures ∙ rw (c.loop-i.invariant.1, e) (block_put a.part.now a.body.now c.requires.1 c.requires.0)
