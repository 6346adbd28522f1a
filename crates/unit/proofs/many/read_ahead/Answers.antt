use mathlib.Core.Path.{◌≡◌, sym, ap, ◌∙◌}
use native.Mathlib.Omega.{arith}
use Prim.Native.Nat.{ℕ, ◌+◌, ◌-◌, ◌≤◌}
use lib.ListN.{length, take, drop, length-take, length-drop}
use Rattle.basis.specs.Placed.{placed}
use Rattle.basis.specs.Choice.{pick}
use Rattle.basis.proofs.Placing.{placed_none}
use Rattle.port.proofs.Whole.{whole}
use Rattle.unit.specs.Ahead.{read_ahead}
use Rattle.unit.proofs.Ahead.{ahead_some}
use Rattle.unit.proofs.many.read_ahead.Goals.{Then-k-gt0, else-reads-via-then-reads+else-is_block, else-reads-via-else-reads}
use Rattle.unit.proofs.many.read_ahead.Goals as goal

-- the bytes that are ahead lie inside the block, and the block inside the tape
fits : (c : Then-k-gt0) → (c.args.drive.head + 1 + c.taken_before-n.result + c.ahead_of-k.result ≤ length c.args.tape.now) × (c.ahead_of-k.result + c.args.at ≤ length c.args.out.now)
fits c =
    let a = c.args in
    let inside = whole a.tape.now a.drive.head (rw (← c.found_at.ensures, ← c.is_block.ensures) c.if-is_block.true) in
    let some = ahead_some _ _ _ _ c.ahead_of-k.ensures c.if-k-gt0.true in
    (omega (arith, inside, some.within), omega (arith, some.wanted, c.requires))

pub overflow_add-from : goal.overflow_add-from
overflow_add-from c = let f = fits (goal.at.overflow_add-from c).Then-k-gt0 in omega (arith, f)

pub overflow_add-from-then-k-gt0 : goal.overflow_add-from-then-k-gt0
overflow_add-from-then-k-gt0 c = let f = fits (goal.at.overflow_add-from-then-k-gt0 c).Then-k-gt0 in omega (arith, f)

pub overflow_add-end : goal.overflow_add-end
overflow_add-end c = let f = fits (goal.at.overflow_add-end c).Then-k-gt0 in omega (arith, f)

pub slice_bounds-put-end : goal.slice_bounds-put-end
slice_bounds-put-end c = let f = fits (goal.at.slice_bounds-put-end c).Then-k-gt0 in omega (arith, f)

pub put-requires : goal.put-requires
put-requires c = let f = fits (goal.at.put-requires c).Then-k-gt0 in simp (length-take, length-drop) (omega (arith, f))

pub returns-then-k-gt0 : goal.returns-then-k-gt0
unfolding pick read_ahead
returns-then-k-gt0 c =
    let a = c.args in
    let from = a.drive.head + 1 + c.taken_before-n.result in
    let k = c.ahead_of-k.result in
    let part : from + k - from ≡ k = omega arith in (
      rw (
        ← c.reads.ensures,
        c.if-reads.true,
        ← c.found_at.ensures,
        ← c.is_block.ensures,
        c.if-is_block.true,
        ← c.at_rest.ensures,
        ← c.taken_before-n.ensures,
      ) c.ahead_of-k.ensures,
      rw (← c.taken_before-n.ensures) (c.put.ensures ∙ ap (λ (m : ℕ). placed a.out.now a.at (take m (drop from a.tape.now))) part),
    )

pub returns-else-k-gt0 : goal.returns-else-k-gt0
unfolding pick read_ahead
returns-else-k-gt0 c =
    let a = c.args in
    let none : c.ahead_of-k.result ≡ 0 = omega (arith, c.if-k-gt0.false) in (
      rw (
        ← c.reads.ensures,
        c.if-reads.true,
        ← c.found_at.ensures,
        ← c.is_block.ensures,
        c.if-is_block.true,
        ← c.at_rest.ensures,
        ← c.taken_before-n.ensures,
      ) (sym none ∙ c.ahead_of-k.ensures),
      sym (placed_none a.out.now a.at),
    )

pub returns-else-reads : goal.returns-else-reads
unfolding pick read_ahead
returns-else-reads c =
    let a = c.args in (
      elim c.else-reads.branch [
        | else-reads-via-then-reads+else-is_block w ↦
            rw (← c.reads.ensures, w.if-reads.true, ← w.found_at.ensures, ← w.is_block.ensures, w.if-is_block.false)
        | else-reads-via-else-reads w ↦ rw (← c.reads.ensures, w.if-reads.false)
      ],
      sym (placed_none a.out.now a.at),
    )
