-- A whole block ends inside the tape, so its bytes can be read.
use Prim.Native.Nat.{◌+◌, ◌≤◌}
use lib.ListN.{length}
use native.Mathlib.Omega.{arith}
use Rattle.tape.specs.Record.{block_size}
use Rattle.port.proofs.Whole.{whole}
use Rattle.unit.specs.Within.{next_of}
use Rattle.basis.specs.Choice.{pick}
use Rattle.unit.proofs.within.next_of.Goals.{Then-is_block, else-reads-via-then-reads+else-is_block, else-reads-via-else-reads}
use Rattle.unit.proofs.within.next_of.Goals as goal

inside : (c : Then-is_block) → c.args.drive.head + block_size ≤ length c.args.tape.now
inside c = whole c.args.tape.now c.args.drive.head (rw (← c.found_at.ensures, ← c.is_block.ensures) c.if-is_block.true)

pub overflow_add-result : goal.overflow_add-result
overflow_add-result c = let f = inside (goal.at.overflow_add-result c).Then-is_block in omega (arith, f, c.well_formed)

pub overflow_add-result-then-is_block : goal.overflow_add-result-then-is_block
overflow_add-result-then-is_block c =
    let f = inside (goal.at.overflow_add-result-then-is_block c).Then-is_block in omega (arith, f, c.requires, c.well_formed)

pub bounds-tape-drive : goal.bounds-tape-drive
bounds-tape-drive c = let f = inside (goal.at.bounds-tape-drive c).Then-is_block in omega (arith, f, c.requires)

pub returns-then-is_block : goal.returns-then-is_block
unfolding pick next_of
returns-then-is_block c =
    rw (
      ← c.reads.ensures,
      c.if-reads.true,
      ← c.found_at.ensures,
      ← c.is_block.ensures,
      c.if-is_block.true,
    )

pub returns : goal.returns
unfolding pick next_of
returns c =
    elim c.else-reads.branch [
      | else-reads-via-then-reads+else-is_block w ↦
          rw (← c.reads.ensures, w.if-reads.true, ← w.found_at.ensures, ← w.is_block.ensures, w.if-is_block.false)
      | else-reads-via-else-reads w ↦ rw (← c.reads.ensures, w.if-reads.false)
    ]
