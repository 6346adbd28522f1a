-- Where the walk stands, in the laws' words, before each record.
use mathlib.Core.Path.{◌≡◌, sym, ap, ◌∙◌}
use native.Mathlib.Omega.{arith}
use Rattle.std.specs.Prelude.{Ok}
use Rattle.tape.specs.declared.found.Kind.TheVariants.{Block, Mark}
use Rattle.tape.specs.Record.{found_at}
use Rattle.tape.proofs.Standing.{block_fits, mark_fits}
use Rattle.tape.proofs.Walking.{stands_first, over_blocks, over_marks, stopped_at, past_all}
use Rattle.tape.proofs.pass.pass_marks.Goals.{In-Ok-Block, In-Ok-Mark}
use Rattle.tape.proofs.pass.pass_marks.Goals as goal

block : (c : In-Ok-Block) → found_at c.args.tape.now c.loop-left.at ≡ Ok Block
block c = sym c.found_at.ensures ∙ c.in-Ok-Block.is ∙ ap Ok c.in-Ok-Block.field-0-is

mark : (c : In-Ok-Mark) → found_at c.args.tape.now c.loop-left.at ≡ Ok Mark
mark c = sym c.found_at.ensures ∙ c.in-Ok-Mark.is ∙ ap Ok c.in-Ok-Mark.field-0-is

pub loop-left-init : goal.loop-left-init
loop-left-init c = stands_first _ _ _

pub overflow_add-at : goal.overflow_add-at
overflow_add-at c =
    let s = c.loop-left.invariant.far in
    omega (arith, block_fits _ _ (block c))

pub overflow_add-records : goal.overflow_add-records
overflow_add-records c =
    let s = c.loop-left.invariant.far in
    omega (arith, block_fits _ _ (block c))

pub loop-left-smaller-in-Ok-Block : goal.loop-left-smaller-in-Ok-Block
loop-left-smaller-in-Ok-Block c =
    let s = c.loop-left.invariant.far in
    omega (arith, block_fits _ _ (block c))

pub loop-left-preserved-in-Ok-Block : goal.loop-left-preserved-in-Ok-Block
loop-left-preserved-in-Ok-Block c = over_blocks _ _ _ _ _ _ c.loop-left.invariant c.loop-left-test.true (block c)

pub overflow_add-at-in-Ok-Mark : goal.overflow_add-at-in-Ok-Mark
overflow_add-at-in-Ok-Mark c =
    let s = c.loop-left.invariant.far in
    omega (arith, mark_fits _ _ (mark c))

pub overflow_add-records-in-Ok-Mark : goal.overflow_add-records-in-Ok-Mark
overflow_add-records-in-Ok-Mark c =
    let s = c.loop-left.invariant.far in
    omega (arith, mark_fits _ _ (mark c))

pub loop-left-smaller : goal.loop-left-smaller
loop-left-smaller c =
    let s = c.loop-left.invariant.far in
    omega (arith, mark_fits _ _ (mark c))

pub loop-left-preserved : goal.loop-left-preserved
loop-left-preserved c = over_marks _ _ _ _ _ _ c.loop-left.invariant c.loop-left-test.true (mark c)

pub overflow_sub-result : goal.overflow_sub-result
overflow_sub-result c = c.loop-left.invariant.few

pub returns-in-Err : goal.returns-in-Err
returns-in-Err c =
    stopped_at _ _ _ _ _ _ _ c.loop-left.invariant c.loop-left-test.true (sym c.found_at.ensures ∙ c.in-Err.is)

pub returns : goal.returns
returns c = past_all _ _ _ _ _ _ c.loop-left.invariant c.loop-left-test.false
