-- The one call that records tells whether the block and what is kept behind it had room.
use Rattle.rules.specs.declared.phase.Phase.TheVariants.{Rest}
use Rattle.rules.specs.Unit.{at_phase}
use Rattle.port.proofs.Made.{block_refused, block_stored}
use Rattle.port.proofs.given.store.Goals as goal

pub returns-in-Some : goal.returns-in-Some
returns-in-Some c =
    let a = c.args in
    let w = rw (c.in-Some.is, c.spare_of.ensures) at c.record_block.ensures in
    rw (c.after_block.ensures, c.one_less.ensures, c.made.ensures)
    (block_stored a.staging.now (at_phase Rest a.at.port) a.at.drive a.tape.now _ _ w)

pub returns-in-None : goal.returns-in-None
returns-in-None c =
    let a = c.args in
    let w = rw (c.in-None.is, c.spare_of.ensures) at c.record_block.ensures in
    rw (c.rests.ensures, c.stop.ensures) (block_refused a.staging.now (at_phase Rest a.at.port) a.at.drive a.tape.now _ w)
