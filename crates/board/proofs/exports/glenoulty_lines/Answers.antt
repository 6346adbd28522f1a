-- The lines of a possible record, else the lines down.
use Rattle.board.proofs.Held.{held_long}
use Rattle.basis.specs.Choice.{pick}
use mathlib.Core.Path.{refl}
use Rattle.basis.specs.Tests.{told}
use Rattle.board.proofs.exports.glenoulty_lines.Goals as goal

pub core_of-requires : goal.core_of-requires
core_of-requires c =
    held_long c.args.buffer.now (told c.holds.ensures c.if-holds.true)

pub returns-then-holds : goal.returns-then-holds
unfolding pick
returns-then-holds c =
    let taken = c.if-holds in
    let so = told c.holds.ensures taken.true in
    record {
      answer = rw (so) c.number.ensures;
      result = rw (so, c.lines_bytes.ensures, c.lines.ensures, c.core_of.ensures) refl;
    }

pub returns : goal.returns
unfolding pick
returns c =
    let none = told c.holds.ensures c.if-holds.false in
    record { answer = rw (none) c.number-2.ensures; result = rw (none) refl }
