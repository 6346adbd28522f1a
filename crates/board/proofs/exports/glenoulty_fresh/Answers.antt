-- A buffer of the right size gets the bytes of the fresh unit; any other is left alone.
use Rattle.layout.specs.Written.{unit_bytes}
use Rattle.basis.specs.Choice.{pick}
use borrow.Author.Tests.{eq-eqb, ne_eqb}
use mathlib.Core.Path.{refl, ap, ◌∙◌}
use Rattle.board.proofs.exports.glenoulty_fresh.Goals as goal

pub returns-then-buffer-eq-RECORD : goal.returns-then-buffer-eq-RECORD
unfolding pick
returns-then-buffer-eq-RECORD c =
    let fits = eq-eqb _ _ c.if-buffer-eq-RECORD.true in
    record {
      answer = rw (fits) c.number.ensures;
      left = rw (fits) (c.write_record.ensures.buffer_after ∙ ap unit_bytes c.fresh-unit.ensures);
    }

pub returns : goal.returns
unfolding pick
returns c =
    let other = ne_eqb _ _ c.if-buffer-eq-RECORD.false in
    record { answer = rw (other) c.number-2.ensures; left = rw (other) refl }
