use Prim.Native.Nat.{◌+◌}
use Rattle.basis.specs.Tests.{told}
use Rattle.basis.specs.Choice.{pick}
use Rattle.basis.proofs.Digits.{few_digits}
use Rattle.trace.proofs.Lengths.{line_length}
use Rattle.basis.specs.Text.{decimal}
use Rattle.trace.specs.Line.{line_size, shown_at}
use borrow.Author.Tests.{leb-true}
use lib.ListN.{length}
use native.Mathlib.Omega.{arith}
use Rattle.trace.proofs.line.show_line.Goals as goal

pub overflow_add-places : goal.overflow_add-places
overflow_add-places c = omega (arith, c.places.ensures, few_digits c.args.number)

pub put_line-requires : goal.put_line-requires
unfolding line_size
put_line-requires c =
    let a = c.args in
    leb-true (a.at + (length (decimal a.number) + 10)) (length a.out.now)
    (rw c.places.ensures at (told c.has_room.ensures c.if-has_room.true))

pub returns-then-has_room : goal.returns-then-has_room
unfolding shown_at line_size pick
returns-then-has_room c =
    let a = c.args in
    rw (
      line_length a.number a.answer a.lines a.byte,
      c.put_line.ensures.1,
      c.put_line.ensures.0,
      ← c.places.ensures,
      told c.has_room.ensures c.if-has_room.true,
    )

pub returns-else-has_room : goal.returns-else-has_room
unfolding shown_at line_size pick
returns-else-has_room c =
    let a = c.args in
    rw (
      line_length a.number a.answer a.lines a.byte,
      ← c.places.ensures,
      told
          c.has_room.ensures c.if-has_room.false,
    )
