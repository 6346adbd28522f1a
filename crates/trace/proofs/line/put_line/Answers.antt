use Rattle.basis.proofs.Placing.{placed_then}
use Rattle.basis.specs.Text.{decimal}
use Rattle.trace.specs.Line.{fields_of, line_of, line_size}
use native.Mathlib.Omega.{arith}
use Rattle.trace.proofs.line.put_line.Goals as goal

pub put_number-requires : goal.put_number-requires
unfolding line_size
put_number-requires c = (c.places-k.ensures, omega (arith, c.places-k.ensures, c.requires))

pub overflow_add-at : goal.overflow_add-at
unfolding line_size
overflow_add-at c =
    omega (arith, c.places-k.ensures, c.requires)

pub put-requires : goal.put-requires
unfolding line_size
put-requires c =
    omega (arith, c.put_number.auto.out, c.places-k.ensures, c.requires)

pub overflow_add-result : goal.overflow_add-result
unfolding line_size
overflow_add-result c =
    omega (arith, c.places-k.ensures, c.requires)

pub overflow_add-result-2 : goal.overflow_add-result-2
unfolding line_size
overflow_add-result-2 c =
    omega (arith, c.places-k.ensures, c.requires)

pub returns : goal.returns
unfolding line_of line_size fields_of
returns c =
    let a = c.args in (
      omega (arith, c.places-k.ensures),
      rw (c.put.ensures, c.put_number.ensures, c.fields-rest.ensures, c.places-k.ensures)
          (placed_then a.out.now a.at (decimal a.number) (fields_of a.answer a.lines a.byte) c.requires),
    )
