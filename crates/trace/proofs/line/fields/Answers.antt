use Rattle.trace.proofs.Lengths.{one_digit}
use Rattle.trace.specs.Line.{fields_of}
use Rattle.trace.proofs.line.fields.Goals as goal

pub digit-number-requires : goal.digit-number-requires
digit-number-requires c = rw c.number.ensures (one_digit c.args.answer)

pub returns : goal.returns
unfolding fields_of
returns c =
    rw (
      c.or_dash-3.ensures,
      c.or_dash-2.ensures,
      c.or_dash.ensures,
      c.two_digits-digits.ensures,
      c.digit-number.ensures,
      c.number.ensures,
    )
