use Rattle.std.proofs.Common.{arith}
use Rattle.rules.proofs.Places.{first_lands, second_lands, third_lands, last_lands}
use Rattle.count.proofs.counted.count_in.Goals as goal

pub returns-in-0 : goal.returns-in-0
returns-in-0 g c = first_lands g.C.Counter.counted c.args.core c.args.i _ c.in-0.is c.raise.ensures

pub returns-in-1 : goal.returns-in-1
returns-in-1 g c = second_lands g.C.Counter.counted c.args.core c.args.i _ c.in-1.is c.raise-in-1.ensures

pub returns-in-2 : goal.returns-in-2
returns-in-2 g c = third_lands g.C.Counter.counted c.args.core c.args.i _ c.in-2.is c.raise-in-2.ensures

pub returns-in_default : goal.returns-in_default
returns-in_default g c = last_lands g.C.Counter.counted c.args.core c.args.i _ (λ e. omega (arith, e)) (λ e. omega (arith, e)) (λ e. omega (arith, e)) c.raise-in_default.ensures
