use Rattle.basis.specs.Text.{decimal}
use lib.ListN.{length}
use lib.Seq.{sets}
use mathlib.Core.Path.{◌≡◌}
use Rattle.basis.proofs.number.put_number.Given as goal

abbrev pub invariant-loop-i : goal.invariant-loop-i
invariant-loop-i l = (l.i ≡ length (decimal l.rest)) × (sets l.out l.at (decimal l.rest) ≡ sets l.initial.out l.at (decimal l.n))
