use lib.ListN.{length}
use lib.Seq.{paste}
use mathlib.Core.Path.{◌≡◌}
use Rattle.tape.proofs.record.put_block.Given as goal

abbrev pub invariant-loop-i : goal.invariant-loop-i
invariant-loop-i l = (length l.part ≡ length l.initial.part) × (l.part ≡ paste l.initial.part 1 l.body l.i)
