-- Where the walk stands, in the laws' words, before each record.
use Prim.Native.Nat.{◌-◌}
use lib.ListN.{length}
use Rattle.tape.proofs.Walking.{StandsAt}
use Rattle.tape.proofs.pass.pass_marks.Given as goal

abbrev pub invariant-loop-left : goal.invariant-loop-left
invariant-loop-left l = StandsAt l.tape l.head l.marks l.at l.left l.records

abbrev pub decreases-loop-left : goal.decreases-loop-left
decreases-loop-left l = length l.tape - l.at
