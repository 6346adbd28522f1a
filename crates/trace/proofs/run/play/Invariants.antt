use Prim.Native.Nat.{◌-◌}
use Rattle.rules.specs.Run.{world}
use Rattle.unit.specs.Tapes.{lent_on, Same}
use Rattle.trace.proofs.Playing.{Runs}
use lib.ListN.{length}
use Rattle.trace.proofs.run.play.Given as goal

abbrev pub invariant-loop-size : goal.invariant-loop-size
invariant-loop-size l = Runs l.initial.c (lent_on l.initial.staging l.initial.tapes) l.input l.ending l.initial.n l.initial.out (world l.c (lent_on l.staging l.tapes)) l.used l.written l.n l.out × Same l.initial.tapes l.tapes

abbrev pub decreases-loop-size : goal.decreases-loop-size
decreases-loop-size l = length l.input - l.used
