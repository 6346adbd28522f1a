-- Leg after leg, each byte that went over is the first of those still to come.
use Prim.Native.Nat.{◌≤◌, ◌-◌}
use lib.ListN.{length, drop}
use Rattle.unit.specs.Tapes.{lent_on, Same}
use Rattle.rules.specs.Run.{given_each}
use Rattle.unit.specs.Handover.{went_in}
use Rattle.unit.proofs.Handover.{Standing}
use Rattle.unit.proofs.many.give_bytes.Given as goal

abbrev pub invariant-loop-count : goal.invariant-loop-count
invariant-loop-count l = Standing went_in l.initial.last.core (lent_on l.initial.staging l.initial.tapes) (given_each l.bytes) l.count l.last (lent_on l.staging l.tapes)
    (given_each (drop l.count l.bytes)) (λ rs. Unit)
    × ((l.count ≤ length l.bytes) × Same l.initial.tapes l.tapes)

abbrev pub decreases-loop-count : goal.decreases-loop-count
decreases-loop-count l = length l.bytes - l.count
