-- Leg after leg, each byte taken is put behind those before it.
use Prim.Native.Nat.{◌≤◌, ◌-◌}
use mathlib.Core.Path.{◌≡◌}
use mathlib.Core.List.{List}
use lib.ListN.{length}
use Rattle.basis.specs.Placed.{placed}
use Rattle.rules.specs.declared.answer.Turn.{Turn}
use Rattle.unit.specs.Tapes.{lent_on, Same}
use Rattle.rules.specs.Run.{taken_times}
use Rattle.rules.specs.Promises.Strike.{handed_out}
use Rattle.unit.specs.Handover.{went_out}
use Rattle.unit.proofs.Handover.{Standing}
use Rattle.unit.proofs.many.take_bytes.Given as goal

abbrev pub invariant-loop-count : goal.invariant-loop-count
invariant-loop-count l = Standing went_out l.initial.last.core (lent_on l.initial.staging l.initial.tapes) (taken_times (length l.initial.out)) l.count l.last
    (lent_on l.staging l.tapes) (taken_times (length l.initial.out - l.count)) (λ (rs : List Turn). l.out ≡ placed l.initial.out 0 (handed_out rs))
    × ((l.count ≤ length l.initial.out) × ((length l.out ≡ length l.initial.out) × Same l.initial.tapes l.tapes))

abbrev pub decreases-loop-count : goal.decreases-loop-count
decreases-loop-count l = length l.out - l.count
