-- All but the last byte by one copy and the phase written where it stands; the last byte by the step.
use Prim.Native.Nat.{ℕ, ◌+◌, ◌≤◌}
use mathlib.Core.Path.{◌≡◌, sym, ap, ◌∙◌}
use mathlib.Core.Bool.{Bool, true, false}
use mathlib.Core.List.{List}
use lib.ListN.{length}
use Rattle.std.specs.Int.{from_bool}
use native.Mathlib.Omega.{arith}
use Rattle.basis.specs.Placed.{placed}
use Rattle.basis.proofs.Placing.{placed_none, one_or_none, one_at_most}
use Rattle.unit.proofs.Legs.{one_where}
use Rattle.rules.specs.declared.phase.Phase.TheVariants.{Giving}
use Rattle.rules.specs.declared.unit.Port.{Port}
use Rattle.rules.specs.Phase.{taken_before}
use Rattle.layout.specs.Written.{phase_at, phase_bytes}
use Rattle.layout.specs.Read.{core_of, staging_of}
use Rattle.board.specs.Serve.{tapes_of}
use Rattle.board.proofs.Ended.{all_but_one, read_most, still_record, own_staging, staging_long, taken_served}
use borrow.Author.Rules.{rules}
use Rattle.board.proofs.many.TakenWay.complete.Goals as goal

bit : (b : Bool) → from_bool b ≤ 1
bit true = omega arith
bit false = omega arith

pub returns-then-k-eq0-clause-served : goal.returns-then-k-eq0-clause-served
returns-then-k-eq0-clause-served c = let same = rw c.if-k-eq0.true at c.read_on-k.ensures.bytes ∙ placed_none _ 0 in rw (same) at c.serve_all.ensures.served

pub overflow_add-taken_before : goal.overflow_add-taken_before
overflow_add-taken_before c =
    let most = read_most _ _ _ _ _ c.requires.1.1.1 c.read_on-k.ensures.count (omega (arith, c.if-k-eq0.false)) in
    omega (arith, most, (all_but_one _ _ _ c.requires.1.1.1).place, c.taken_before.ensures)

pub step_in-last-requires : goal.step_in-last-requires
step_in-last-requires c =
    let l = c.args.buffer.now in
    let so = c.requires.0 in
    let ph = Giving (c.taken_before.result + c.read_on-k.result) in
    let is = c.write_phase.ensures ∙ ap (λ (x : List ℕ). placed x phase_at (phase_bytes ph)) (sym (own_staging l so)) in
    still_record l (λ i. search rules) so ph (staging_of l) (staging_long l so) _ is

pub put-requires : goal.put-requires
put-requires c =
    let all = all_but_one _ _ _ c.requires.1.1.1 in
    let most = read_most _ _ _ _ _ c.requires.1.1.1 c.read_on-k.ensures.count (omega (arith, c.if-k-eq0.false)) in
    let long = ap length (one_or_none _ c.as_slice.ensures) in
    omega (arith, long, one_at_most c.step_in-last.result.byte, most, all.two, c.read_on-k.auto.out)

pub overflow_add-result : goal.overflow_add-result
overflow_add-result c =
    let all = all_but_one _ _ _ c.requires.1.1.1 in
    let most = read_most _ _ _ _ _ c.requires.1.1.1 c.read_on-k.ensures.count (omega (arith, c.if-k-eq0.false)) in
    omega (arith, most, all.place, all.two, c.from.ensures, bit c.is_some.result)

pub returns-clause-served : goal.returns-clause-served
returns-clause-served c =
    let a = c.args in
    let l = a.buffer.now in
    let pre = c.requires in
    let port = pre.1.1.0 in
    let k = c.read_on-k.result in
    let front = c.read_on-k.new.out in
    let n = taken_before (core_of l).port.phase in
    let before : c.taken_before.result ≡ n = c.taken_before.ensures ∙ ap (λ (p : Port). taken_before p.phase) port in
    let took = rw (c.drive_in-drive.ensures, c.of.ensures, port) at c.read_on-k.ensures in
    let some : 1 ≤ k = omega (arith, c.if-k-eq0.false) in
    let is =
    rw (before) at c.write_phase.ensures ∙ ap (λ (x : List ℕ). placed x phase_at (phase_bytes (Giving (n + k)))) (sym (own_staging l pre.0)) in
    let kept = rw (one_or_none _ c.as_slice.ensures) at c.put.ensures in
    let count = ap (λ (x : ℕ). k + x) (rw c.is_some.ensures at (c.from.ensures ∙ one_where _)) in
    let sizes = c.step_in-last.ensures.same in
    taken_served l (tapes_of a.tapes.now) _ _ _ _ c.step_in-last.result (λ i. search rules) pre.0
    pre.1.0 (record { size0 = sizes.size0; size1 = sizes.size1; size2 = sizes.size2; size3 = sizes.size3 }) a.self.now.bytes.now front _ k _
    (rw (port) at pre.1.1.1) took c.read_on-k.auto.out some is c.step_in-last.ensures.stepped c.turn_bytes.ensures kept count
