-- Staged and the phase written where they stand; the last byte by the step.
use Prim.Native.Nat.{ℕ, ◌+◌, ◌-◌}
use mathlib.Core.Path.{◌≡◌, sym, ap, ◌∙◌}
use mathlib.Core.List.{List, ◌++◌}
use native.Mathlib.Omega.{arith}
use lib.ListN.{length, take, length-take, length-drop}
use Rattle.rules.specs.declared.phase.Phase.TheVariants.{Taking}
use Rattle.rules.specs.Drive.{writes}
use Rattle.rules.specs.Phase.{at_rest, given_before}
use Rattle.rules.specs.Unit.{drive_at}
use Rattle.layout.specs.Read.{core_of, staging_of}
use Rattle.board.specs.Serve.{tapes_of}
use Rattle.board.specs.Ends.{ends_block}
use Rattle.basis.specs.Placed.{placed}
use Rattle.basis.proofs.Choosing.{both}
use Rattle.rules.specs.declared.unit.Port.{Port}
use Rattle.layout.specs.Written.{phase_at, phase_bytes}
use Rattle.layout.proofs.Form.{record_long}
use Rattle.unit.proofs.Legs.{one_where}
use Rattle.board.proofs.InPlace.{lent_part, part_long, given_back}
use Rattle.board.proofs.Ended.{all_but_one, still_record, given_served}
use borrow.Author.Rules.{rules}
use Rattle.board.proofs.many.GivenWay.complete.Goals as goal

pub overflow_sub-k : goal.overflow_sub-k
overflow_sub-k c = omega (arith, (all_but_one _ _ _ (both _ _ c.requires.1.1.1).0).two)

pub put-requires : goal.put-requires
put-requires c =
    let all = all_but_one _ _ _ (both _ _ c.requires.1.1.1).0 in
    let n = c.given_before-n.ensures in
    simp (length-take, length-drop) (omega (arith, all.place, all.two, n, record_long c.args.buffer.now c.requires.0))

pub overflow_add-n : goal.overflow_add-n
overflow_add-n c =
    let all = all_but_one _ _ _ (both _ _ c.requires.1.1.1).0 in
    let n = c.given_before-n.ensures in
    omega (arith, all.place, n)

pub bounds-self-k : goal.bounds-self-k
bounds-self-k c = omega (arith, (all_but_one _ _ _ (both _ _ c.requires.1.1.1).0).two)

pub step_in-last-requires : goal.step_in-last-requires
step_in-last-requires c =
    let l = c.args.buffer.now in
    let g = c.put.new.out in
    let size = record_long l c.requires.0 in
    let ph = Taking (c.given_before-n.result + (length c.args.self.now.bytes.now - 1)) in
    let is = c.write_phase.ensures ∙ ap (λ (x : List ℕ). placed x phase_at (phase_bytes ph)) (given_back l g size) in
    still_record l (λ i. search rules) c.requires.0 ph g (c.put.auto.out ∙ part_long l g size) _ is

pub returns-clause-served : goal.returns-clause-served
returns-clause-served c =
    let a = c.args in
    let l = a.buffer.now in
    let pre = c.requires in
    let port = pre.1.1.0 in
    let at = both (ends_block (at_rest a.port.phase) (given_before a.port.phase) (length a.self.now.bytes.now)) (writes (drive_at (core_of l) a.port.selected)) pre.1.1.1 in
    let size = record_long l pre.0 in
    let g = c.put.new.out in
    let k = length a.self.now.bytes.now - 1 in
    let n = given_before (core_of l).port.phase in
    let before : c.given_before-n.result ≡ n = c.given_before-n.ensures ∙ ap (λ (p : Port). given_before p.phase) port in
    let part : k - 0 ≡ k = omega arith in
    let put : g ≡ placed (staging_of l) n (take k a.self.now.bytes.now) = rw (lent_part l g size, before, part) at c.put.ensures in
    let back = given_back l g size ∙ ap (λ (x : List ℕ). take 146 l ++ x) put in
    let is = rw (before) at c.write_phase.ensures ∙ ap (λ (x : List ℕ). placed x phase_at (phase_bytes (Taking (n + k)))) back in
    let sizes = c.step_in-last.ensures.same in
    given_served l (tapes_of a.tapes.now) _ _ _ _ c.step_in-last.result (λ i. search rules) pre.0
    pre.1.0 (record { size0 = sizes.size0; size1 = sizes.size1; size2 = sizes.size2; size3 = sizes.size3 }) a.self.now.bytes.now _ (rw (port) at at.1)
    (rw (port) at at.0) (sym (ap length put) ∙ (c.put.auto.out ∙ part_long l g size)) is c.step_in-last.ensures.stepped
    c.turn_bytes.ensures (ap (λ (x : ℕ). k + x) (rw c.refuses.ensures at (c.from.ensures ∙ one_where _)))
