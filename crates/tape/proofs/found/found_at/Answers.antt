-- Each return is one case of what stands at an offset.
use native.Mathlib.Omega.{arith}
use mathlib.Core.Path.{sym}
use Rattle.tape.specs.Laws.{whole_block, one_mark, one_end, tape_end, other_kind, cut_block, off_tape}
use Rattle.tape.proofs.Standing.{case_found}
use Rattle.tape.proofs.found.found_at.Goals as goal

pub returns-then-n-head : goal.returns-then-n-head
returns-then-n-head c = sym (case_found _ _ _ (off_tape c.if-n-head.true))

pub returns-then-n-head-2 : goal.returns-then-n-head-2
returns-then-n-head-2 c = sym (case_found _ _ _ (tape_end (sym c.if-n-head-2.true)))

pub returns-in-0 : goal.returns-in-0
returns-in-0 c = sym (case_found _ _ _ (one_end (omega arith) c.in-0.is))

pub returns-in-1 : goal.returns-in-1
returns-in-1 c = sym (case_found _ _ _ (whole_block (omega arith) c.in-1.is))

pub returns-in-1-2 : goal.returns-in-1-2
returns-in-1-2 c = sym (case_found _ _ _ (cut_block (omega arith) (omega arith) c.in-1.is))

pub returns-in-2 : goal.returns-in-2
returns-in-2 c = sym (case_found _ _ _ (one_mark (omega arith) c.in-2.is))

pub returns-in_default : goal.returns-in_default
returns-in_default c =
    sym (case_found _ _ _ (other_kind (omega arith) (λ e. omega (arith, e)) (λ e. omega (arith, e)) (λ e. omega (arith, e))))
