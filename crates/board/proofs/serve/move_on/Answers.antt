-- What is lent is the staging block, and what comes back stands behind the rest.
use Prim.Native.Nat.{ℕ}
use mathlib.Core.Path.{sym, ap, ◌∙◌}
use mathlib.Core.List.{List, ◌++◌}
use lib.ListN.{length, take}
use Rattle.basis.specs.Placed.{placed}
use Rattle.layout.specs.Written.{phase_at, phase_bytes}
use Rattle.board.proofs.InPlace.{lent_part, part_long, given_back}
use Rattle.board.proofs.serve.move_on.Goals as goal

pub returns : goal.returns
returns c =
    let a = c.args in
    let l = a.buffer.now in
    let g = c.stage.new.staging in
    let put = rw (lent_part l g c.requires) at c.stage.ensures in
    let back = given_back l g c.requires ∙ ap (λ (x : List ℕ). take 146 l ++ x) put in
    record {
      value = c.byte_bytes.ensures;
      buffer_after = c.write_phase.ensures ∙ ap (λ (x : List ℕ). placed x phase_at (phase_bytes a.inside.phase)) back;
      buffer_len = sym (ap length put) ∙ (c.stage.auto.staging ∙ part_long l g c.requires);
    }
