-- A byte within a block staged and its phase written where they stand; else the unit's step.
use mathlib.Core.Path.{refl, sym, ◌∙◌}
use Rattle.basis.specs.Tests.{told}
use Rattle.board.specs.Serve.{tapes_of}
use Rattle.board.proofs.InPlace.{byte_served}
use borrow.Author.Rules.{rules}
use Rattle.board.proofs.serve.serve.Goals as goal

pub returns-clause-served : goal.returns-clause-served
returns-clause-served c =
    let moved = c.move_on.ensures in
    let a = c.args in
    let port = c.port_in-port.ensures in
    byte_served a.buffer.now (tapes_of a.tapes.now) a.event.now _ _ _ _
    (λ i. search rules) c.requires (told c.calm.ensures c.if-calm.true)
    (rw (c.drive_in-drive.ensures, c.of.ensures, port) at (sym c.within_block.ensures ∙ c.in-Some.is)) refl
    (rw (port) at moved.buffer_len) moved.value (rw (port) at moved.buffer_after)

pub returns-2-clause-served : goal.returns-2-clause-served
returns-2-clause-served c =
    let step = c.step_in.ensures.stepped in
    record {
      turn = c.step_in.result;
      staging = step.staging;
      steps = step.steps;
      result = c.turn_bytes.ensures;
      left = step.left;
      sized = step.sized;
    }
