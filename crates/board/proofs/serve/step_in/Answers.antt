-- The unit's step on what the buffer holds, its staging block lent from where it stands.
use mathlib.Core.Path.{◌∙◌}
use Rattle.layout.proofs.Form.{record_long}
use Rattle.board.proofs.InPlace.{lent_part, part_long, back_staging}
use Rattle.board.proofs.serve.step_in.Goals as goal

pub returns-clause-stepped : goal.returns-clause-stepped
returns-clause-stepped c =
    let l = c.args.buffer.now in
    let g = c.step_lent-turn.new.staging in
    let size = record_long l c.requires in
    let staging = back_staging l g size (c.step_lent-turn.auto.staging ∙ part_long l g size) in
    let wrote = c.write_core.ensures in
    record {
      staging = g;
      steps = rw (c.core_of-core.ensures, lent_part l g size) at c.step_lent-turn.ensures.step;
      left = rw (staging) at wrote.buffer_after;
      sized = rw (staging) at wrote.sized;
    }
