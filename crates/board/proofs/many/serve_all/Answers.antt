-- The unit's call on what the buffer holds, its staging block lent from where it stands.
use mathlib.Core.Path.{refl, ◌∙◌}
use Rattle.layout.proofs.Form.{record_long}
use Rattle.board.proofs.InPlace.{lent_part, part_long, back_staging}
use Rattle.board.proofs.many.serve_all.Goals as goal

pub returns-clause-served : goal.returns-clause-served
returns-clause-served g c =
    let l = c.args.buffer.now in
    let s = c.go_over-handed.new.staging in
    let size = record_long l c.requires in
    let staging = back_staging l s size (c.go_over-handed.auto.staging ∙ part_long l s size) in
    let wrote = c.write_core.ensures in
    record {
      handed = c.go_over-handed.result;
      staging = s;
      is = rw (c.core_of-core.ensures, lent_part l s size) at c.go_over-handed.ensures.goes;
      count = refl;
      result = c.turn_bytes.ensures;
      left = rw (staging) at wrote.buffer_after;
      sized = rw (staging) at wrote.sized;
    }
