use Rattle.rules.specs.Lines.{lines_of}
use Rattle.answers.proofs.three_lines.lines.Goals as goal

pub returns : goal.returns
unfolding lines_of
returns c =
    rw (c.reads.ensures, c.is_status.ensures, c.rest_or_status.ensures, c.drive-drive.ensures)
