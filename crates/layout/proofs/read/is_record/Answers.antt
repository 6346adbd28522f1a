-- Another length is no record; else the port and each drive are tested on their own stretch.
use borrow.Author.Tests.{eq-eqb}
use Rattle.layout.specs.Read.{is_record}
use Rattle.basis.specs.Tests.{tests}
use Rattle.layout.proofs.read.is_record.Goals as goal

pub returns-then-buffer-ne-RECORD : goal.returns-then-buffer-ne-RECORD
unfolding is_record
returns-then-buffer-ne-RECORD c = search tests

pub returns : goal.returns
unfolding is_record
returns c =
    rw (
      eq-eqb _ _ c.if-buffer-ne-RECORD.false,
      c.is_drive-4.ensures,
      c.is_drive-3.ensures,
      c.is_drive-2.ensures,
      c.is_drive.ensures,
      c.is_port.ensures,
      c.part-drive3.ensures,
      c.part-drive2.ensures,
      c.part-drive1.ensures,
      c.part-drive0.ensures,
      c.part-port.ensures,
    )
