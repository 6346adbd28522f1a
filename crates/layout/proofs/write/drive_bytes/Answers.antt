-- The array has what the calls made, byte for byte as a drive is laid out.
use Rattle.std.proofs.Common.{arith, ◌∙◌}
use Rattle.layout.proofs.Numbers.{two_written, eight_written}
use Rattle.layout.proofs.Parts.{drive_listed}
use Rattle.layout.proofs.write.drive_bytes.Goals as goal

pub returns : goal.returns
returns c =
    drive_listed c.args.drive _ _ _ _ _ _ _ _
    (c.to_le_bytes-h.ensures ∙ eight_written c.args.drive.head (omega arith))
    (c.to_le_bytes-e.ensures ∙ two_written c.args.drive.errors.0 (omega arith))
    (c.to_le_bytes-u.ensures ∙ two_written c.args.drive.underruns.0 (omega arith))
    c.latched_bytes-l.ensures
    c.flag.ensures
    c.flag-2.ensures
    c.mode_byte.ensures
    c.flag-3.ensures
