-- Part after part is put where the last one ended, up to the staging block, which no part reaches.
use Rattle.layout.proofs.Stretch.{stretch_long}
use Rattle.layout.proofs.Parts.{nothing_yet, put_on, port_long, drive_long, core_written}
use Rattle.layout.specs.Written.{port_bytes, drive_bytes}
use Rattle.layout.specs.Read.{staging_of}
use native.Mathlib.Omega.{arith}
use Rattle.layout.proofs.write.write_core.Goals as goal

pub returns : goal.returns
unfolding staging_of
returns c =
    let o = c.args.buffer.now in
    let k = c.args.core in
    let sized = c.put_port.ensures.octets_len in
    let w1 = put_on (port_bytes k.port) 0 18 (nothing_yet o) (port_long k.port sized) c.put_port.ensures.buffer_after in
    let w2 = put_on (drive_bytes k.drive0) 18 32 w1 (drive_long k.drive0) c.put_drive.ensures in
    let w3 = put_on (drive_bytes k.drive1) 50 32 w2 (drive_long k.drive1) c.put_drive-2.ensures in
    let w4 = put_on (drive_bytes k.drive2) 82 32 w3 (drive_long k.drive2) c.put_drive-3.ensures in
    let w5 = put_on (drive_bytes k.drive3) 114 32 w4 (drive_long k.drive3) c.put_drive-4.ensures in
    record { buffer_after = core_written o _ k c.requires w5; sized = record { octets = sized; staging = stretch_long o 146 512 (omega (arith, c.requires)) } }
