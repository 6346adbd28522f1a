-- The array has what the calls made, byte for byte as the port is laid out.
use Rattle.layout.proofs.Parts.{six}
use Rattle.layout.specs.Written.{port_bytes}
use borrow.Author.Rules.{rules}
use Rattle.layout.proofs.write.port_bytes.Goals as goal

pub returns : goal.returns
unfolding port_bytes
returns c =
    rw (c.flag.ensures, c.phase_bytes-p.ensures, six c.args.port.octets (search rules))
