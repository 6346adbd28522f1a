use Rattle.rules.specs.Bytes.{staged_byte}
use Rattle.basis.proofs.Choosing.{min_is}
use Rattle.port.proofs.given.put.Goals as goal

pub returns : goal.returns
unfolding staged_byte
returns c = rw (c.min.ensures, min_is c.args.n 511)
