-- Each field of the port is read where the layout has it.
use borrow.Author.Rules.{rules}
use mathlib.Core.Path.{◌∙◌}
use Rattle.layout.specs.Read.{port_of}
use Rattle.layout.proofs.Parts.{octets_read}
use Rattle.layout.proofs.read.port_of.Goals as goal

pub returns : goal.returns
unfolding port_of
returns c =
    let octets = c.part.ensures ∙ octets_read c.args.p.now (search rules) in
    rw (octets, c.phase_of.ensures, c.phase_number.ensures)
