-- Each bit is the book's, in its place.
use Rattle.rules.specs.Octets.{octets_of}
use Rattle.report.proofs.made.octets.Goals as goal

pub returns : goal.returns
unfolding octets_of
returns c =
    rw (c.low-2.ensures, c.high-2.ensures, c.low.ensures, c.high.ensures)
    (rw (c.bit-st0.ensures.0, c.bit-cni.ensures.0, c.bit-usl.ensures.0, c.bit-wrp.ensures.0)
    (rw (c.bit-eom.ensures.0, c.bit-uda_ude.ensures.0, c.bit-bnl.ensures.0, c.bit-fil.ensures.0)
    (rw (c.bit-st1.ensures.0, c.bit-ill.ensures.0, c.bit-ndt.ensures.0, c.bit-mbd.ensures.0)
    (rw (c.bit-bom.ensures.0, c.bit-res_bpe.ensures.0, c.bit-res_erm.ensures.0, c.bit-por.ensures.0)))))
