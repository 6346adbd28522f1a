-- The staging block that is put first is the one that stays there.
use Rattle.layout.proofs.InPlace.{staging_put}
use Rattle.layout.specs.Read.{staging_of}
use mathlib.Core.Path.{ap, ◌∙◌}
use borrow.Author.Rules.{rules}
use Rattle.layout.proofs.write.write_record.Goals as goal

pub returns : goal.returns
returns c =
    let a = c.args in
    let put = staging_put a.buffer.now a.staging.now c.requires (search rules) in
    let e = ap staging_of c.put.ensures ∙ put in
    record { buffer_after = rw e at c.write_core.ensures.buffer_after; sized = rw e at c.write_core.ensures.sized }
