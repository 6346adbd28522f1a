-- The copy is the stretch that begins at the offset.
use Rattle.layout.proofs.Parts.{part_copied}
use mathlib.Core.Path.{refl}
use Rattle.layout.proofs.read.part.Goals as goal

pub returns : goal.returns
returns g c =
    let a = c.args in
    part_copied a.buffer.now a.at _ _ _ refl c.copy_from_slice.ensures.after
