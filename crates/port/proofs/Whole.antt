-- Where the edge check raises nothing, a whole block stands at the head.
use Prim.Native.Nat.{ℕ, ◌+◌, ◌≤◌}
use mathlib.Core.Path.{◌≡◌, refl}
use mathlib.Core.Bool.{Bool, true, false, not}
use mathlib.Core.List.{List}
use lib.ListN.{length}
use Rattle.std.specs.Prelude.{Result, Ok, Err}
use Rattle.tape.specs.declared.found.Kind.{Kind}
use Rattle.tape.specs.declared.found.Kind.TheVariants.{Block, Mark}
use Rattle.tape.specs.declared.found.Why.{Why}
use Rattle.tape.specs.Record.{found_at, block_size}
use Rattle.tape.proofs.Standing.{block_fits}
use Rattle.rules.specs.declared.drive.Drive.{Drive}
use Rattle.rules.specs.Edge.{is_block, checked}

pub is_block_lem : (f : Result Kind Why) → is_block f ≡ true → f ≡ Ok Block
is_block_lem (Ok Block) e = refl
is_block_lem (Ok Mark) e = cc
is_block_lem (Err w) e = cc

pub whole : (t : List ℕ) (h : ℕ) → is_block (found_at t h) ≡ true → h + block_size ≤ length t
whole t h e = block_fits t h (is_block_lem (found_at t h) e)

not_false : (b : Bool) → not b ≡ false → b ≡ true
not_false true e = refl
not_false false e = cc

pub unraised : (t : List ℕ) (d : Drive) → (checked t d).raised ≡ false → d.head + block_size ≤ length t
unfolding checked
unraised t d e = whole t d.head (not_false (is_block (found_at t d.head)) e)
