-- What a buffer that is a record has.
use Prim.Native.Nat.{ℕ}
use mathlib.Core.Path.{◌≡◌}
use mathlib.Core.Bool.{true}
use mathlib.Core.List.{List}
use lib.ListN.{length}
use Rattle.basis.proofs.Choosing.{both}
use Rattle.layout.specs.Written.{record_size}
use Rattle.layout.proofs.Form.{record_long}
use Rattle.board.specs.Serve.{holds}

pub held_long : (l : List ℕ) → holds l ≡ true → length l ≡ record_size
unfolding holds
held_long l so = record_long l (both _ _ so).0
