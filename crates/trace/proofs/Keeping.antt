-- What a test of both bounds told of a piece of a buffer.
use Prim.Native.Nat.{ℕ, ◌≤◌}
use mathlib.Core.Bool.{true, ◌&&◌}
use mathlib.Core.Path.{◌≡◌}
use lib.Dec.{leb}
use borrow.Author.Tests.{leb-true}
use Rattle.basis.proofs.Choosing.{both}

pub both_bounds : (from to n : ℕ) → (leb from to && leb to n) ≡ true → (from ≤ to) × (to ≤ n)
both_bounds from to n p =
    let q = both (leb from to) (leb to n) p in (leb-true from to q.0, leb-true to n q.1)
