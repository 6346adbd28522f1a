use Rattle.basis.specs.Choice.{pick}
use Rattle.std.specs.List.{copy_within}
use Rattle.trace.proofs.Keeping.{both_bounds}
use Rattle.trace.specs.Rest.{moved_front, rest, rest_of}
use lib.ListN.{length}
use mathlib.Core.List.{List}
use mathlib.Core.Path.{◌∙◌, ◌≡◌, ap, refl}
use Prim.Native.Nat.{◌-◌, ℕ}
use native.Mathlib.Nat.{zero-add}
use native.Mathlib.Omega.{arith}
use Rattle.trace.proofs.rest.keep_rest.Goals as goal

-- what is copied to the front is what is kept there
kept : (b : List ℕ) (from to : ℕ) → copy_within b from to 0 ≡ moved_front b from (to - from)
unfolding moved_front
kept b from to = rw (zero-add (to - from)) refl

pub returns-then-from-to : goal.returns-then-from-to
unfolding rest_of pick
returns-then-from-to c =
    let a = c.args in
    let h = both_bounds a.from a.to (length a.buffer.now) c.if-from-to.true in
    record {
      is =
          rw c.if-from-to.true (ap (λ (l : List ℕ). rest (a.to - a.from) l)
          (c.copy_within.ensures.after ∙ kept a.buffer.now a.from a.to));
      inside = omega arith;
    }

pub returns : goal.returns
unfolding rest_of pick
returns c = record { is = rw c.if-from-to.false; inside = omega arith }
