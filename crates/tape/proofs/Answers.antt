-- What an answer to an order to record says, and that each public contract leaves one outcome.
use Prim.Native.Nat.{ℕ, ◌+◌}
use mathlib.Core.Path.{◌≡◌, refl, sym, ap}
use mathlib.Core.List.{List}
use mathlib.Core.Bool.{Bool, true, false}
use native.Mathlib.Omega.{arith}
use lib.ListN.{length}
use lib.Dec.{leb}
use borrow.Author.Tests.{leb-true, leb-false}
use Rattle.std.specs.Prelude.{Option, Some, None}
use Rattle.basis.specs.Choice.{pick}
use Rattle.basis.specs.Tests.{same}
use Rattle.tape.specs.Recording.{Written, written, written_at, recorded}
use Rattle.tape.specs.Laws.{WasMade, NotMade, NextMeans, NoRoomMeans}
use Rattle.tape.specs.Outcomes.{OneOutcome}

next_at : Option ℕ → ℕ
next_at (Some n) = n
next_at None = 0

clash : (n : ℕ) → Some n ≡ None → ⊥
clash n e = let z : ◌≡◌ {A = ℕ} 0 1 = cc in omega arith

pub next_means : NextMeans
unfolding pick written_at next_at
next_means t h n spare rec next t' e = go (leb (h + (n + spare)) (length t)) refl e
  where
    go : (b : Bool) → leb (h + (n + spare)) (length t) ≡ b
        → written (Some next) t' ≡ pick b (written (Some (h + n)) (recorded t h rec)) (written None t) → WasMade t h n spare rec next t'
    go true r q = record { room = leb-true _ _ r; next_is = ap (λ (w : Written). next_at w.made) q; tape_is = ap (λ (w : Written). w.tape) q }
    go false r q = absurd (clash next (ap (λ (w : Written). w.made) q))

pub no_room_means : NoRoomMeans
unfolding pick written_at
no_room_means t h n spare rec t' e = go (leb (h + (n + spare)) (length t)) refl e
  where
    go : (b : Bool) → leb (h + (n + spare)) (length t) ≡ b
        → written None t' ≡ pick b (written (Some (h + n)) (recorded t h rec)) (written None t) → NotMade t h n spare t'
    go true r q = absurd (clash (h + n) (sym (ap (λ (w : Written). w.made) q)))
    go false r q = record { full = leb-false _ _ r; tape_is = ap (λ (w : Written). w.tape) q }

same_written : {x : Written} {r r' : Option ℕ} {t' t'' : List ℕ} → written r t' ≡ x → written r' t'' ≡ x → (r ≡ r') × (t' ≡ t'')
same_written p q = let e = same p q in (ap (λ (w : Written). w.made) e, ap (λ (w : Written). w.tape) e)

pub one_outcome : OneOutcome
one_outcome =
    record {
      found_at = λ t h r r' p q. same p q;
      has_room = λ h n l r r' p q. same p q;
      record_mark = λ t h r r' t' t'' p q. same_written p q;
      record_block = λ t h body spare r r' t' t'' p q. same_written p q;
      pass_marks = λ t h n r r' p q. same p q;
      pass_to_mark = λ t h r r' p q. same p q;
      erase = λ t t' t'' p q. same p q;
    }
