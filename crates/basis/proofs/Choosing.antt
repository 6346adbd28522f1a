-- Which branch a definition takes, and small laws of tests.
use mathlib.Core.Bool.{Bool, true, false, not, ◌&&◌, false≢true}
use mathlib.Core.Path.{◌≡◌, refl, sym}
use Prim.Native.Nat.{ℕ, min}
use native.Mathlib.Omega.{arith}
use lib.Dec.{ltb}
use borrow.Author.Tests.{ltb-true, ltb-false}
use Rattle.basis.specs.Choice.{pick}

pub elim_true : {A : Type 0} (b : Bool) (x y : A) → b ≡ true → (elim b [ true ↦ x | false ↦ y ]) ≡ x
elim_true true x y p = refl
elim_true false x y p = absurd (false≢true p)

pub elim_false : {A : Type 0} (b : Bool) (x y : A) → b ≡ false → (elim b [ true ↦ x | false ↦ y ]) ≡ y
elim_false true x y p = absurd (false≢true (sym p))
elim_false false x y p = refl

pub picked : {A : Type 0} (b : Bool) (x y : A) → b ≡ true → x ≡ pick b x y
unfolding pick
picked b x y e = rw (e) refl

pub passed : {A : Type 0} (b : Bool) (x y : A) → b ≡ false → y ≡ pick b x y
unfolding pick
passed b x y e = rw (e) refl

-- What holds of both holds of the one chosen.
pub choice_holds : {A : Type 0} (P : A → Type 0) (t : Bool) {x y : A} → P x → P y → P (pick t x y)
unfolding pick
choice_holds P true px py = px
choice_holds P false px py = py

-- The same, each where the test chooses it.
pub choice_by : {A : Type 0} (P : A → Type 0) (t : Bool) {x y : A} → (t ≡ true → P x) → (t ≡ false → P y) → P (pick t x y)
unfolding pick
choice_by P true px py = px refl
choice_by P false px py = py refl

-- Where two tests hold, each does; and where each does, both do.
pub both : (a b : Bool) → (a && b) ≡ true → (a ≡ true) × (b ≡ true)
both true b h = (refl, h)
both false b h = (cc, cc)

pub join : (a b : Bool) → a ≡ true → b ≡ true → (a && b) ≡ true
join a b p q = rw (p, q)

pub not_not : (b : Bool) → not b ≡ false → b ≡ true
not_not true h = refl
not_not false h = cc

-- The less of two numbers is the one that a test chooses.
pub min_is : (n m : ℕ) → min n m ≡ pick (ltb n m) n m
min_is n m =
    choice_by (λ (k : ℕ). min n m ≡ k) (ltb n m) (λ e. omega (arith, ltb-true n m e)) (λ e. omega (arith, ltb-false n m e))
