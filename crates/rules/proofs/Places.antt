-- One of four got after it was put: the drives and the tapes share these laws.
use Prim.Native.Nat.{ℕ, zero, suc, ◌≤◌}
use mathlib.Core.Path.{◌≡◌, refl}
use mathlib.Core.Bool.{Bool, true, false}
use mathlib.Core.List.{List}
use native.Mathlib.Omega.{arith}
use lib.Dec.{leb, eqb}
use borrow.Author.Tests.{eqb-true, eqb-false, ne_eqb, le-leb}
use Rattle.basis.specs.Choice.{pick}
use Rattle.basis.proofs.Choosing.{choice_holds}
use Rattle.rules.specs.declared.drive.Drive.{Drive}
use Rattle.rules.specs.declared.unit.Core.{Core}
use Rattle.rules.specs.Unit.{Lent, lent, one_of, put_at, put_last, drive_at, put_drive, tape_at, put_tape, put_staging}

-- The numbers of the four drives.
pub data Four : ℕ → Type 0 where
  first : Four 0
  second : Four 1
  third : Four 2
  fourth : Four 3

pub four : (n : ℕ) → n ≤ 3 → Four n
four zero h = first
four (suc zero) h = second
four (suc (suc zero)) h = third
four (suc (suc (suc zero))) h = fourth
four (suc (suc (suc (suc n)))) h = absurd (omega arith)

-- What was put is there.
pub put_same : {A : Type 0} (i : ℕ) (x a b c d : A) → one_of i (put_at 0 i x a) (put_at 1 i x b) (put_at 2 i x c) (put_last i x d) ≡ x
unfolding pick one_of put_at put_last
put_same {A} i x a b c d = go (eqb i 0) (eqb i 1) (eqb i 2) refl refl refl
  where
    go : (p q r : Bool) → eqb i 0 ≡ p → eqb i 1 ≡ q → eqb i 2 ≡ r
        → pick p (pick p x a) (pick q (pick q x b) (pick r (pick r x c) (pick (leb 3 i) x d))) ≡ x
    go true q r ep eq er = refl
    go false true r ep eq er = refl
    go false false true ep eq er = refl
    go false false false ep eq er = rw (le-leb 3 i (omega (arith, eqb-false i 0 ep, eqb-false i 1 eq, eqb-false i 2 er)))

-- What is there, put back, changes nothing.
pub put_back : {A B : Type 0} (f : A → A → A → A → B) (i : ℕ) (a b c d : A)
    → f (put_at 0 i (one_of i a b c d) a) (put_at 1 i (one_of i a b c d) b) (put_at 2 i (one_of i a b c d) c) (put_last i (one_of i a b c d) d) ≡ f a b c d
unfolding pick one_of put_at put_last
put_back f zero a b c d = refl
put_back f (suc zero) a b c d = refl
put_back f (suc (suc zero)) a b c d = refl
put_back f (suc (suc (suc n))) a b c d =
    let i = suc (suc (suc n)) in
    rw (ne_eqb i 0 (λ p. omega (arith, p)), ne_eqb i 1 (λ p. omega (arith, p)), ne_eqb i 2 (λ p. omega (arith, p)), le-leb 3 i (omega arith)) refl

pub tape_back : (l : Lent) (i : ℕ) → put_tape (put_staging l l.staging) i (tape_at l i) ≡ l
tape_back l i = put_back (lent l.staging) i l.tape0 l.tape1 l.tape2 l.tape3

-- A number that is none of 0, 1 and 2 means the last.
pub last_one : {A : Type 0} (i : ℕ) (x y z w : A) → (i ≡ 0 → ⊥) → (i ≡ 1 → ⊥) → (i ≡ 2 → ⊥) → one_of i x y z w ≡ w
unfolding one_of pick
last_one i x y z w p q r = rw (ne_eqb i 0 p, ne_eqb i 1 q, ne_eqb i 2 r) refl

pub last_tape : (l : Lent) (i : ℕ) (t : List ℕ) → (i ≡ 0 → ⊥) → (i ≡ 1 → ⊥) → (i ≡ 2 → ⊥)
    → put_tape l i t ≡ lent l.staging l.tape0 l.tape1 l.tape2 t
unfolding put_at put_last pick
last_tape l i t p q r = rw (ne_eqb i 0 p, ne_eqb i 1 q, ne_eqb i 2 r, le-leb 3 i (omega (arith, p, q, r))) refl

-- A drive changed where it stands in the core, by its number, is that drive put back: for any move of the record.
module _ (moved : Drive → Drive) (c : Core) (i : ℕ) (d : Drive) where
  pub first_lands : i ≡ 0 → d ≡ moved c.drive0
      → ◌≡◌ {A = Core} (record { port = c.port; drive0 = d; drive1 = c.drive1; drive2 = c.drive2; drive3 = c.drive3 }) (put_drive c c.port i (moved (drive_at c i)))
  unfolding pick one_of put_at put_last
  first_lands is e = rw (is, e)

  pub second_lands : i ≡ 1 → d ≡ moved c.drive1
      → ◌≡◌ {A = Core} (record { port = c.port; drive0 = c.drive0; drive1 = d; drive2 = c.drive2; drive3 = c.drive3 }) (put_drive c c.port i (moved (drive_at c i)))
  unfolding pick one_of put_at put_last
  second_lands is e = rw (is, e)

  pub third_lands : i ≡ 2 → d ≡ moved c.drive2
      → ◌≡◌ {A = Core} (record { port = c.port; drive0 = c.drive0; drive1 = c.drive1; drive2 = d; drive3 = c.drive3 }) (put_drive c c.port i (moved (drive_at c i)))
  unfolding pick one_of put_at put_last
  third_lands is e = rw (is, e)

  pub last_lands : (i ≡ 0 → ⊥) → (i ≡ 1 → ⊥) → (i ≡ 2 → ⊥) → d ≡ moved c.drive3
      → ◌≡◌ {A = Core} (record { port = c.port; drive0 = c.drive0; drive1 = c.drive1; drive2 = c.drive2; drive3 = d }) (put_drive c c.port i (moved (drive_at c i)))
  unfolding pick one_of put_at put_last
  last_lands p q r e = rw (ne_eqb i 0 p, ne_eqb i 1 q, ne_eqb i 2 r, le-leb 3 i (omega (arith, p, q, r)), e)

-- The other three are as they were.
pub put_other : {A : Type 0} {i j : ℕ} (x a b c d : A) → Four i → Four j → (i ≡ j → ⊥)
    → one_of j (put_at 0 i x a) (put_at 1 i x b) (put_at 2 i x c) (put_last i x d) ≡ one_of j a b c d
unfolding pick one_of put_at put_last
put_other x a b c d first first h = absurd (h refl)
put_other x a b c d first second h = refl
put_other x a b c d first third h = refl
put_other x a b c d first fourth h = refl
put_other x a b c d second first h = refl
put_other x a b c d second second h = absurd (h refl)
put_other x a b c d second third h = refl
put_other x a b c d second fourth h = refl
put_other x a b c d third first h = refl
put_other x a b c d third second h = refl
put_other x a b c d third third h = absurd (h refl)
put_other x a b c d third fourth h = refl
put_other x a b c d fourth first h = refl
put_other x a b c d fourth second h = refl
put_other x a b c d fourth third h = refl
put_other x a b c d fourth fourth h = absurd (h refl)

-- The same two, by an equation of the numbers and by their bounds.
pub put_there : {A : Type 0} (i n : ℕ) (x a b c d : A) → n ≡ i → one_of i (put_at 0 n x a) (put_at 1 n x b) (put_at 2 n x c) (put_last n x d) ≡ x
put_there i n x a b c d e = rw (e, put_same)

pub put_away : {A : Type 0} (i n : ℕ) (x a b c d : A) → i ≤ 3 → n ≤ 3 → (n ≡ i → ⊥)
    → one_of i (put_at 0 n x a) (put_at 1 n x b) (put_at 2 n x c) (put_last n x d) ≡ one_of i a b c d
put_away i n x a b c d hi hn e = put_other x a b c d (four n hn) (four i hi) e

-- What holds of each of four holds of the one got; and of each of four after one was put, if it holds of that one.
pub one_holds : {A : Type 0} (P : A → Type 0) {a b c d : A} → P a → P b → P c → P d → (j : ℕ) → P (one_of j a b c d)
unfolding pick one_of
one_holds P {a} {b} {c} {d} pa pb pc pd j = go (eqb j 0) (eqb j 1) (eqb j 2)
  where
    go : (p q r : Bool) → P (pick p a (pick q b (pick r c d)))
    go true q r = pa
    go false true r = pb
    go false false true = pc
    go false false false = pd

pub put_holds : {A : Type 0} (P : A → Type 0) {x a b c d : A} (i : ℕ) → P x → P a → P b → P c → P d → (j : ℕ)
    → P (one_of j (put_at 0 i x a) (put_at 1 i x b) (put_at 2 i x c) (put_last i x d))
unfolding put_at put_last
put_holds P i px pa pb pc pd j =
    one_holds P (choice_holds P (eqb i 0) px pa) (choice_holds P (eqb i 1) px pb) (choice_holds P (eqb i 2) px pc) (choice_holds P (leb 3 i) px pd) j

-- What holds of each one got holds of the four.
pub all_hold : {A : Type 0} (P : A → Type 0) (a b c d : A) → ((j : ℕ) → P (one_of j a b c d)) → P a × P b × P c × P d
unfolding pick one_of
all_hold P a b c d f = (f 0, f 1, f 2, f 3)

-- The one got at i after x was put at n: x, or what was there.
pub data Got {A : Type 0} (i n : ℕ) (x old : A) : A → Type 0 where
  same : n ≡ i → Got i n x old x
  other : (n ≡ i → ⊥) → Got i n x old old

pub got : {A : Type 0} (i n : ℕ) (x a b c d : A) → i ≤ 3 → n ≤ 3
    → Got i n x (one_of i a b c d) (one_of i (put_at 0 n x a) (put_at 1 n x b) (put_at 2 n x c) (put_last n x d))
got {A} i n x a b c d hi hn = go (eqb n i) refl
  where
    go : (t : Bool) → eqb n i ≡ t → Got i n x (one_of i a b c d) (one_of i (put_at 0 n x a) (put_at 1 n x b) (put_at 2 n x c) (put_last n x d))
    go true e = let q : n ≡ i = eqb-true n i e in rw (q, put_same) (same refl)
    go false e = let q = eqb-false n i e in rw (put_other x a b c d (four n hn) (four i hi) q) (other q)
