-- The room that a block asks for, as a test and in numbers; and the late blocks that a WRITE allows.
use Prim.Native.Nat.{ℕ, ◌+◌, ◌-◌, ◌≤◌, ◌<◌}
use mathlib.Core.Path.{◌≡◌, refl, sym, ap, ◌∙◌}
use mathlib.Core.Bool.{Bool, true, false, not, true≢false}
use native.Mathlib.Omega.{arith}
use lib.Dec.{leb, eqb}
use borrow.Author.Tests.{leb-true, le-leb, lt-leb, eqb-true, eq-eqb}
use Rattle.basis.specs.Choice.{pick}
use Rattle.basis.proofs.Choosing.{both, choice_holds}
use Rattle.rules.specs.declared.drive.Drive.{Drive}
use Rattle.rules.specs.declared.drive.Mode.{Mode}
use Rattle.rules.specs.declared.drive.Mode.TheVariants.{Idle, Writing, Reading}
use Rattle.rules.specs.Drive.{is_writing, allowing}
use Rattle.rules.specs.Late.{spare_of, block_room, allowed_at, one_less, goes_on}
use Rattle.rules.specs.Refusal.{late_fits}
use Rattle.rules.specs.Promises.Changes.{block_asks}

-- a block and what is kept behind it
pub asks_is : (late : ℕ) → block_asks late ≡ 513 + spare_of late
unfolding pick
asks_is late = go (eqb late 0)
  where
    go : (b : Bool) → pick b 1541 514 ≡ 513 + pick b 1028 1
    go true = refl
    go false = refl

pub room_asked_lem : (late h n : ℕ) → block_room late h n ≡ true → h + block_asks late ≤ n
room_asked_lem late h n e = rw (asks_is late) (leb-true _ _ e)

pub asked_room : (late h n : ℕ) → h + block_asks late ≤ n → block_room late h n ≡ true
asked_room late h n r = le-leb (h + (513 + spare_of late)) n (rw (asks_is late) at r)

-- a block, and a byte behind it
asks_more : (late : ℕ) → 514 ≤ block_asks late
asks_more late = choice_holds (λ (n : ℕ). 514 ≤ n) (eqb late 0) (omega arith) (omega arith)

pub room_behind : (late h n : ℕ) → h + block_asks late ≤ n → h + 514 ≤ n
room_behind late h n r = omega (arith, r, asks_more late)

-- WRITE with the room of other blocks is no late one; without it, it is
pub none_late : (h n : ℕ) → h + 1541 ≤ n → allowed_at h n ≡ 0
unfolding pick allowed_at
none_late h n r = rw (le-leb (h + 1541) n r)

pub two_late : (h n : ℕ) → n < h + 1541 → allowed_at h n ≡ 2
unfolding pick allowed_at
two_late h n r = rw (lt-leb (h + 1541) n r)

pub allowed_fits : (h n : ℕ) → leb (allowed_at h n) 2 ≡ true
unfolding allowed_at
allowed_fits h n = choice_holds (λ (k : ℕ). leb k 2 ≡ true) (block_room 0 h n) refl refl

-- one less is possible where so many are; where there are none it is none
pub less_fits : (m : Mode) (late : ℕ) → late_fits m late ≡ true → late_fits m (late - 1) ≡ true
less_fits Idle late e = eq-eqb (late - 1) 0 (omega (arith, eqb-true late 0 e))
less_fits Writing late e = le-leb (late - 1) 2 (omega (arith, leb-true late 2 e))
less_fits Reading late e = eq-eqb (late - 1) 0 (omega (arith, eqb-true late 0 e))

pub none_less : (d : Drive) → d.late ≡ 0 → one_less d ≡ d
none_less d e =
    let z : d.late - 1 ≡ d.late = omega (arith, e) in ap (λ (n : ℕ). allowing n d) z

-- outside Writing there are none
pub none_outside : (m : Mode) (late : ℕ) → is_writing m ≡ false → late_fits m late ≡ true → late ≡ 0
none_outside Idle late e h = eqb-true late 0 h
none_outside Writing late e h = cc
none_outside Reading late e h = eqb-true late 0 h

-- the last late block ends the WRITE
pub not_last : (late h n : ℕ) → goes_on late h n ≡ true → late ≡ 1 → ⊥
unfolding goes_on
not_last late h n g e = true≢false (sym (both (not (eqb late 1)) (block_room late h n) g).0 ∙ ap not (eq-eqb late 1 e))

-- what is kept behind a block is never more than 1028 bytes
pub spare_small : (late : ℕ) → spare_of late ≤ 1028
spare_small late = choice_holds (λ (n : ℕ). n ≤ 1028) (eqb late 0) (omega arith) (omega arith)
