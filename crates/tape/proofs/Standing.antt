-- What stands at an offset: the cases of `Stands` and `found_at` say the same.
use Prim.Native.Nat.{ℕ, ◌+◌, ◌≤◌}
use mathlib.Core.Path.{◌≡◌, refl, subst}
use mathlib.Core.List.{List}
use mathlib.Core.Bool.{Bool, true, false}
use native.Mathlib.Omega.{arith}
use lib.ListN.{length, get_or}
use lib.Dec.{ltb, leb, eqb}
use borrow.Author.Tests.{ltb-true, ltb-false, leb-true, leb-false, eqb-true, eqb-false, lt-ltb, le-ltb, le-leb, lt-leb, eq-eqb, ne_eqb}
use Rattle.std.specs.Prelude.{Ok, Err}
use Rattle.tape.specs.declared.found.Kind.TheVariants.{Block, Mark}
use Rattle.tape.specs.declared.found.Why.TheVariants.{End, Unknown, Bad}
use Rattle.basis.specs.Choice.{pick}
use Rattle.tape.specs.Record.{of_kind, found_at}
use Rattle.tape.specs.Laws.{Stands, whole_block, one_mark, one_end, tape_end, other_kind, cut_block, off_tape, CaseFound, FoundCase, UnknownKind, UnknownFound, FoundUnknown, BlockFits, MarkFits}

pub case_found : CaseFound
unfolding pick found_at of_kind
case_found t h f (whole_block b k) = simp (lt-ltb h (length t) (omega (arith, b)), k, le-leb _ _ b)
case_found t h f (one_mark b k) = simp (lt-ltb _ _ b, k)
case_found t h f (one_end b k) = simp (lt-ltb _ _ b, k)
case_found t h f (tape_end e) = simp (le-ltb h (length t) (omega (arith, e)), eq-eqb _ _ e)
case_found t h f (other_kind b k0 k1 k2) = simp (lt-ltb _ _ b, ne_eqb _ _ k0, ne_eqb _ _ k1, ne_eqb _ _ k2)
case_found t h f (cut_block b s k) = simp (lt-ltb _ _ b, k, lt-leb _ _ s)
case_found t h f (off_tape b) = simp (le-ltb h (length t) (omega (arith, b)), ne_eqb h (length t) (λ e. omega (arith, e, b)))

stands : (t : List ℕ) (h : ℕ) → Stands t h (found_at t h)
unfolding pick found_at of_kind
stands t h = go _ _ _ _ _ _ refl refl refl refl refl refl
  where
    go : (b k0 k1 w k2 o : Bool) → ltb h (length t) ≡ b → eqb (get_or t h 0) 0 ≡ k0 → eqb (get_or t h 0) 1 ≡ k1
        → leb (h + 513) (length t) ≡ w → eqb (get_or t h 0) 2 ≡ k2 → eqb h (length t) ≡ o
        → Stands t h (pick b (pick k0 (Err End) (pick k1 (pick w (Ok Block) (Err Bad)) (pick k2 (Ok Mark) (Err Unknown)))) (pick o (Err End) (Err Bad)))
    go true true k1 w k2 o eb e0 e1 ew e2 eo = one_end (ltb-true _ _ eb) (eqb-true _ _ e0)
    go true false true true k2 o eb e0 e1 ew e2 eo = whole_block (leb-true _ _ ew) (eqb-true _ _ e1)
    go true false true false k2 o eb e0 e1 ew e2 eo = cut_block (ltb-true _ _ eb) (leb-false _ _ ew) (eqb-true _ _ e1)
    go true false false w true o eb e0 e1 ew e2 eo = one_mark (ltb-true _ _ eb) (eqb-true _ _ e2)
    go true false false w false o eb e0 e1 ew e2 eo = other_kind (ltb-true _ _ eb) (eqb-false _ _ e0) (eqb-false _ _ e1) (eqb-false _ _ e2)
    go false k0 k1 w k2 true eb e0 e1 ew e2 eo = tape_end (eqb-true _ _ eo)
    go false k0 k1 w k2 false eb e0 e1 ew e2 eo =
        off_tape (let l : length t ≤ h = ltb-false _ _ eb in omega (arith, eqb-false h (length t) eo))

pub found_case : FoundCase
found_case t h f e = subst (Stands t h) e (stands t h)

pub unknown_found : UnknownFound
unknown_found t h u =
    let k = u.kind in
    case_found t h (Err Unknown) (other_kind u.there (λ e. omega (arith, k, e)) (λ e. omega (arith, k, e)) (λ e. omega (arith, k, e)))

pub found_unknown : FoundUnknown
found_unknown t h e = go (found_case t h (Err Unknown) e)
  where
    go : Stands t h (Err Unknown) → UnknownKind t h
    go (other_kind b k0 k1 k2) = record { there = b; kind = omega (arith, k0, k1, k2) }

pub block_fits : BlockFits
block_fits t h e = go (found_case t h (Ok Block) e)
  where
    go : Stands t h (Ok Block) → h + 513 ≤ length t
    go (whole_block b k) = b

pub mark_fits : MarkFits
mark_fits t h e = go (found_case t h (Ok Mark) e)
  where
    go : Stands t h (Ok Mark) → h + 1 ≤ length t
    go (one_mark b k) = omega (arith, b)
