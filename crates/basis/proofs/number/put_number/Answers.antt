use Prim.Native.Nat.{◌%◌, ◌-◌, ◌/◌, ℕ}
use Rattle.basis.proofs.Digits.{below_ten, decimal_last, decimal_more, one_more, ten_or_more}
use Rattle.basis.proofs.Placing.{placed_sets, sets_snoc}
use Rattle.basis.specs.Text.{decimal, digit}
use lib.ListN.{length}
use lib.Seq.{sets}
use mathlib.Core.List.{List}
use mathlib.Core.Path.{◌∙◌, ◌≡◌, ap, refl, sym}
use native.Mathlib.Omega.{arith}
use Rattle.basis.proofs.number.put_number.Goals as goal

pub loop-i-init : goal.loop-i-init
loop-i-init c = (c.requires.0, refl)

pub loop-i-preserved : goal.loop-i-preserved
loop-i-preserved c =
    let l = c.loop-i in
    let a = c.args in
    let t = ten_or_more l.rest (omega (arith, l.invariant.0, c.loop-i-test.true)) in
    let e : l.i - 1 ≡ length (decimal (l.rest / 10)) = omega (arith, l.invariant.0, one_more l.rest t) in (
      e,
      rw (c.digit.ensures, e)
          (sets_snoc (decimal (l.rest / 10)) l.out a.at (digit (l.rest % 10))
          ∙ ap (λ (x : List ℕ). sets l.out a.at x) (sym (decimal_more l.rest t)) ∙ l.invariant.1),
    )

pub overflow_cast-rest-2 : goal.overflow_cast-rest-2
overflow_cast-rest-2 c = let l = c.loop-i in omega (arith, below_ten l.rest (omega (arith, l.invariant.0, c.loop-i-test.false)))

pub digit-requires-2 : goal.digit-requires-2
digit-requires-2 c = let l = c.loop-i in omega (arith, below_ten l.rest (omega (arith, l.invariant.0, c.loop-i-test.false)))

pub bounds-out-at-2 : goal.bounds-out-at-2
bounds-out-at-2 c =
    let l = c.loop-i in
    let b = below_ten l.rest (omega (arith, l.invariant.0, c.loop-i-test.false)) in
    omega (arith, ap length (decimal_last l.rest b), l.invariant.0)

pub returns : goal.returns
returns c =
    let l = c.loop-i in
    let a = c.args in
    let b = below_ten l.rest (omega (arith, l.invariant.0, c.loop-i-test.false)) in
    rw c.digit-2.ensures (ap (λ (x : List ℕ). sets l.out a.at x) (sym (decimal_last l.rest b)) ∙ l.invariant.1
    ∙ sym (placed_sets a.out.now a.at (decimal a.n) (omega arith)))
