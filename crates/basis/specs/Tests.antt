-- What proofs of code cite of tests and of equations.
use Rattle.std.specs.Prelude.{◌≡◌}
use Rattle.std.proofs.Common.{sym, ◌∙◌, rules, lt-ltb, le-ltb, le-leb, eq-eqb, ne_eqb}
use Rattle.std.proofs.lemmas.Bool.{lt-leb}

-- The rules that close a chain of tests on numbers.
pub ruleset tests = (rules, lt-ltb, le-ltb, le-leb, lt-leb, eq-eqb, ne_eqb)

-- What a call ensures of its result, and what a test says of that result, is what the definition is there.
pub told : {A : Type 0} {x y z : A} → x ≡ y → x ≡ z → y ≡ z
told p q = sym p ∙ q

-- Two outcomes that are each the same as a third are the same.
pub same : {A : Type 0} {x r r' : A} → r ≡ x → r' ≡ x → r ≡ r'
same p q = p ∙ sym q
