-- A choice between two values by a test: shut, so that a proof opens it by name where a branch is taken.
use Rattle.std.specs.Prelude.{Bool, true, false}

unfoldable pub pick : {A : Type 0} → Bool → A → A → A
pick true a b = a
pick false a b = b
