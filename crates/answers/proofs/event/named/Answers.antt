use mathlib.Core.Path.{◌≡◌, refl, ◌∙◌}
use mathlib.Core.Bool.{Bool, true, false}
use Rattle.std.specs.Prelude.{None, Some}
use Rattle.std.specs.Bool.{then_some}
use Rattle.basis.specs.Choice.{pick}
use Rattle.answers.proofs.event.named.Goals as goal

chosen : {A : Type 0} (b : Bool) (x : A) → then_some b x ≡ pick b (Some x) None
unfolding pick
chosen true x = refl
chosen false x = refl

pub returns : goal.returns
returns c = c.then_some.ensures ∙ chosen _ _
