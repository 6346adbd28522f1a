-- The selected drive by its number; one that is none of 0, 1 and 2 means the last.
use Rattle.rules.proofs.Places.{last_one}
use Rattle.rules.specs.Unit.{one_of}
use Rattle.rules.specs.Refusal.{possible_phase}
use Rattle.rules.specs.declared.drive.Drive.{Drive}
use Rattle.basis.specs.Choice.{pick}
use mathlib.Core.Path.{ap, sym, ◌∙◌}
use native.Mathlib.Omega.{arith}
use Rattle.answers.proofs.possibility.possible_place.Goals as goal

pub returns-in-0 : goal.returns-in-0
unfolding one_of pick
returns-in-0 c = rw (c.possible_at.ensures, c.in-0.is)

pub returns-in-1 : goal.returns-in-1
unfolding one_of pick
returns-in-1 c = rw (c.possible_at-in-1.ensures, c.in-1.is)

pub returns-in-2 : goal.returns-in-2
unfolding one_of pick
returns-in-2 c = rw (c.possible_at-in-2.ensures, c.in-2.is)

pub returns-in_default : goal.returns-in_default
returns-in_default c =
    let a = c.args in
    c.possible_at-in_default.ensures
    ∙ ap (λ (d : Drive). possible_phase a.core.port.phase d.mode)
    (sym (last_one a.core.port.selected _ _ _ _ (λ e. omega (arith, e)) (λ e. omega (arith, e)) (λ e. omega (arith, e))))
