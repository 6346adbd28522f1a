-- A byte or an octet that moves the phase alone, then each sort of event as the book settles it.
use native.Mathlib.Omega.{arith}
use mathlib.Core.Path.{ap, ◌∙◌, sym}
use Rattle.std.specs.Prelude.{None, Some}
use Rattle.rules.specs.declared.event.Event.TheVariants.{Reset}
use Rattle.rules.specs.declared.answer.Turn.{Turn}
use Rattle.unit.specs.Tapes.{lent_on}
use Rattle.rules.specs.Unit.{one_of, put_at, put_last}
use Rattle.rules.specs.Refusal.{short}
use Rattle.rules.specs.Step.{stepped}
use Rattle.basis.specs.Tests.{told}
use Rattle.answers.specs.declared.looks.Seen.{Seen}
use Rattle.basis.specs.Choice.{pick}
use Rattle.unit.proofs.InBlock.{calm_by, given_steps, taken_steps, octet_steps}
use Rattle.unit.proofs.Settling.{steps_by, own_at_lem, own_last}
use Rattle.answers.proofs.Settling.{none_refused}
use Rattle.unit.proofs.steps.step_lent.Goals as goal

pub returns-then-look-clause-step : goal.returns-then-look-clause-step
unfolding short
returns-then-look-clause-step c =
    let a = c.args in
    let l = lent_on a.staging.now a.tapes.now in
    let calm = calm_by a.core l c.sound_of-sound.ensures.possible c.sound_of-sound.ensures.short (told c.calm.ensures c.if-calm.true) in
    given_steps a.core l a.event.now _ calm _ _ _ (sym c.given_place.ensures.value ∙ c.in-Some.is)
    (ap (λ (x : Seen). x.writes) (sym c.look.ensures) ∙ c.if-look.true) c.moved_on.ensures c.stage.ensures

pub returns-in-Some-next_of-clause-step : goal.returns-in-Some-next_of-clause-step
unfolding short
returns-in-Some-next_of-clause-step c =
    let a = c.args in
    let l = lent_on a.staging.now a.tapes.now in
    let calm = calm_by a.core l c.sound_of-sound.ensures.possible c.sound_of-sound.ensures.short (told c.calm.ensures c.if-calm.true) in
    taken_steps a.core l a.event.now _ calm _ _ (sym c.taken_place.ensures.value ∙ c.in-Some-taken_place.is)
    (rw (c.drive-drive.ensures, c.of.ensures) at (sym c.next_of.ensures ∙ c.in-Some-next_of.is)) c.moved_on-in-Some-next_of.ensures

pub returns-in-Some-octets_left-clause-step : goal.returns-in-Some-octets_left-clause-step
unfolding short
returns-in-Some-octets_left-clause-step c =
    let a = c.args in
    let l = lent_on a.staging.now a.tapes.now in
    let calm = calm_by a.core l c.sound_of-sound.ensures.possible c.sound_of-sound.ensures.short (told c.calm.ensures c.if-calm.true) in
    octet_steps a.core l a.event.now _ calm _ _ _ (sym c.octets_left.ensures ∙ c.in-Some-octets_left.is) c.done.ensures
    c.next_octet.ensures (rw c.after_octet.ensures at c.moved_to-after.ensures)

pub returns-in-0-clause-step : goal.returns-in-0-clause-step
unfolding short one_of put_at put_last pick
returns-in-0-clause-step c =
    let a = c.args in
    let l = lent_on a.staging.now a.tapes.now in
    steps_by a.core l a.event.now _ _ _ _ _ _ c.event_of.ensures (c.in-Some-Own.is ∙ ap Some c.in-Some-Own.field-0-is) c.sound_of-sound.ensures.possible
    c.sound_of-sound.ensures.short (own_at_lem a.core _ _ l _ _ _ _ 0 c.in-0.is c.act_on.ensures)

pub returns-in-1-clause-step : goal.returns-in-1-clause-step
unfolding short one_of put_at put_last pick
returns-in-1-clause-step c =
    let a = c.args in
    let l = lent_on a.staging.now a.tapes.now in
    steps_by a.core l a.event.now _ _ _ _ _ _ c.event_of.ensures (c.in-Some-Own.is ∙ ap Some c.in-Some-Own.field-0-is) c.sound_of-sound.ensures.possible
    c.sound_of-sound.ensures.short (own_at_lem a.core _ _ l _ _ _ _ 1 c.in-1.is c.act_on-in-1.ensures)

pub returns-in-2-clause-step : goal.returns-in-2-clause-step
unfolding short one_of put_at put_last pick
returns-in-2-clause-step c =
    let a = c.args in
    let l = lent_on a.staging.now a.tapes.now in
    steps_by a.core l a.event.now _ _ _ _ _ _ c.event_of.ensures (c.in-Some-Own.is ∙ ap Some c.in-Some-Own.field-0-is) c.sound_of-sound.ensures.possible
    c.sound_of-sound.ensures.short (own_at_lem a.core _ _ l _ _ _ _ 2 c.in-2.is c.act_on-in-2.ensures)

pub returns-in-None-clause-step : goal.returns-in-None-clause-step
unfolding short
returns-in-None-clause-step c =
    let a = c.args in
    let l = lent_on a.staging.now a.tapes.now in
    steps_by a.core l a.event.now _ l _ None _ _ c.event_of.ensures c.in-None.is
    c.sound_of-sound.ensures.possible c.sound_of-sound.ensures.short
    (ap (λ (x : Turn). stepped x l) c.refuse.ensures ∙ none_refused a.core _ _ _ c.refusal_by.ensures l)

pub returns-in-Some-Reset-clause-step : goal.returns-in-Some-Reset-clause-step
unfolding short
returns-in-Some-Reset-clause-step c =
    let a = c.args in
    let l = lent_on a.staging.now a.tapes.now in
    steps_by a.core l a.event.now _ l _ (Some Reset) _ _ c.event_of.ensures (c.in-Some-Reset.is ∙ ap Some c.in-Some-Reset.field-0-is) c.sound_of-sound.ensures.possible
    c.sound_of-sound.ensures.short (c.reset.ensures l)

pub returns-in-Some-Named-clause-step : goal.returns-in-Some-Named-clause-step
unfolding short
returns-in-Some-Named-clause-step c =
    let a = c.args in
    let l = lent_on a.staging.now a.tapes.now in
    steps_by a.core l a.event.now _ l _ _ _ _ c.event_of.ensures (c.in-Some-Named.is ∙ ap Some c.in-Some-Named.field-0-is) c.sound_of-sound.ensures.possible
    c.sound_of-sound.ensures.short (c.slot.ensures l)

pub returns-in_default-selected-clause-step : goal.returns-in_default-selected-clause-step
unfolding short
returns-in_default-selected-clause-step c =
    let a = c.args in
    let l = lent_on a.staging.now a.tapes.now in
    steps_by a.core l a.event.now _ _ _ _ _ _ c.event_of.ensures (c.in-Some-Own.is ∙ ap Some c.in-Some-Own.field-0-is) c.sound_of-sound.ensures.possible
    c.sound_of-sound.ensures.short (own_last a.core _ _ l _ _ _ _ (λ e. omega (arith, e)) (λ e. omega (arith, e)) (λ e. omega (arith, e))
    c.act_on-in_default-selected.ensures)
