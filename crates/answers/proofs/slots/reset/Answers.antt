-- Refused by 5 or 6 alone, else every drive reset.
use mathlib.Core.Bool.{true}
use Rattle.std.specs.Prelude.{None}
use mathlib.Core.Path.{ap, ◌∙◌}
use Rattle.std.specs.Prelude.{Some}
use Rattle.basis.specs.Tests.{told}
use Rattle.rules.specs.declared.event.Event.TheVariants.{Reset}
use Rattle.rules.specs.declared.answer.Turn.{Turn}
use Rattle.rules.specs.declared.unit.Core.{Core}
use Rattle.rules.specs.Step.{stepped, taken_turn}
use Rattle.answers.proofs.Settling.{refused_by, taken_by}
use Rattle.answers.proofs.slots.reset.Goals as goal

pub returns-then-refuses : goal.returns-then-refuses
returns-then-refuses c =
    let a = c.args in
    λ l.
    ap (λ (x : Turn). stepped x l) c.refuse.ensures
    ∙ refused_by a.core a.sound.possible a.sound.short (Some Reset) _ c.refusal_by-answer.ensures
    (told c.refuses.ensures c.if-refuses.true) l

pub returns : goal.returns
returns c =
    let a = c.args in
    λ l.
    ap (λ (x : Turn). stepped x l) (c.done.ensures ∙ ap (λ (x : Core). taken_turn true None x) c.reset.ensures)
    ∙ taken_by a.core a.sound.possible a.sound.short (Some Reset) _ c.refusal_by-answer.ensures
    (told c.refuses.ensures c.if-refuses.false) l
