-- Refused by the slot, or by 5 or 6; else the record of the drive named is changed.
use mathlib.Core.Bool.{Bool}
use Rattle.std.specs.Prelude.{None}
use mathlib.Core.Path.{ap, ap₂, ◌∙◌}
use Rattle.std.specs.Prelude.{Some}
use Rattle.basis.specs.Tests.{told}
use Rattle.rules.specs.declared.event.Event.TheVariants.{Named}
use Rattle.rules.specs.declared.answer.Turn.{Turn}
use Rattle.rules.specs.declared.unit.Core.{Core}
use Rattle.rules.specs.Step.{stepped, taken_turn}
use Rattle.answers.proofs.Settling.{refused_by, taken_by}
use Rattle.answers.proofs.slots.slot.Goals as goal

pub returns-then-refuses : goal.returns-then-refuses
returns-then-refuses c =
    let a = c.args in
    let answer = rw (c.slot_answer.ensures, c.look-loaded.ensures) at c.refusal_by-answer.ensures in
    λ l.
    ap (λ (x : Turn). stepped x l) c.refuse.ensures
    ∙ refused_by a.core a.sound.possible a.sound.short (Some (Named a.i a.what)) _ answer
    (told c.refuses.ensures c.if-refuses.true) l

pub returns : goal.returns
returns c =
    let a = c.args in
    let answer = rw (c.slot_answer.ensures, c.look-loaded.ensures) at c.refusal_by-answer.ensures in
    let left = ap₂ (λ (x : Bool) (y : Core). taken_turn x None y) c.is_out.ensures c.befall.ensures in
    λ l.
    ap (λ (x : Turn). stepped x l) (c.done.ensures ∙ left)
    ∙ taken_by a.core a.sound.possible a.sound.short (Some (Named a.i a.what)) _ answer
    (told c.refuses.ensures c.if-refuses.false) l
