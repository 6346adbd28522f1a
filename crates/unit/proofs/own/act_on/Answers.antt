-- Refused, or staged, acted and put back: what each call ensures comes to the book's act.
use Rattle.unit.proofs.Settling.{own_lands, own_refused}
use Rattle.unit.specs.Own.{own_turn}
use Rattle.rules.specs.declared.answer.Turn.{Turn}
use mathlib.Core.Path.{ap, ◌∙◌}
use Rattle.basis.specs.Tests.{told}
use Rattle.unit.proofs.own.act_on.Goals as goal

pub returns-then-refuses : goal.returns-then-refuses
returns-then-refuses c =
    let a = c.args in
    let answer = rw (c.unless.ensures, c.in_step-fits.ensures, c.reads.ensures, c.writes.ensures) at
    c.refusal_by-answer.ensures in
    ap (λ (x : Turn). own_turn x a.staging.now a.tape.now) c.refuse.ensures
    ∙ own_refused a.core a.sound.possible a.sound.short a.drive a.staging.now a.tape.now a.a _ answer
    (told c.refuses.ensures c.if-refuses.true)

pub shape_of-staging : goal.shape_of-staging
shape_of-staging c =
    c.stage.auto.staging

pub returns : goal.returns
returns c =
    let a = c.args in
    let answer = rw (
      c.unless.ensures,
      c.in_step-fits.ensures,
      c.reads.ensures,
      c.writes.ensures,
    ) at c.refusal_by-answer.ensures in
    own_lands a.core a.sound.possible a.sound.short a.drive a.staging.now a.tape.now a.a _ answer _ c.act-moved.result _ _ _
    c.done.ensures c.put-whole.ensures c.act-moved.ensures c.stage.ensures
    (told c.refuses.ensures c.if-refuses.false)
