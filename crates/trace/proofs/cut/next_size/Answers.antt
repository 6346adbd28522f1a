use mathlib.Core.Path.{◌≡◌, refl, ◌∙◌}
use mathlib.Core.Bool.{Bool, true, false}
use Rattle.std.specs.Prelude.{Some, None}
use Rattle.std.specs.Bool.{then_some}
use Rattle.basis.specs.Choice.{pick}
use Rattle.trace.specs.Cut.{next_size}
use Rattle.trace.proofs.cut.next_size.Goals as goal

-- some of it where the test holds
chosen : {A : Type 0} (b : Bool) (x : A) → then_some b x ≡ pick b (Some x) None
unfolding pick
chosen true x = refl
chosen false x = refl

pub returns-in-Ok : goal.returns-in-Ok
unfolding next_size
returns-in-Ok c = rw (← c.in-Ok.ensures)

pub returns-in-Err-UnknownKind : goal.returns-in-Err-UnknownKind
unfolding next_size
returns-in-Err-UnknownKind c = rw (← c.next_event.ensures, c.in-Err-UnknownKind.is, c.in-Err-UnknownKind.field-0-is)

pub returns-in-Err-CutOff : goal.returns-in-Err-CutOff
unfolding next_size
returns-in-Err-CutOff c =
    rw (← c.next_event.ensures, c.in-Err-CutOff.is, c.in-Err-CutOff.field-0-is) (c.then_some.ensures ∙ chosen _ _)

pub returns-in-Err-NoneLeft : goal.returns-in-Err-NoneLeft
unfolding next_size
returns-in-Err-NoneLeft c = rw (← c.next_event.ensures, c.in-Err-NoneLeft.is, c.in-Err-NoneLeft.field-0-is)
