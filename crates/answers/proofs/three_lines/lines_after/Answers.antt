use mathlib.Core.Path.{◌≡◌, ap, ◌∙◌}
use mathlib.Core.Bool.{Bool, false}
use Rattle.basis.specs.Tests.{told}
use Rattle.basis.specs.Choice.{pick}
use Rattle.rules.specs.declared.answer.Lines.{Lines}
use Rattle.rules.specs.Lines.{lines_down}
use Rattle.answers.proofs.three_lines.lines_after.Goals as goal

abbrev lines : Bool → Bool → Bool → Lines
lines r e d = record { ready = r; exception = e; direction = d }

-- three lines that are down are the lines down
all_down : (l : Lines) → (l.ready ≡ false) × ((l.exception ≡ false) × (l.direction ≡ false)) → l ≡ lines_down
all_down l is =
    ap (λ (x : Bool). lines x l.exception l.direction) is.0
    ∙ ap (λ (x : Bool). lines false x l.direction) is.1.0
    ∙ ap (lines false false) is.1.1

pub returns-then-lines_down : goal.returns-then-lines_down
unfolding pick
returns-then-lines_down c = rw (told c.lines_down.ensures c.if-lines_down.true) (all_down _ c.default.ensures)

pub returns-else-lines_down : goal.returns-else-lines_down
unfolding pick
returns-else-lines_down c = rw (c.lines.ensures, told c.lines_down.ensures c.if-lines_down.false)
