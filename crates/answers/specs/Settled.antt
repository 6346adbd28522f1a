-- An event settled where it is known whether the record is possible and whether the four tapes are short.
use Rattle.std.specs.Prelude.{◌≡◌, Bool, Option}
use Rattle.rules.specs.declared.unit.Core.{Core}
use Rattle.rules.specs.declared.event.Event.{Event}
use Rattle.rules.specs.declared.answer.Turn.{Turn}
use Rattle.rules.specs.Unit.{Lent}
use Rattle.rules.specs.Refusal.{refusal_in, refusal_by}
use Rattle.rules.specs.Step.{Stepped, stepped, settled}

-- The book's step then.
abbrev pub settled_by : Core → Bool → Bool → Lent → Option Event → Stepped
settled_by c possible short l e = settled c l e (refusal_by possible short (refusal_in c e))

-- A turn that settles an event which changes nothing of what is lent.
abbrev pub Settles : Core → Bool → Bool → Option Event → Turn → Type 0
Settles c possible short e r = (l : Lent) → stepped r l ≡ settled_by c possible short l e
