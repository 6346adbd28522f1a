-- What reaches a drive, and what it gave.
use Rattle.std.specs.Prelude.{ℕ, Bool, true, false, not, ◌&&◌, ◌||◌, List, [], ◌∷◌, eqb, Option, None, Some}
use Rattle.basis.specs.Choice.{pick}
use Rattle.rules.specs.declared.event.Act.{Act}
use Rattle.rules.specs.declared.event.Act.TheVariants.{Command, Give, Take, Online, Offline}
use Rattle.rules.specs.declared.event.Event.{Event}
use Rattle.rules.specs.declared.event.Event.TheVariants.{Reset, Named, Own}
use Rattle.rules.specs.declared.order.Order.{Order}
use Rattle.rules.specs.declared.order.Order.TheVariants.{Select, Bot, Erase, Initialize, Write, WriteMark, Read, ReadMark, ReadStatus}
use Rattle.rules.specs.declared.answer.Answer.{Answer}
use Rattle.rules.specs.declared.answer.Lines.{Lines}
use Rattle.rules.specs.declared.answer.Turn.{Turn}
use Rattle.rules.specs.Event.{event_of}
use Rattle.rules.specs.Answer.{row_of}
use Rattle.rules.specs.Order.{order_of}
use Rattle.rules.specs.Run.{World, after, turn_of}

-- A SELECT of drive d.
abbrev pub is_select_of : ℕ → Option Order → Bool
is_select_of d None = false
is_select_of d (Some (Select n)) = eqb n d
is_select_of d (Some Bot) = false
is_select_of d (Some Erase) = false
is_select_of d (Some Initialize) = false
is_select_of d (Some Write) = false
is_select_of d (Some WriteMark) = false
is_select_of d (Some Read) = false
is_select_of d (Some ReadMark) = false
is_select_of d (Some ReadStatus) = false

abbrev pub selects : ℕ → Act → Bool
selects d (Command c) = is_select_of d (order_of c)
selects d (Give b) = false
selects d Take = false
selects d Online = false
selects d Offline = false

-- An ONLINE change: a real change of the level; or, in the other reading, a level repeated too.
pub data Change : Type 0 where
  real_change : Change
  any_level : Change

abbrev pub changes : Change → Act → Bool → Bool
changes r (Command c) level = false
changes r (Give b) level = false
changes r Take level = false
changes real_change Online level = not level
changes real_change Offline level = level
changes any_level Online level = true
changes any_level Offline level = true

-- Answered 0 or 1; and accepted, which is answered 0.
abbrev pub answered : Answer → Bool
answered a = not (row_of a).refuses

abbrev pub accepted : Answer → Bool
accepted a = eqb (row_of a).number 0

-- Whether an event reaches drive d, by what was selected and the level before it, and by its answer.
-- An event that names a drive reaches that one alone;
-- an act reaches the drive it is for, and any drive whose level it changes or that it selects.
abbrev pub reaches_by : Change → ℕ → ℕ → Bool → Answer → Option Event → Bool
reaches_by r d selected level a None = eqb selected d
reaches_by r d selected level a (Some Reset) = true
reaches_by r d selected level a (Some (Named i w)) = eqb i d
reaches_by r d selected level a (Some (Own act)) =
    eqb selected d || ((answered a && changes r act level) || (accepted a && selects d act))

unfoldable pub reaches : Change → ℕ → World → List ℕ → Bool
reaches r d w e = reaches_by r d w.core.port.selected w.core.port.online (turn_of w e).answer (event_of e)

-- What the drive gave: lines and byte where it is selected after the event; the answer, but not of an ONLINE change while another drive is selected.
pub record Shown : Type 0 where
  pub lines : Lines
  pub byte : Option ℕ

pub record Gave : Type 0 where
  pub answer : Option Answer
  pub shown : Option Shown

abbrev pub is_level : Act → Bool
is_level (Command c) = false
is_level (Give b) = false
is_level Take = false
is_level Online = true
is_level Offline = true

abbrev pub compared_away : Option Event → Bool
compared_away None = true
compared_away (Some Reset) = true
compared_away (Some (Named i w)) = true
compared_away (Some (Own a)) = not (is_level a)

abbrev pub gave_by : ℕ → ℕ → Option Event → Turn → Gave
gave_by d selected e t =
    record {
      answer = pick (eqb selected d || compared_away e) (Some t.answer) None;
      shown = pick (eqb t.core.port.selected d) (Some (record { lines = t.lines; byte = t.byte })) None;
    }

unfoldable pub gave : ℕ → World → List ℕ → Gave
gave d w e = gave_by d w.core.port.selected (event_of e) (turn_of w e)

-- Over a run: the events that reach drive d, and what it gave at them.
abbrev pub only_if : {A : Type 0} → Bool → A → List A → List A
only_if true x l = x ∷ l
only_if false x l = l

abbrev pub reached : Change → ℕ → World → List (List ℕ) → List (List ℕ)
reached r d w [] = []
reached r d w (e ∷ es) = only_if (reaches r d w e) e (reached r d (after w e) es)

abbrev pub given : Change → ℕ → World → List (List ℕ) → List Gave
given r d w [] = []
given r d w (e ∷ es) = only_if (reaches r d w e) (gave d w e) (given r d (after w e) es)
