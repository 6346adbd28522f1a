-- Many data bytes in one call: one event after the other, up to and with the first that is not answered 0.
use Rattle.std.specs.Prelude.{ℕ, ◌+◌, ◌≡◌, Bool, true, false, not, List, [], ◌∷◌, length, eqb, None, is_some}
use Rattle.basis.specs.Choice.{pick}
use Rattle.basis.specs.Placed.{placed}
use Rattle.rules.specs.declared.unit.Core.{Core}
use Rattle.rules.specs.declared.answer.Turn.{Turn}
use Rattle.rules.specs.Unit.{Lent}
use Rattle.rules.specs.Answer.{row_of}
use Rattle.rules.specs.Step.{taken_turn}
use Rattle.rules.specs.Run.{World, world, after, run, turn_of, turns, given_each, taken_times}
use Rattle.rules.specs.Ran.{Ran}
use Rattle.rules.specs.Promises.Strike.{handed_out}
use Rattle.unit.specs.declared.many.Handed.{Handed}

-- ---- The run

-- Answered 0.
abbrev pub is_zero : Turn → Bool
is_zero r = eqb (row_of r.answer).number 0

-- The events of a list that are run.
abbrev pub up_to : World → List (List ℕ) → List (List ℕ)
up_to w [] = []
up_to w (e ∷ es) = e ∷ (elim (is_zero (turn_of w e)) [ true ↦ up_to (after w e) es | false ↦ [] ])

-- What each of them was answered.
abbrev pub turns_up_to : World → List (List ℕ) → List Turn
turns_up_to w es = turns w (up_to w es)

-- ---- What is told of it

-- A byte given went over where its event was not refused, a byte taken where one was handed out.
abbrev pub went_in : Turn → Bool
went_in r = not (row_of r.answer).refuses

abbrev pub went_out : Turn → Bool
went_out r = is_some r.byte

-- How many went over.
abbrev pub count_of : (Turn → Bool) → List Turn → ℕ
count_of went [] = 0
count_of went (r ∷ rs) = pick (went r) 1 0 + count_of went rs

-- The last turn of a list, or r where there is none.
abbrev pub last_of : Turn → List Turn → Turn
last_of r [] = r
last_of r (t ∷ ts) = last_of t ts

-- Where no event is run: answer 0, no byte, the lines as the record has them.
abbrev pub no_event : Core → Turn
no_event c = taken_turn false None c

-- How many went over, the last turn, and what was lent as it is left.
pub record Over : Type 0 where
  pub count : ℕ
  pub last : Turn
  pub lent : Lent

abbrev pub over : Handed → Lent → Over
over r l = record { count = r.count; last = r.last; lent = l }

unfoldable pub handover : (Turn → Bool) → World → List (List ℕ) → Over
handover went w es =
    record { count = count_of went (turns_up_to w es); last = last_of (no_event w.core) (turns_up_to w es); lent = (run w (up_to w es)).lent }

-- ---- The contracts

-- Bytes given.
abbrev pub GivesOver : Core → Lent → List ℕ → Handed → Lent → Type 0
GivesOver c l bytes r l' = over r l' ≡ handover went_in (world c l) (given_each bytes)

-- Bytes taken: those handed out stand at the front of the buffer, and the rest of it stays.
pub record Took : Type 0 where
  pub over : Over
  pub out : List ℕ

abbrev pub took : Over → List ℕ → Took
took o out = record { over = o; out = out }

unfoldable pub taken_over : World → List ℕ → Took
taken_over w out = took (handover went_out w (taken_times (length out))) (placed out 0 (handed_out (turns_up_to w (taken_times (length out)))))

abbrev pub TakesOver : Core → Lent → List ℕ → Handed → Lent → List ℕ → Type 0
TakesOver c l out r l' out' = took (over r l') out' ≡ taken_over (world c l) out

-- ---- For who builds on it

-- A call is a run of the step over the events that it ran: what is proved of runs is proved of calls.
abbrev pub HandoverRan : Type 0
HandoverRan =
    (went : Turn → Bool) (w : World) (es : List (List ℕ)) (r : Handed) (l' : Lent) → over r l' ≡ handover went w es
    → Ran w (up_to w es) (turns_up_to w es) (world r.last.core l')

-- Where every event is answered 0, all of them are run.
abbrev pub AllRun : Type 0
AllRun = (w : World) (es : List (List ℕ)) → is_zero (last_of (no_event w.core) (turns_up_to w es)) ≡ true → up_to w es ≡ es
