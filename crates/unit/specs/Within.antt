-- A byte within a block, and an octet of a report: nothing of the record changes but the phase.
use Rattle.std.specs.Prelude.{ℕ, ◌+◌, ◌≡◌, true, false, ◌&&◌, List, get_or, Some, Option, None, is_some, option_map, option_and_then}
use Rattle.basis.specs.Choice.{pick}
use Rattle.tape.specs.Record.{found_at}
use Rattle.rules.specs.declared.drive.Drive.{Drive}
use Rattle.rules.specs.declared.phase.Phase.{Phase}
use Rattle.rules.specs.declared.unit.Core.{Core}
use Rattle.rules.specs.declared.phase.Phase.TheVariants.{Taking, Giving}
use Rattle.rules.specs.declared.event.Act.{Act}
use Rattle.rules.specs.declared.event.Act.TheVariants.{Give, Take}
use Rattle.rules.specs.declared.event.Event.TheVariants.{Own}
use Rattle.rules.specs.Drive.{writes, reads}
use Rattle.rules.specs.Unit.{Lent, drive_at, tape_at, at_phase, moved_to}
use Rattle.rules.specs.Refusal.{possible, short, in_step_at}
use Rattle.rules.specs.Edge.{is_block}
use Rattle.rules.specs.Effect.{acted}
use Rattle.rules.specs.Step.{act, seat_of, staged_in, stepped, taken_turn, Steps}
use Rattle.answers.specs.Moved.{moved_on}
use Rattle.answers.specs.Place.{given_place, taken_place}
use Rattle.answers.specs.Settled.{settled_by}
use Rattle.unit.specs.declared.within.Inside.{Inside}

-- Byte n of the whole block at the head of a drive that gives data, if there is one.
unfoldable pub next_of : Drive → List ℕ → ℕ → Option ℕ
next_of d t n =
    pick (reads d) (pick (is_block (found_at t d.head)) (Some (get_or t (d.head + 1 + n) 0)) None) None

-- What an event comes to that is a byte within a block: the act, the phase after it, and the byte that it hands out.
abbrev pub in_block : Act → Phase → Option ℕ → Inside
in_block a ph byte = record { act = a; phase = ph; byte = byte }

-- Given to a drive that writes, place and byte; or taken from one that has a byte there.
abbrev pub given_inside : ℕ × ℕ → Inside
given_inside p = in_block (Give p.1) (Taking (p.0 + 1)) None

abbrev pub taken_inside : ℕ → ℕ → Inside
taken_inside n b = in_block Take (Giving (n + 1)) (Some b)

abbrev pub next_inside : Drive → List ℕ → ℕ → Option Inside
next_inside d t n = option_map (taken_inside n) (next_of d t n)

unfoldable pub inside_of : Phase → Drive → List ℕ → List ℕ → Option Inside
inside_of ph d t event =
    pick (is_some (given_place ph event) && writes d) (option_map given_inside (given_place ph event))
    (option_and_then (next_inside d t) (taken_place ph event))

-- IT IS THE BOOK'S STEP in a possible record with short tapes, with a byte given in the staging block.
abbrev pub InsideSteps : Type 0
InsideSteps =
    (c : Core) (l : Lent) (event : List ℕ) (i : Inside) → (possible c && short l) ≡ true
    → inside_of c.port.phase (drive_at c c.port.selected) (tape_at l c.port.selected) event ≡ Some i
    → Steps c l event (moved_on c i.phase i.byte (is_some i.byte)) (staged_in c i.act l)

-- AN ACT THAT MOVES THE PHASE ALONE, in a possible record with short tapes, is settled by the turn that says so:
-- the law of all that is looked for first.
abbrev pub PhaseMoves : Type 0
PhaseMoves =
    (c : Core) (l : Lent) (a : Act) (ph : Phase) (b : Option ℕ)
    → in_step_at c.port.phase (seat_of c l).drive a ≡ true
    → act (staged_in c a l).staging (seat_of c l) a
    ≡ acted (record { raised = false; byte = b; port = at_phase ph c.port; drive = (seat_of c l).drive }) (seat_of c l).tape
    → stepped (taken_turn false b (moved_to c ph)) (staged_in c a l) ≡ settled_by c true true l (Some (Own a))
