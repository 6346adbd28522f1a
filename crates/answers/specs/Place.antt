-- A byte within a block, and an octet of a report, by the bytes of the event and the phase.
use Rattle.std.specs.Prelude.{ℕ, Bool, ◌&&◌, List, length, get_or, ltb, eqb, Option}
use Rattle.std.specs.Bool.{then_some}
use Rattle.basis.specs.Choice.{pick}
use Rattle.rules.specs.declared.phase.Phase.{Phase}
use Rattle.rules.specs.Phase.{last_place, given_before, taken_before, outstanding}

-- A place within a block: after its first byte, and before the last one.
abbrev pub within : ℕ → Bool
within n = ltb 0 n && ltb n last_place

-- A byte given, event 02 with a body; a byte taken, event 03 without one.
abbrev pub is_given : List ℕ → Bool
is_given l = eqb (length l) 2 && eqb (get_or l 0 0) 2

abbrev pub is_taken : List ℕ → Bool
is_taken l = eqb (length l) 1 && eqb (get_or l 0 0) 3

-- The place within a block of a byte given, and the byte; the place of a byte taken; the octets outstanding then.
abbrev pub given_place : Phase → List ℕ → Option (ℕ × ℕ)
given_place ph l = then_some (is_given l && within (given_before ph)) (given_before ph, get_or l 1 0)

abbrev pub taken_place : Phase → List ℕ → Option ℕ
taken_place ph l = then_some (is_taken l && within (taken_before ph)) (taken_before ph)

abbrev pub octets_left : Phase → List ℕ → Option ℕ
octets_left ph l = then_some (is_taken l && ltb 0 (outstanding ph)) (outstanding ph)

-- The byte that comes with an event of two bytes.
unfoldable pub body_of : List ℕ → ℕ
body_of l = pick (eqb (length l) 2) (get_or l 1 0) 0
