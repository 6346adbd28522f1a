-- State: the phase, which of the four it is and how far it has come.
use Rattle.std.specs.Prelude.{ℕ, Bool, true, false}
use Rattle.rules.specs.declared.phase.Phase.{Phase}
use Rattle.rules.specs.declared.phase.Phase.TheVariants.{Rest, Taking, Giving, Status}

-- The last place of a block, counted from 0; the octets of a report.
abbrev pub last_place : ℕ
last_place = 511

abbrev pub report_size : ℕ
report_size = 6

abbrev pub at_rest : Phase → Bool
at_rest Rest = true
at_rest (Taking n) = false
at_rest (Giving n) = false
at_rest (Status k) = false

abbrev pub is_status : Phase → Bool
is_status Rest = false
is_status (Taking n) = false
is_status (Giving n) = false
is_status (Status k) = true

abbrev pub rest_or_status : Phase → Bool
rest_or_status Rest = true
rest_or_status (Taking n) = false
rest_or_status (Giving n) = false
rest_or_status (Status k) = true

-- How many bytes of a block were given before, or taken; how many octets are outstanding. Each is 0 where there is none.
abbrev pub given_before : Phase → ℕ
given_before Rest = 0
given_before (Taking n) = n
given_before (Giving n) = 0
given_before (Status k) = 0

abbrev pub taken_before : Phase → ℕ
taken_before Rest = 0
taken_before (Taking n) = 0
taken_before (Giving n) = n
taken_before (Status k) = 0

abbrev pub outstanding : Phase → ℕ
outstanding Rest = 0
outstanding (Taking n) = 0
outstanding (Giving n) = 0
outstanding (Status k) = k

-- The four in their order, and the number that each has: of bytes so far, of octets outstanding, 0 at Rest.
abbrev pub which_phase : Phase → ℕ
which_phase Rest = 0
which_phase (Taking n) = 1
which_phase (Giving n) = 2
which_phase (Status k) = 3

abbrev pub how_far : Phase → ℕ
how_far Rest = 0
how_far (Taking n) = n
how_far (Giving n) = n
how_far (Status k) = k
