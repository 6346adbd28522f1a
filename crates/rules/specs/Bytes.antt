-- Bytes given by the host and bytes taken by it.
use Rattle.std.specs.Prelude.{ℕ, ◌+◌, ◌-◌, true, false, List, length, get_or, set, ltb, leb, Result}
use Rattle.basis.specs.Choice.{pick}
use Rattle.tape.specs.declared.found.Kind.{Kind}
use Rattle.tape.specs.declared.found.Why.{Why}
use Rattle.tape.specs.Record.{found_at, body_size, block_size}
use Rattle.rules.specs.declared.drive.Drive.{Drive}
use Rattle.rules.specs.declared.drive.Bit.TheVariants.{Eom}
use Rattle.rules.specs.declared.unit.Port.{Port}
use Rattle.rules.specs.declared.phase.Phase.{Phase}
use Rattle.rules.specs.declared.phase.Phase.TheVariants.{Rest, Taking, Giving, Status}
use Rattle.rules.specs.declared.order.Checked.{Checked}
use Rattle.rules.specs.Drive.{stopping, made, passed_to}
use Rattle.rules.specs.Late.{block_room, one_less, goes_on}
use Rattle.rules.specs.Phase.{last_place, report_size}
use Rattle.rules.specs.Unit.{at_phase}
use Rattle.rules.specs.Edge.{is_block, halted, spoilt, checked}
use Rattle.rules.specs.Effect.{Seat, Acted, leaves, hands, with_block, resting}

-- The place of the next byte: as many as came before it, and never past the last.
abbrev pub place_of : ℕ → ℕ
place_of n = pick (ltb n last_place) n last_place

unfoldable pub staged_byte : ℕ → ℕ → List ℕ → List ℕ
staged_byte n b g = set g (place_of n) b

-- After recording in a WRITE that still allowed `late` blocks: EOM, unless it goes on.
unfoldable pub after_block : ℕ → Port → Drive → List ℕ → Acted
after_block late p d t = pick (goes_on late d.head (length t)) (leaves false p d t) (leaves true p (stopping Eom d) t)

-- The block g is whole: it is recorded, or dropped with EOM where it has no room.
unfoldable pub stored : List ℕ → Port → Drive → List ℕ → Acted
stored g p d t =
    pick (block_room d.late d.head (length t))
    (after_block d.late p (one_less (made (d.head + block_size) d)) (with_block g d t))
    (leaves true p (stopping Eom d) t)

-- A byte given where n were given before, and g is the staging block with the byte in it. No tape byte changes before the 512th.
abbrev pub byte_given : List ℕ → Seat → ℕ → Acted
byte_given g s n =
    pick (ltb n last_place)
    (leaves false (at_phase (Taking (n + 1)) s.port) s.drive s.tape)
    (stored g (resting s) s.drive s.tape)

-- The last byte of a block comes with what the edge check behind the block found. Every byte is read off the tape itself.
abbrev pub last_handed : Seat → Checked → Acted
last_handed s c = hands c.raised (get_or s.tape (s.drive.head + body_size) 0) (resting s) c.drive s.tape

unfoldable pub handed : Seat → ℕ → Acted
handed s n =
    pick (ltb n last_place)
    (hands false (get_or s.tape (s.drive.head + 1 + n) 0) (at_phase (Giving (n + 1)) s.port) s.drive s.tape)
    (last_handed s (checked s.tape (passed_to (s.drive.head + block_size) s.drive)))

-- At Rest the edge check is repeated first.
abbrev pub first_taken : Seat → Checked → Acted
first_taken s c = pick c.raised (leaves true (resting s) c.drive s.tape) (handed s 0)

-- In the middle of a block the record is looked at anew: where it is no whole block any more, it is a bad one.
abbrev pub next_taken : Seat → ℕ → Result Kind Why → Acted
next_taken s n f = pick (is_block f) (handed s n) (leaves true (resting s) (halted (spoilt f) s.drive) s.tape)

-- The place of the next octet where k are outstanding, and the phase after it.
abbrev pub octet_place : ℕ → ℕ
octet_place k = pick (leb k 1) (report_size - 1) (pick (leb k report_size) (report_size - k) 0)

abbrev pub after_octet : ℕ → Phase
after_octet k = pick (leb k 1) Rest (Status (k - 1))

-- In Status the next octet; after the sixth, Rest.
unfoldable pub octet_taken : Seat → ℕ → Acted
octet_taken s k = hands false (get_or s.port.octets (octet_place k) 0) (at_phase (after_octet k) s.port) s.drive s.tape

abbrev pub byte_taken : Seat → Phase → Acted
byte_taken s Rest = first_taken s (checked s.tape s.drive)
byte_taken s (Taking n) = leaves false s.port s.drive s.tape
byte_taken s (Giving n) = next_taken s n (found_at s.tape s.drive.head)
byte_taken s (Status k) = octet_taken s k
