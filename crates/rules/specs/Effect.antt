-- Effects of the orders, on what the selected drive sees and on nothing else.
use Rattle.std.specs.Prelude.{ℕ, ◌+◌, Bool, true, false, List, length, Result, Ok, Err, Option, None, Some}
use Rattle.tape.specs.Record.{mark_size, mark_record, block_record}
use Rattle.tape.specs.Recording.{recorded, erased}
use Rattle.tape.specs.Walk.{passed}
use Rattle.rules.specs.declared.drive.Drive.{Drive}
use Rattle.rules.specs.declared.drive.Mode.TheVariants.{Idle, Reading}
use Rattle.rules.specs.declared.drive.Bit.TheVariants.{Cni, Eom, Ill}
use Rattle.rules.specs.declared.unit.Port.{Port}
use Rattle.rules.specs.declared.phase.Phase.TheVariants.{Rest}
use Rattle.rules.specs.declared.unit.Moved.{Moved}
use Rattle.rules.specs.declared.order.Order.{Order}
use Rattle.rules.specs.declared.order.Order.TheVariants.{Select, Bot, Erase, Initialize, Write, WriteMark, Read, ReadMark, ReadStatus}
use Rattle.rules.specs.declared.order.Fault.{Fault}
use Rattle.rules.specs.declared.order.Fault.TheVariants.{Illegal, Empty, Plugged, Full}
use Rattle.rules.specs.Drive.{rewound, chosen, raised, latching, stopping, in_mode, made, cleared}
use Rattle.rules.specs.Late.{begun}
use Rattle.rules.specs.Unit.{at_phase, at_drive, showing}
use Rattle.rules.specs.Order.{needs_of, fault_by}
use Rattle.rules.specs.Edge.{checked, standing}
use Rattle.rules.specs.Octets.{octets_of}

-- What the selected drive sees: the port, its own record, its own tape.
pub record Seat : Type 0 where
  pub port : Port
  pub drive : Drive
  pub tape : List ℕ

abbrev pub seat : Port → Drive → List ℕ → Seat
seat p d t = record { port = p; drive = d; tape = t }

-- What an act leaves: of port and record, with its answer to the host, and of the tape.
pub record Acted : Type 0 where
  pub moved : Moved
  pub tape : List ℕ

abbrev pub acted : Moved → List ℕ → Acted
acted m t = record { moved = m; tape = t }

-- Without a byte, and with one; `r` says that a rule raised EXCEPTION.
abbrev pub leaves : Bool → Port → Drive → List ℕ → Acted
leaves r p d t = acted (record { raised = r; byte = None; port = p; drive = d }) t

abbrev pub hands : Bool → ℕ → Port → Drive → List ℕ → Acted
hands r b p d t = acted (record { raised = r; byte = Some b; port = p; drive = d }) t

-- The tape with a mark, or with the block g, recorded where the head stands.
abbrev pub with_mark : Drive → List ℕ → List ℕ
with_mark d t = recorded t d.head mark_record

abbrev pub with_block : List ℕ → Drive → List ℕ → List ℕ
with_block g d t = recorded t d.head (block_record g)

-- A command is taken at Rest, so Rest is the phase that stays.
abbrev pub resting : Seat → Port
resting s = at_phase Rest s.port

-- What each order does once it has passed the tests: whether it raises EXCEPTION, and what it leaves of port, record and tape.
abbrev pub ordered : Seat → Option Order → Acted
ordered s None = leaves false (resting s) s.drive s.tape
ordered s (Some (Select n)) = leaves false (at_drive n s.port) (chosen s.drive) s.tape
ordered s (Some Bot) = leaves false (resting s) (rewound s.drive) s.tape
ordered s (Some Erase) = leaves false (resting s) (rewound s.drive) (erased s.tape)
ordered s (Some Initialize) = leaves false (resting s) (rewound s.drive) s.tape
ordered s (Some Write) = leaves false (resting s) (begun (length s.tape) s.drive) s.tape
ordered s (Some WriteMark) =
    leaves false (resting s) (in_mode Idle (made (s.drive.head + mark_size) s.drive)) (with_mark s.drive s.tape)
ordered s (Some Read) =
    leaves (checked s.tape (in_mode Reading s.drive)).raised (resting s) (checked s.tape (in_mode Reading s.drive)).drive s.tape
ordered s (Some ReadMark) = leaves true (resting s) (standing (passed s.tape s.drive.head) s.drive) s.tape
ordered s (Some ReadStatus) = leaves false (showing (octets_of s.drive) s.port) (cleared s.drive) s.tape

-- The test that fits an order in a seat.
unfoldable pub fault_of : Seat → Option Order → Result (Unit {0}) Fault
fault_of s o = fault_by s.port.online s.drive (length s.tape) (needs_of o)

-- 1 to 4 latch ILL, 5 CNI, 6 raises EXCEPTION alone, 7 latches EOM and makes the mode Idle. All leave head and tape.
abbrev pub commanded : Seat → Option Order → Result (Unit {0}) Fault → Acted
commanded s o (Ok u) = ordered s o
commanded s o (Err Illegal) = leaves true (resting s) (latching Ill s.drive) s.tape
commanded s o (Err Empty) = leaves true (resting s) (latching Cni s.drive) s.tape
commanded s o (Err Plugged) = leaves true (resting s) (raised s.drive) s.tape
commanded s o (Err Full) = leaves true (resting s) (stopping Eom s.drive) s.tape
