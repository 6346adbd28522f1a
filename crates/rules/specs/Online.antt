-- ONLINE raised and dropped.
use Rattle.std.specs.Prelude.{ℕ, ◌+◌, Bool, true, false, List, length, leb}
use Rattle.basis.specs.Choice.{pick}
use Rattle.rules.specs.declared.drive.Mode.{Mode}
use Rattle.rules.specs.declared.drive.Mode.TheVariants.{Idle, Writing, Reading}
use Rattle.rules.specs.declared.drive.Bit.TheVariants.{Eom}
use Rattle.rules.specs.Drive.{rewound, stopping, in_mode}
use Rattle.rules.specs.Unit.{at_level}
use Rattle.rules.specs.Order.{mark_room}
use Rattle.rules.specs.Effect.{Seat, Acted, leaves, with_mark}

-- Only the level changes. The line is low, or high, at Rest.
abbrev pub levelled : Bool → Seat → Acted
levelled level s = leaves false (at_level level s.port) s.drive s.tape

-- Idle, head 0.
abbrev pub left_alone : Seat → List ℕ → Acted
left_alone s t = leaves false (at_level false s.port) (rewound (in_mode Idle s.drive)) t

-- A loaded drive without EXCEPTION goes home, and one that was Writing leaves a mark first; where that has no room it stops with EOM.
abbrev pub leaving : Seat → Mode → Acted
leaving s Idle = left_alone s s.tape
leaving s Writing =
    pick (leb (s.drive.head + mark_room) (length s.tape))
    (left_alone s (with_mark s.drive s.tape))
    (leaves true (at_level false s.port) (stopping Eom s.drive) s.tape)
leaving s Reading = left_alone s s.tape

-- With EXCEPTION up: Idle. With neither cartridge nor EXCEPTION only the level falls. A level repeated changes nothing.
unfoldable pub dropped : Seat → Acted
dropped s =
    pick s.port.online
    (pick s.drive.exception
    (leaves false (at_level false s.port) (in_mode Idle s.drive) s.tape)
    (pick s.drive.loaded (leaving s s.drive.mode) (levelled false s)))
    (levelled false s)
