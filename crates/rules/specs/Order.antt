-- Commands: the codes, what each order needs, and the tests, of which the first that fits decides.
use Rattle.std.specs.Prelude.{ℕ, ◌+◌, Bool, true, false, not, ◌&&◌, ◌||◌, leb, eqb, Result, Ok, Err, Option, None, Some}
use Rattle.basis.specs.Choice.{pick}
use Rattle.tape.specs.Record.{block_size}
use Rattle.rules.specs.declared.drive.Drive.{Drive}
use Rattle.rules.specs.declared.drive.Mode.{Mode}
use Rattle.rules.specs.declared.drive.Mode.TheVariants.{Idle, Writing, Reading}
use Rattle.rules.specs.declared.order.Order.{Order}
use Rattle.rules.specs.declared.order.Order.TheVariants.{Select, Bot, Erase, Initialize, Write, WriteMark, Read, ReadMark, ReadStatus}
use Rattle.rules.specs.declared.order.Needs.{Needs}
use Rattle.rules.specs.declared.order.Fault.{Fault}
use Rattle.rules.specs.declared.order.Fault.TheVariants.{Illegal, Empty, Plugged, Full}
use Rattle.rules.specs.Late.{kept_late}

-- The twelve codes, in decimal as they stand on the cable; every other octet is no order.
unfoldable pub order_of : ℕ → Option Order
order_of c =
    pick (eqb c 1) (Some (Select 0))
    (pick (eqb c 2) (Some (Select 1))
    (pick (eqb c 4) (Some (Select 2))
    (pick (eqb c 8) (Some (Select 3))
    (pick (eqb c 33) (Some Bot)
    (pick (eqb c 34) (Some Erase)
    (pick (eqb c 36) (Some Initialize)
    (pick (eqb c 64) (Some Write)
    (pick (eqb c 96) (Some WriteMark)
    (pick (eqb c 128) (Some Read)
    (pick (eqb c 160) (Some ReadMark)
    (pick (eqb c 192) (Some ReadStatus) None)))))))))))

-- The room that WRITE needs, 514: that of a late block. The room that a mark needs.
abbrev pub write_room : ℕ
write_room = block_size + kept_late

abbrev pub mark_room : ℕ
mark_room = 1

-- A row of needs. The columns: READ STATUS; Writing takes it; Reading takes it; ONLINE; a cartridge; an open plug; room.
abbrev pub needs : Bool → Bool → Bool → Bool → Bool → Bool → ℕ → Needs
needs s w r o c p n = record { status = s; writing = w; reading = r; online = o; cartridge = c; plug = p; room = n }

abbrev pub row_for : Order → Needs
row_for (Select n) = needs false false false false false false 0
row_for Bot = needs false false false false true false 0
row_for Erase = needs false false false false true true 0
row_for Initialize = needs false false false false true false 0
row_for Write = needs false false false true true true write_room
row_for WriteMark = needs false true false true true true mark_room
row_for Read = needs false false false true true false 0
row_for ReadMark = needs false false true true true false 0
row_for ReadStatus = needs true true true false false false 0

-- 1. EXCEPTION up, and not READ STATUS.
abbrev pub test1 : Drive → Needs → Bool
test1 d n = d.exception && not n.status

-- 2. Unknown code: it has no row.
abbrev pub needs_of : Option Order → Option Needs
needs_of None = None
needs_of (Some o) = Some (row_for o)

-- 3. Sequence. Idle takes all; Writing and Reading take what their column says.
abbrev pub in_sequence : Mode → Needs → Bool
in_sequence Idle n = true
in_sequence Writing n = n.writing
in_sequence Reading n = n.reading

abbrev pub test3 : Drive → Needs → Bool
test3 d n = not (in_sequence d.mode n)

-- 4. ONLINE low, for those that need it.
abbrev pub test4 : Bool → Needs → Bool
test4 online n = n.online && not online

-- 5. No cartridge.
abbrev pub test5 : Drive → Needs → Bool
test5 d n = n.cartridge && not d.loaded

-- 6. Protected.
abbrev pub test6 : Drive → Needs → Bool
test6 d n = n.plug && d.protected

-- 7. Room: head and the room asked for lie above the tape's length. Who asks for none is not tested.
abbrev pub has_room : ℕ → ℕ → ℕ → Bool
has_room room h length = eqb room 0 || leb (h + room) length

-- 1 to 4 are illegal: 2 by `fault_by`, the others here.
unfoldable pub illegal : Bool → Drive → Needs → Bool
illegal online d n = test1 d n || (test3 d n || test4 online n)

-- The first that fits decides; `Ok tt` where none does.
abbrev pub first_fault : Bool → Bool → Bool → Bool → Result (Unit {0}) Fault
first_fault ill empty plugged room = pick ill (Err Illegal) (pick empty (Err Empty) (pick plugged (Err Plugged) (pick room (Ok tt) (Err Full))))

unfoldable pub fault_by : Bool → Drive → ℕ → Option Needs → Result (Unit {0}) Fault
fault_by online d length None = Err Illegal
fault_by online d length (Some n) = first_fault (illegal online d n) (test5 d n) (test6 d n) (has_room n.room d.head length)
