-- Late blocks: the 512th byte in a late WRITE; what keeps their number, what takes it away, and which numbers cannot be.
use Rattle.std.specs.Prelude.{ℕ, false, List, [], ◌∷◌, ◌++◌}
use Rattle.rules.specs.declared.drive.Drive.{Drive}
use Rattle.rules.specs.declared.drive.Mode.TheVariants.{Idle, Writing, Reading}
use Rattle.rules.specs.declared.phase.Phase.TheVariants.{Rest, Taking, Status}
use Rattle.rules.specs.declared.answer.Lines.{Lines}
use Rattle.rules.specs.Promises.Events.{joined, give, fetch, rise, fall, pull, error}
use Rattle.rules.specs.Promises.Sentences.Form.{says, hands, R, E, O, Case, row}
use Rattle.rules.specs.Promises.Sentences.Scene.{up, low, none, cni, eom, fil, ill, also, record_of, quiet, loud, allows, late, loud_late, ramp, odd, lead}
use Rattle.rules.specs.Promises.Sentences.Scene.{scene, gone, free}
use Rattle.rules.specs.Promises.Sentences.State.{resets}
use Rattle.rules.specs.Promises.Sentences.Refusals.{on_each, just_on_each}
use Rattle.rules.specs.Promises.Sentences.Orders.{told, stops, reports}
use Rattle.rules.specs.Promises.Sentences.Bytes.{writer, with_block}
use Rattle.rules.specs.Promises.Sentences.Line.{falls}
use Rattle.rules.specs.Promises.Sentences.Slots.{here, away}

-- The 512th byte at head 5 in a WRITE that still allows n late blocks, on a tape of so many bytes.
abbrev pub late_given : ℕ → ℕ → ℕ → Lines → Drive → List ℕ → Case
late_given n size a l d t =
    row (scene up (Taking 511) (late n 5) (ramp size 7)) (give 99) (says a l) (writer Rest (ramp 511 1 ++ (99 ∷ [])) d t)

abbrev pub late_storing : List Case
late_storing =
    -- head + 514 > L: EOM, nothing recorded
    late_given 2 518 1 E (loud free 5 Idle eom) (ramp 518 7)
    ∷ late_given 1 518 1 E (loud free 5 Idle eom) (ramp 518 7)
    -- recorded, and EOM since the next would fail the same test
    ∷ late_given 2 519 1 E (loud free 518 Idle eom) (with_block 0)
    ∷ late_given 2 1031 1 E (loud free 518 Idle eom) (with_block 512)
    -- recorded, and one more may come
    ∷ late_given 2 1032 0 R (late 1 518) (with_block 513)
    -- the second ends it, whatever the room
    ∷ late_given 1 519 1 E (loud free 518 Idle eom) (with_block 0)
    ∷ late_given 1 1032 1 E (loud free 518 Idle eom) (with_block 513)
    -- a longer tape that is lent meanwhile makes it no other WRITE
    ∷ late_given 2 2059 0 R (late 1 518) (with_block 1540)
    ∷ late_given 1 2059 1 E (loud free 518 Idle eom) (with_block 1540)
    ∷ []

-- An order that is illegal, READ STATUS, a byte staged or taken, a count and the level leave it.
abbrev pub late_kept : List Case
late_kept =
    joined (
    stops up (late 1 5) (loud_late 1 5 ill) (0 ∷ 1 ∷ 33 ∷ 34 ∷ 36 ∷ 64 ∷ 128 ∷ 160 ∷ [])
    ∷ stops up (loud_late 2 5 fil) (loud_late 2 5 (also fil ill)) (64 ∷ 96 ∷ [])
    ∷ stops low (late 2 5) (loud_late 2 5 ill) (96 ∷ [])
    ∷ (reports up (late 2 5) 0 0 (record_of free 5 Writing 2 false none 0 0)
    ∷ reports low (loud_late 1 5 eom) 136 0 (record_of free 5 Writing 1 false none 0 0)
    ∷ row (scene up (Taking 3) (late 1 5) odd) (give 201) (says 0 O) (writer (Taking 4) (ramp 3 1 ++ (201 ∷ ramp 508 5)) (late 1 5) odd)
    ∷ row (scene up (Status 1) (late 2 5) odd) fetch (hands 0 16 R) (scene up Rest (late 2 5) odd)
    ∷ row (scene up Rest (late 2 5) odd) (error 2) (says 0 R) (scene up Rest (record_of free 5 Writing 2 false none 259 515) odd)
    ∷ row (scene low Rest (late 1 5) odd) rise (says 0 R) (scene up Rest (late 1 5) odd)
    ∷ row (scene low Rest (late 1 5) odd) fall (says 0 R) (scene low Rest (late 1 5) odd)
    ∷ [])
    ∷ [])

-- RESET, the line, the mark that closes a WRITE, with room for it or without, and a cartridge pulled take it away.
abbrev pub late_gone : List Case
late_gone =
    resets up Rest (late 2 5)
    ∷ resets low (Taking 3) (late 1 5)
    ∷ falls up (late 2 5) odd 0 R (quiet free 0 Idle) (lead ++ (2 ∷ 0 ∷ 2 ∷ 1 ∷ []))
    ∷ falls up (late 1 9) odd 1 E (loud free 9 Idle eom) odd
    ∷ falls up (loud_late 1 5 fil) odd 0 E (loud free 5 Idle fil) odd
    ∷ told up 96 (late 1 5) odd 0 R (quiet free 6 Idle) (lead ++ (2 ∷ 0 ∷ 2 ∷ 1 ∷ []))
    ∷ told up 96 (late 2 9) odd 1 E (loud free 9 Idle eom) odd
    ∷ here (Taking 3) (pull 2) (late 2 5) 1 E Rest (loud gone 0 Idle cni)
    ∷ away 0 (pull 0) (late 1 5) 1 (loud gone 0 Idle cni)
    ∷ []

-- 5: more than two, or any outside Writing, on each drive, selected or not.
abbrev pub late_never : List Case
late_never =
    joined (
    on_each (allows Writing 3)
    ∷ on_each (allows Writing 255)
    ∷ on_each (allows Idle 1)
    ∷ on_each (allows Idle 2)
    ∷ on_each (allows Reading 1)
    ∷ on_each (allows Reading 255)
    ∷ just_on_each (allows Writing 1) R
    ∷ just_on_each (allows Writing 2) R
    ∷ [])
