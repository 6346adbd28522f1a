-- The strike comes back: what a rig gave is what it is handed out, byte for byte, and what was recorded before is handed out as ever.
use Rattle.std.specs.Prelude.{ℕ, zero, suc, ◌+◌, ◌*◌, ◌≤◌, ◌≡◌, true, false, List, [], ◌∷◌, ◌++◌, length, Ok, None, Some}
use Rattle.tape.specs.declared.found.Kind.TheVariants.{Block}
use Rattle.std.specs.List.{cons_option}
use Rattle.tape.specs.Record.{body_size, mark_record, block_record, found_at}
use Rattle.tape.specs.Recording.{recorded}
use Rattle.tape.specs.Walk.{trail, past_marks}
use Rattle.tape.specs.Held.{Holds, body_at}
use Rattle.rules.specs.declared.drive.Drive.{Drive}
use Rattle.rules.specs.declared.drive.Mode.TheVariants.{Idle}
use Rattle.rules.specs.declared.drive.Bit.TheVariants.{Fil}
use Rattle.rules.specs.declared.phase.Phase.TheVariants.{Rest}
use Rattle.rules.specs.declared.answer.Answer.TheVariants.{Taken, Raised}
use Rattle.rules.specs.declared.answer.Turn.{Turn}
use Rattle.rules.specs.Drive.{set_head, stopping, writes, reads}
use Rattle.rules.specs.Unit.{Whole, drive_at, tape_at}
use Rattle.rules.specs.Refusal.{possible, short}
use Rattle.rules.specs.Run.{World, after, run, turns, given_each, taken_times, fresh_world}
use Rattle.rules.specs.Reach.{real_change, Gave, reached, given}
use Rattle.rules.specs.Promises.Changes.{Accepted, block_asks}
use Rattle.rules.specs.Promises.Events.{joined}
use Rattle.rules.specs.Promises.Runs.{command, report, online, offline}

-- ---- What is spoken of

-- The selected drive of a world, and its tape.
abbrev pub drive_of : World → Drive
drive_of w = drive_at w.core w.core.port.selected

abbrev pub tape_of : World → List ℕ
tape_of w = tape_at w.lent w.core.port.selected

-- A unit that no event finds impossible or with a tape too long.
pub record Works (w : World) : Type 0 where
  pub possible : possible w.core ≡ true
  pub short : short w.lent ≡ true
  pub whole : Whole w.lent

-- The selected drive is loaded, Idle and without EXCEPTION, the unit at Rest with ONLINE up.
pub record Ready (w : World) : Type 0 where
  pub works : Works w
  pub rest : w.core.port.phase ≡ Rest
  pub online : w.core.port.online ≡ true
  pub loaded : (drive_of w).loaded ≡ true
  pub idle : (drive_of w).mode ≡ Idle
  pub calm : (drive_of w).exception ≡ false

-- Its plug is open, and n blocks of 513 bytes leave the 1541 that one more would ask for.
pub record MayRecord (w : World) (n : ℕ) : Type 0 where
  pub ready : Ready w
  pub unplugged : (drive_of w).protected ≡ false
  pub room : (drive_of w).head + n * 513 + 1541 ≤ length (tape_of w)

-- Blocks of 512 bytes; their records, with the mark that closes them. Their bytes one after the other are `joined`.
abbrev pub AllWhole : List (List ℕ) → Type 0
AllWhole [] = Prim.Unit
AllWhole (b ∷ bs) = (length b ≡ body_size) × AllWhole bs

abbrev pub strike : List (List ℕ) → List ℕ
strike [] = mark_record
strike (b ∷ bs) = block_record b ++ strike bs

-- The bytes that turns handed out.
abbrev pub handed_out : List Turn → List ℕ
handed_out [] = []
handed_out (r ∷ rs) = cons_option r.byte (handed_out rs)

-- Every event answered 0; and every one but the last, which is answered 1.
abbrev pub AllTaken : List Turn → Type 0
AllTaken [] = Prim.Unit
AllTaken (r ∷ rs) = (r.answer ≡ Taken) × AllTaken rs

pub data RaisedLast : List Turn → Type 0 where
  last : {r : Turn} → r.answer ≡ Raised → RaisedLast (r ∷ [])
  then : {r : Turn} {rs : List Turn} → r.answer ≡ Taken → RaisedLast rs → RaisedLast (r ∷ rs)

-- The events: WRITE, the bytes, WRITE FILE MARK; READ and so many bytes taken.
abbrev pub recording : List (List ℕ) → List (List ℕ)
recording bs = command 64 ++ (given_each (joined bs) ++ command 96)

abbrev pub reading : ℕ → List (List ℕ)
reading n = command 128 ++ taken_times (n * body_size)

-- The way back to the tape's beginning: BOT, or ONLINE dropped and raised. Then past k marks, each with the report that FIL asks for.
pub data Back : List (List ℕ) → Type 0 where
  by_order : Back (command 33)
  by_line : Back (offline ++ online)

abbrev pub passing : ℕ → List (List ℕ)
passing zero = []
passing (suc k) = command 160 ++ (report ++ passing k)

-- ---- The steps, each by itself

-- 512 bytes accepted leave exactly them as a block at the head: of a drive that is Writing without EXCEPTION, where there is room.
abbrev pub BlockGiven : Type 0
BlockGiven =
    (w : World) (b : List ℕ) → Works w → w.core.port.phase ≡ Rest → writes (drive_of w) ≡ true
    → (drive_of w).head + block_asks (drive_of w).late ≤ length (tape_of w) → length b ≡ body_size
    → tape_at (run w (given_each b)).lent w.core.port.selected ≡ recorded (tape_of w) (drive_of w).head (block_record b)

-- A whole block at the head is handed out as it stands, byte for byte.
abbrev pub BlockHanded : Type 0
BlockHanded =
    (w : World) → Works w → w.core.port.phase ≡ Rest → reads (drive_of w) ≡ true → found_at (tape_of w) (drive_of w).head ≡ Ok Block
    → handed_out (turns w (taken_times body_size)) ≡ body_at (tape_of w) (drive_of w).head

-- Bytes before the head stand after every event but an accepted ERASE.
abbrev pub StaysBefore : Type 0
StaysBefore =
    (w : World) (event bytes : List ℕ) (k : ℕ) → Whole w.lent → (Accepted w.core w.lent event 34 → ⊥)
    → k + length bytes ≤ (drive_of w).head → Holds (tape_of w) k bytes
    → Holds (tape_at (after w event).lent w.core.port.selected) k bytes

-- A strike is recorded: every event answered 0, its records at the head and the data ended behind them, no other byte changed.
pub record Recorded (w w' : World) (bs : List (List ℕ)) : Type 0 where
  pub tape : tape_of w' ≡ recorded (tape_of w) (drive_of w).head (strike bs)
  pub drive : drive_of w' ≡ set_head ((drive_of w).head + length (strike bs)) (drive_of w)
  pub port : w'.core.port ≡ w.core.port
  pub works : Works w'

abbrev pub StrikeRecorded : Type 0
StrikeRecorded =
    (w : World) (bs : List (List ℕ)) → AllWhole bs → MayRecord w (length bs)
    → AllTaken (turns w (recording bs)) × Recorded w (run w (recording bs)) bs

-- A strike that stands at the head is handed out, and then comes FIL: EXCEPTION, Idle, the head past the mark.
pub record HandedOut (w w' : World) (bs : List (List ℕ)) (rs : List Turn) : Type 0 where
  pub bytes : handed_out rs ≡ joined bs
  pub answers : RaisedLast rs
  pub drive : drive_of w' ≡ stopping Fil (set_head ((drive_of w).head + length (strike bs)) (drive_of w))
  pub tape : tape_of w' ≡ tape_of w

abbrev pub StrikeHandedOut : Type 0
StrikeHandedOut =
    (w : World) (bs : List (List ℕ)) → AllWhole bs → Ready w → Holds (tape_of w) (drive_of w).head (strike bs)
    → HandedOut w (run w (reading (length bs))) bs (turns w (reading (length bs)))

-- The way back and past k marks leads to where passing k marks leads, and changes no tape.
pub record Arrives (w w' : World) (h : ℕ) : Type 0 where
  pub ready : Ready w'
  pub selected : w'.core.port.selected ≡ w.core.port.selected
  pub head : (drive_of w').head ≡ h
  pub tape : tape_of w' ≡ tape_of w

abbrev pub WayBack : Type 0
WayBack =
    (w : World) (k h : ℕ) (back : List (List ℕ)) → Ready w → Back back → past_marks k (trail (tape_of w) 0) ≡ Ok h
    → Arrives w (run w (back ++ passing k)) h

-- ---- The strike comes back

-- Recorded where k marks lie before it, and looked for by the way back and past k marks, a strike is handed out as it was given.
abbrev pub StrikeComesBack : Type 0
StrikeComesBack =
    (w : World) (bs : List (List ℕ)) (k : ℕ) (back : List (List ℕ)) → AllWhole bs → MayRecord w (length bs)
    → past_marks k (trail (tape_of w) 0) ≡ Ok (drive_of w).head → Back back
    → let w₁ = run w (recording bs) in
    let w₂ = run w₁ (back ++ passing k) in
    AllTaken (turns w (recording bs)) × HandedOut w₂ (run w₂ (reading (length bs))) bs (turns w₂ (reading (length bs)))

-- Another strike recorded behind it leaves it where it stands,
abbrev pub FirstStrikeStays : Type 0
FirstStrikeStays =
    (w : World) (bs cs : List (List ℕ)) (k : ℕ) → AllWhole cs → MayRecord w (length cs) → k + length (strike bs) ≤ (drive_of w).head
    → Holds (tape_of w) k (strike bs) → Holds (tape_of (run w (recording cs))) k (strike bs)

-- and it is handed out as before.
abbrev pub FirstStrikeComesBack : Type 0
FirstStrikeComesBack =
    (w : World) (bs cs : List (List ℕ)) (k : ℕ) (back : List (List ℕ)) → AllWhole bs → AllWhole cs → MayRecord w (length bs)
    → MayRecord (run w (recording bs)) (length cs) → past_marks k (trail (tape_of w) 0) ≡ Ok (drive_of w).head → Back back
    → let w₁ = run (run w (recording bs)) (recording cs) in
    let w₂ = run w₁ (back ++ passing k) in
    HandedOut w₂ (run w₂ (reading (length bs))) bs (turns w₂ (reading (length bs)))

-- ---- Whatever is done on the other three

-- The bytes that drive d handed out at the events that reached it.
abbrev pub byte_of : Gave → List ℕ → List ℕ
byte_of g l = elim g.shown [ None ↦ l | Some s ↦ cons_option s.byte l ]

abbrev pub bytes_of : List Gave → List ℕ
bytes_of [] = []
bytes_of (g ∷ gs) = byte_of g (bytes_of gs)

abbrev pub handed_by : ℕ → World → List (List ℕ) → List ℕ
handed_by d w es = bytes_of (given real_change d w es)

-- From a fresh unit, over any events before: where the same events reach the drive as in such a strike with nothing in between,
-- what it hands out at the end are the bytes given.
abbrev pub StrikeAmongOthers : Type 0
StrikeAmongOthers =
    (d : ℕ) → d ≤ 3 → (a b c e : List ℕ) → short (fresh_world a b c e).lent ≡ true → (before es bs : List (List ℕ)) (k : ℕ) (back : List (List ℕ))
    → let w = run (fresh_world a b c e) before in
    w.core.port.selected ≡ d → AllWhole bs → MayRecord w (length bs)
    → past_marks k (trail (tape_of w) 0) ≡ Ok (drive_of w).head → Back back
    → let way = before ++ (recording bs ++ (back ++ passing k)) in
    reached real_change d (fresh_world a b c e) es ≡ reached real_change d (fresh_world a b c e) (way ++ reading (length bs))
    → handed_by d (fresh_world a b c e) es ≡ handed_by d (fresh_world a b c e) way ++ joined bs
