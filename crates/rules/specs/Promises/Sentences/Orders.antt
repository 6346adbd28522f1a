-- Commands: the codes, tests 1 to 7, and what each order does.
use Rattle.std.specs.Prelude.{ℕ, ◌+◌, Bool, false, List, [], ◌∷◌, ◌++◌, map, replicate}
use Rattle.rules.specs.declared.drive.Drive.{Drive}
use Rattle.rules.specs.declared.drive.Latched.{Latched}
use Rattle.rules.specs.declared.drive.Mode.{Mode}
use Rattle.rules.specs.declared.drive.Mode.TheVariants.{Idle, Writing, Reading}
use Rattle.rules.specs.declared.phase.Phase.TheVariants.{Rest, Status}
use Rattle.rules.specs.declared.answer.Lines.{Lines}
use Rattle.rules.specs.Run.{World}
use Rattle.rules.specs.Promises.Events.{joined, command}
use Rattle.rules.specs.Promises.Sentences.Form.{says, R, RD, E, Case, row}
use Rattle.rules.specs.Promises.Sentences.Scene.{up, low, none, all, cni, eom, ude, bnl, fil, ill, ndt, also, all_but, full, quiet, loud, late, ramp}
use Rattle.rules.specs.Promises.Sentences.Scene.{block, odd, lead, old_octets, old_staging, port, among, scene, gone, free, plugged}

-- A command at Rest: level, code, record and tape before; answer and lines; record and tape after.
abbrev pub told : Bool → ℕ → Drive → List ℕ → ℕ → Lines → Drive → List ℕ → Case
told level c d t a l d' t' = row (scene level Rest d t) (command c) (says a l) (scene level Rest d' t')

-- Each of these codes raises EXCEPTION and makes the record so; the tape stays.
abbrev pub stops : Bool → Drive → Drive → List ℕ → List Case
stops level d d' codes = map (λ (c : ℕ). told level c d odd 1 E d' odd) codes

abbrev pub selects : List ℕ
selects = 1 ∷ 2 ∷ 4 ∷ 8 ∷ []

-- Every octet that is no code.
abbrev pub from : ℕ → ℕ → List ℕ
from k n = ramp n k

abbrev pub unknown : List ℕ
unknown =
    0 ∷ 3 ∷ (from 5 3 ++ (from 9 24 ++ (35 ∷ (from 37 27 ++ (from 65 31 ++ (from 97 31 ++ (from 129 31 ++ (from 161 31 ++ from 193 58))))))))
    ++ (251 ∷ 252 ∷ 253 ∷ 254 ∷ 255 ∷ [])

-- 1. With EXCEPTION up every code but READ STATUS is illegal, in each mode, and before any other test; the bits that stand stay.
abbrev pub all_but_status : List ℕ
all_but_status = 0 ∷ 33 ∷ 34 ∷ 36 ∷ 64 ∷ 96 ∷ 128 ∷ 160 ∷ selects

abbrev pub exception_up : List Case
exception_up =
    joined (
    stops up (loud free 5 Idle fil) (loud free 5 Idle (also fil ill)) all_but_status
    ∷ stops up (loud free 5 Writing eom) (loud free 5 Writing (also eom ill)) all_but_status
    ∷ stops up (loud free 5 Reading none) (loud free 5 Reading ill) all_but_status
    ∷ stops low (loud gone 5 Idle none) (loud gone 5 Idle ill) all_but_status
    ∷ stops up (loud plugged 9 Idle none) (loud plugged 9 Idle ill) all_but_status
    ∷ [])

-- 2. No other octet is a code.
abbrev pub unknown_code : List Case
unknown_code = stops up (quiet free 5 Idle) (loud free 5 Idle ill) unknown ++ stops low (quiet gone 5 Idle) (loud gone 5 Idle ill) (0 ∷ 3 ∷ [])

-- 3. Writing takes WRITE FILE MARK and READ STATUS, Reading takes READ FILE MARK and READ STATUS, and nothing else; mode and head stay.
abbrev pub sequence : List Case
sequence =
    stops up (quiet free 5 Writing) (loud free 5 Writing ill) (0 ∷ 33 ∷ 34 ∷ 36 ∷ 64 ∷ 128 ∷ 160 ∷ selects)
    ++ stops up (quiet free 5 Reading) (loud free 5 Reading ill) (0 ∷ 33 ∷ 34 ∷ 36 ∷ 64 ∷ 96 ∷ 128 ∷ selects)

-- 4. With ONLINE low WRITE, READ and both file mark orders are illegal, before cartridge, plug and room are looked at.
abbrev pub line_low : List Case
line_low =
    joined (
    stops low (quiet free 5 Idle) (loud free 5 Idle ill) (64 ∷ 96 ∷ 128 ∷ 160 ∷ [])
    ∷ stops low (quiet gone 5 Idle) (loud gone 5 Idle ill) (64 ∷ 96 ∷ 128 ∷ 160 ∷ [])
    ∷ stops low (quiet plugged 5 Idle) (loud plugged 5 Idle ill) (64 ∷ 96 ∷ 128 ∷ 160 ∷ [])
    ∷ stops low (quiet free 5 Writing) (loud free 5 Writing ill) (96 ∷ [])
    ∷ stops low (quiet free 5 Reading) (loud free 5 Reading ill) (160 ∷ [])
    ∷ [])

-- 5. Without a cartridge all but SELECT and READ STATUS give CNI, before room is looked at; the tape that is lent stays.
abbrev pub empty : List Case
empty =
    stops up (quiet gone 9 Idle) (loud gone 9 Idle cni) (33 ∷ 34 ∷ 36 ∷ 64 ∷ 96 ∷ 128 ∷ 160 ∷ [])
    ++ stops low (quiet gone 5 Idle) (loud gone 5 Idle cni) (33 ∷ 34 ∷ 36 ∷ [])

-- 6. A protected cartridge stops ERASE, WRITE and WRITE FILE MARK with EXCEPTION alone, before room is looked at.
abbrev pub plug : List Case
plug =
    stops up (quiet plugged 9 Idle) (loud plugged 9 Idle none) (34 ∷ 64 ∷ 96 ∷ [])
    ++ stops low (quiet plugged 5 Idle) (loud plugged 5 Idle none) (34 ∷ [])

-- 7. WRITE needs head + 514 <= L, WRITE FILE MARK head + 1 <= L; else EOM, and the mode becomes Idle.
-- WRITE with head + 1541 <= L allows no late block, and any other one two, whatever the room.
abbrev pub room : List Case
room =
    told up 64 (quiet free 5 Idle) (ramp 1546 3) 0 R (quiet free 5 Writing) (ramp 1546 3)
    ∷ told up 64 (quiet free 5 Idle) (ramp 1545 3) 0 R (late 2 5) (ramp 1545 3)
    ∷ told up 64 (quiet free 5 Idle) (ramp 519 3) 0 R (late 2 5) (ramp 519 3)
    ∷ told up 64 (quiet free 5 Idle) (ramp 518 3) 1 E (loud free 5 Idle eom) (ramp 518 3)
    ∷ told up 64 (quiet free 0 Idle) (ramp 1541 3) 0 R (quiet free 0 Writing) (ramp 1541 3)
    ∷ told up 64 (quiet free 0 Idle) (ramp 1540 3) 0 R (late 2 0) (ramp 1540 3)
    ∷ told up 64 (quiet free 0 Idle) (ramp 514 3) 0 R (late 2 0) (ramp 514 3)
    ∷ told up 64 (quiet free 0 Idle) (ramp 513 3) 1 E (loud free 0 Idle eom) (ramp 513 3)
    ∷ told up 96 (quiet free 9 Idle) odd 1 E (loud free 9 Idle eom) odd
    ∷ told up 96 (quiet free 9 Writing) odd 1 E (loud free 9 Idle eom) odd
    ∷ told up 96 (quiet free 10 Writing) odd 1 E (loud free 10 Idle eom) odd
    ∷ []

-- SELECT changes the selected drive only, whatever the line, the cartridge or the place; the lines are those of the drive selected.
abbrev pub choice : Bool → Drive → ℕ → ℕ → Lines → Case
choice level d c n l =
    row (scene level Rest d odd) (command c) (says 0 l) (among 2 (port n level Rest old_octets) old_staging d odd)

abbrev pub choices : Bool → Drive → List Case
choices level d = choice level d 1 0 RD ∷ choice level d 2 1 E ∷ choice level d 4 2 R ∷ choice level d 8 3 R ∷ []

abbrev pub selecting : List Case
selecting = choices low (quiet gone 10 Idle) ++ (choices up (quiet plugged 10 Idle) ++ choices up (quiet free 5 Idle))

-- BOT and INITIALIZATION set the head to 0, ERASE also every byte of the tape to 0: with the line low too, and wherever the head was.
abbrev pub homing : List Case
homing =
    told low 33 (quiet free 10 Idle) odd 0 R (quiet free 0 Idle) odd
    ∷ told up 33 (quiet plugged 5 Idle) odd 0 R (quiet plugged 0 Idle) odd
    ∷ told low 36 (quiet free 10 Idle) odd 0 R (quiet free 0 Idle) odd
    ∷ told up 36 (quiet plugged 5 Idle) odd 0 R (quiet plugged 0 Idle) odd
    ∷ told low 34 (quiet free 10 Idle) odd 0 R (quiet free 0 Idle) (replicate 9 0)
    ∷ told up 34 (quiet free 5 Idle) odd 0 R (quiet free 0 Idle) (replicate 9 0)
    ∷ []

-- WRITE FILE MARK records a mark at the head and one 00 after it, if that lies on the tape; nothing else changes; mode Idle.
abbrev pub marking : List Case
marking =
    told up 96 (quiet free 5 Idle) odd 0 R (quiet free 6 Idle) (lead ++ (2 ∷ 0 ∷ 2 ∷ 1 ∷ []))
    ∷ told up 96 (quiet free 5 Writing) odd 0 R (quiet free 6 Idle) (lead ++ (2 ∷ 0 ∷ 2 ∷ 1 ∷ []))
    ∷ told up 96 (quiet free 8 Writing) odd 0 R (quiet free 9 Idle) (lead ++ (4 ∷ 3 ∷ 2 ∷ 2 ∷ []))
    ∷ told up 96 (quiet free 0 Idle) odd 0 R (quiet free 1 Idle) (2 ∷ 0 ∷ 7 ∷ 6 ∷ 5 ∷ 4 ∷ 3 ∷ 2 ∷ 1 ∷ [])
    ∷ []

-- The edges: what stands at a place that is no block, the bit that tells it, and how far the head moves.
pub record Edge : Type 0 where
  pub bytes : List ℕ
  pub bit : Latched
  pub past : ℕ

abbrev pub edge : List ℕ → Latched → ℕ → Edge
edge t b n = record { bytes = t; bit = b; past = n }

abbrev pub edges : List Edge
edges =
    -- a mark: FIL, and the head moves past it
    edge (2 ∷ 1 ∷ []) fil 1
    -- end of data, by kind 00 and by the tape's end: NDT
    ∷ edge (0 ∷ 2 ∷ []) ndt 0
    ∷ edge [] ndt 0
    -- a kind that nobody knows, also where the tape ends with it: UDE and BNL
    ∷ edge (3 ∷ 2 ∷ []) (also ude bnl) 0
    ∷ edge (255 ∷ ramp 512 2) (also ude bnl) 0
    ∷ edge (7 ∷ []) (also ude bnl) 0
    -- a block that runs past the end by one byte, or by all but its kind: UDE alone
    ∷ edge (1 ∷ ramp 511 2) ude 0
    ∷ edge (1 ∷ []) ude 0
    ∷ []

-- What the drive is after it met an edge at place h, behind these bytes.
abbrev pub met : Edge → ℕ → List ℕ → World
met e h t = scene up Rest (loud free (h + e.past) Idle e.bit) (t ++ e.bytes)

-- READ sets the mode and makes the edge check: a block, nothing; else the bit, and the mode Idle. A head above L: UDE.
abbrev pub reading : List Case
reading =
    told up 128 (quiet free 5 Idle) (lead ++ block 3) 0 RD (quiet free 5 Reading) (lead ++ block 3)
    ∷ told up 128 (quiet plugged 5 Idle) (lead ++ block 2) 0 RD (quiet plugged 5 Reading) (lead ++ block 2)
    ∷ told up 128 (quiet free 10 Idle) odd 1 E (loud free 10 Idle ude) odd
    ∷ map (λ (e : Edge). row (scene up Rest (quiet free 5 Idle) (lead ++ e.bytes)) (command 128) (says 1 E) (met e 5 lead)) edges

-- READ FILE MARK passes blocks: past the next mark FIL; else NDT or UDE, the head there; mode Idle each time.
abbrev pub passes : Mode → ℕ → List ℕ → ℕ → Latched → Case
passes m h t h' k = told up 160 (quiet free h m) t 1 E (loud free h' Idle k) t

abbrev pub passing : List Case
passing =
    passes Idle 10 odd 10 ude
    ∷ passes Reading 5 (lead ++ (block 2 ++ (block 0 ++ (2 ∷ 2 ∷ [])))) 1032 fil
    ∷ told up 160 (quiet plugged 5 Idle) (lead ++ (2 ∷ [])) 1 E (loud plugged 6 Idle fil) (lead ++ (2 ∷ []))
    ∷ (map (λ (e : Edge). passes Idle 5 (lead ++ e.bytes) (5 + e.past) e.bit) edges
    ++ map (λ (e : Edge). passes Reading 5 (lead ++ (block 2 ++ e.bytes)) (518 + e.past) e.bit) edges)

-- READ STATUS makes the six octets, then clears bits, counters and EXCEPTION; six are outstanding; mode, head, level and tape stay.
abbrev pub reports : Bool → Drive → ℕ → ℕ → Drive → Case
reports level d a b d' =
    row (scene level Rest d odd) (command 192) (says 0 RD)
    (among 2 (port 2 level (Status 6) (a ∷ b ∷ 1 ∷ 2 ∷ 2 ∷ 3 ∷ [])) old_staging d' odd)

abbrev pub status : List Case
status =
    reports low (quiet free 10 Idle) 0 0 (full free 10 Idle false none 0 0)
    ∷ reports up (quiet free 5 Writing) 0 0 (full free 5 Writing false none 0 0)
    ∷ reports up (quiet free 5 Reading) 0 0 (full free 5 Reading false none 0 0)
    ∷ reports low (quiet plugged 5 Idle) 144 0 (full plugged 5 Idle false none 0 0)
    ∷ reports low (quiet gone 5 Idle) 192 0 (full gone 5 Idle false none 0 0)
    ∷ reports up (loud free 5 Writing eom) 136 0 (full free 5 Writing false none 0 0)
    ∷ reports up (loud free 5 Reading all) 207 225 (full free 5 Reading false none 0 0)
    ∷ reports low (loud gone 5 Idle none) 192 0 (full gone 5 Idle false none 0 0)
    ∷ []

-- A bit that is latched joins those that stand: each from a record that has all others; UDE and BNL also two at once, and UDE without BNL.
abbrev pub joins : Latched → ℕ → ℕ → List ℕ → ℕ → Case
joins but c h t h' = told up c (full free h Idle false but 258 515) t 1 E (loud free h' Idle all) t

abbrev pub bits_stay : List Case
bits_stay =
    joins (all_but eom) 96 9 odd 9
    ∷ joins (all_but ude) 128 10 odd 10
    ∷ joins (all_but bnl) 128 6 odd 6
    ∷ joins (all_but (also ude bnl)) 128 6 odd 6
    ∷ told up 128 (full free 8 Idle false (all_but (also ude bnl)) 258 515) odd 1 E (loud free 8 Idle (all_but bnl)) odd
    ∷ joins (all_but fil) 128 5 (lead ++ (2 ∷ [])) 6
    ∷ joins (all_but ill) 0 5 odd 5
    ∷ joins (all_but ndt) 128 5 lead 5
    ∷ told up 33 (full gone 5 Idle false (all_but cni) 258 515) odd 1 E (loud gone 5 Idle all) odd
    ∷ told up 34 (full plugged 5 Idle false (all_but (also eom (also bnl ill))) 258 515) odd 1 E (loud plugged 5 Idle (all_but (also eom (also bnl ill)))) odd
    ∷ []
