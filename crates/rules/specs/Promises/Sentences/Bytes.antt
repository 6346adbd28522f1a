-- Bytes: given by the host, and taken by it.
use Rattle.std.specs.Prelude.{ℕ, ◌+◌, List, [], ◌∷◌, ◌++◌, map, replicate}
use Rattle.rules.specs.declared.drive.Drive.{Drive}
use Rattle.rules.specs.declared.drive.Latched.{Latched}
use Rattle.rules.specs.declared.drive.Mode.TheVariants.{Idle, Writing, Reading}
use Rattle.rules.specs.declared.phase.Phase.{Phase}
use Rattle.rules.specs.declared.phase.Phase.TheVariants.{Rest, Taking, Giving, Status}
use Rattle.rules.specs.declared.answer.Lines.{Lines}
use Rattle.rules.specs.Run.{World}
use Rattle.rules.specs.Promises.Events.{give, fetch}
use Rattle.rules.specs.Promises.Sentences.Form.{says, hands, R, RD, E, ED, D, O, Case, rows, row}
use Rattle.rules.specs.Promises.Sentences.Scene.{up, low, none, cni, eom, ude, bnl, also, quiet, loud, ramp, block, odd, lead, old_octets}
use Rattle.rules.specs.Promises.Sentences.Scene.{port, among, scene, gone, free, plugged}
use Rattle.rules.specs.Promises.Sentences.Orders.{Edge, edges, met}

-- Drive 2 Writing at head 5 with this staging block; Reading at head h.
abbrev pub writer : Phase → List ℕ → Drive → List ℕ → World
writer ph g d t = among 2 (port 2 up ph old_octets) g d t

abbrev pub reader : Phase → ℕ → List ℕ → World
reader ph h t = scene up ph (quiet free h Reading) t

-- A byte given where n were given before stands at place n, counted from 0; no tape byte changes before the 512th.
abbrev pub given_at : ℕ → ℕ → List ℕ → Case
given_at n b g = row (scene up (Taking n) (quiet free 5 Writing) odd) (give b) (says 0 O) (writer (Taking (n + 1)) g (quiet free 5 Writing) odd)

abbrev pub giving : List Case
giving =
    rows (scene up Rest (quiet free 5 Writing) odd) (give 201 ∷ give 202 ∷ give 203 ∷ []) (says 0 O ∷ says 0 O ∷ says 0 O ∷ [])
    (writer (Taking 3) (201 ∷ 202 ∷ 203 ∷ ramp 509 4) (quiet free 5 Writing) odd)
    ∷ given_at 300 0 (ramp 300 1 ++ (0 ∷ ramp 211 302))
    ∷ given_at 510 255 (ramp 510 1 ++ (255 ∷ ramp 1 512))
    ∷ []

-- The 512th byte: the block is stored at the head with one 00 after it, the head past it, phase Rest.
-- Without room nothing is recorded, and EOM; where there is no more room after it, EOM. EOM makes the mode Idle.
abbrev pub last_given : ℕ → ℕ → Lines → Drive → List ℕ → Case
last_given n a l d t =
    row (scene up (Taking 511) (quiet free 5 Writing) (ramp n 7)) (give 99) (says a l) (writer Rest (ramp 511 1 ++ (99 ∷ [])) d t)

-- The tape of 519 + n bytes with the block at head 5.
abbrev pub with_block : ℕ → List ℕ
with_block n = ramp 5 7 ++ (1 ∷ (ramp 511 1 ++ (99 ∷ 0 ∷ ramp n 526)))

abbrev pub storing : List Case
storing =
    last_given 1545 1 E (loud free 5 Idle eom) (ramp 1545 7)
    ∷ last_given 1546 1 E (loud free 518 Idle eom) (with_block 1027)
    ∷ last_given 2058 1 E (loud free 518 Idle eom) (with_block 1539)
    ∷ last_given 2059 0 R (quiet free 518 Writing) (with_block 1540)
    ∷ []

-- In Status the next octet is handed out, in whatever mode and with EXCEPTION too; after the sixth, Rest.
abbrev pub six_taken : Drive → Lines → Lines → Case
six_taken d l l' =
    rows (scene low (Status 6) d odd) (replicate 6 fetch)
    (hands 0 11 l ∷ hands 0 12 l ∷ hands 0 13 l ∷ hands 0 14 l ∷ hands 0 15 l ∷ hands 0 16 l' ∷ [])
    (scene low Rest d odd)

abbrev pub octets_out : List Case
octets_out =
    six_taken (quiet free 5 Idle) RD R
    ∷ six_taken (quiet free 5 Writing) RD R
    ∷ six_taken (quiet free 5 Reading) RD RD
    ∷ six_taken (loud gone 5 Idle cni) ED E
    ∷ []

-- In Reading the byte handed out is the tape's own at head + 1 + n, where n were taken before; the head stays.
abbrev pub two_blocks : List ℕ
two_blocks = lead ++ (block 3 ++ block 5)

abbrev pub taken_at : ℕ → ℕ → Case
taken_at n b = row (reader (Giving n) 5 two_blocks) fetch (hands 0 b D) (reader (Giving (n + 1)) 5 two_blocks)

abbrev pub taking : List Case
taking =
    rows (reader Rest 5 two_blocks) (replicate 3 fetch) (hands 0 3 D ∷ hands 0 4 D ∷ hands 0 5 D ∷ []) (reader (Giving 3) 5 two_blocks)
    ∷ row (reader Rest 518 two_blocks) fetch (hands 0 5 D) (reader (Giving 1) 518 two_blocks)
    ∷ taken_at 1 4
    ∷ taken_at 247 250
    ∷ taken_at 248 0
    ∷ taken_at 300 52
    ∷ taken_at 510 11
    -- of a protected cartridge, with the line low, and inside a block with EXCEPTION too
    ∷ row (scene low Rest (quiet plugged 5 Reading) two_blocks) fetch (hands 0 3 D) (scene low (Giving 1) (quiet plugged 5 Reading) two_blocks)
    ∷ row (scene up (Giving 7) (loud free 5 Reading none) two_blocks) fetch (hands 0 10 E) (scene up (Giving 8) (loud free 5 Reading none) two_blocks)
    ∷ []

-- At Rest the edge check is repeated first: with no block at the head no byte, and what the check says. A head above L: UDE.
abbrev pub nothing_there : List Case
nothing_there =
    row (reader Rest 10 odd) fetch (says 1 E) (scene up Rest (loud free 10 Idle ude) odd)
    ∷ map (λ (e : Edge). row (reader Rest 5 (lead ++ e.bytes)) fetch (says 1 E) (met e 5 lead)) edges

-- In the middle of a block whose record is no whole block any more: the bits, Rest, Idle, no byte, and the head stays.
abbrev pub spoilt : Latched → ℕ → ℕ → List ℕ → Case
spoilt k n h t = row (reader (Giving n) h t) fetch (says 1 E) (scene up Rest (loud free h Idle k) t)

abbrev pub spoiling : List Case
spoiling =
    -- a mark, the end of data by its kind and by the tape's end, a block too long, a head above L: UDE alone
    spoilt ude 3 5 (lead ++ (2 ∷ ramp 512 3))
    ∷ spoilt ude 3 5 (lead ++ (0 ∷ ramp 512 3))
    ∷ spoilt ude 3 5 (lead ++ (1 ∷ ramp 511 3))
    ∷ spoilt ude 511 5 (lead ++ (2 ∷ ramp 512 3))
    ∷ spoilt ude 3 8 odd
    ∷ spoilt ude 3 9 odd
    ∷ spoilt ude 3 10 odd
    -- a kind that nobody knows, with or without room for a block: UDE and BNL
    ∷ spoilt (also ude bnl) 3 5 (lead ++ (3 ∷ ramp 512 3))
    ∷ spoilt (also ude bnl) 511 5 (lead ++ (255 ∷ ramp 512 3))
    ∷ spoilt (also ude bnl) 1 6 odd
    ∷ []

-- Byte 512: the head past the block, Rest, and the edge check, whose exception comes with the byte.
abbrev pub last_taken : List Case
last_taken =
    row (reader (Giving 511) 5 two_blocks) fetch (hands 0 12 RD) (reader Rest 518 two_blocks)
    ∷ map (λ (e : Edge). row (reader (Giving 511) 5 (lead ++ (block 3 ++ e.bytes))) fetch (hands 1 12 E) (met e 518 (lead ++ block 3))) edges

-- A whole block of unequal bytes, given from the first to the last on a tape without room.
abbrev pub whole_block : List Case
whole_block =
    rows (scene up Rest (quiet free 5 Writing) odd) (map give (ramp 512 9)) (replicate 511 (says 0 O) ++ (says 1 E ∷ []))
    (writer Rest (ramp 512 9) (loud free 5 Idle eom) odd)
    ∷ []
