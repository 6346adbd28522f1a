-- Runs to check: each from a fresh unit with a tape in drive 0.
use Rattle.std.specs.Prelude.{ℕ, zero, suc, ◌≡◌, List, [], ◌∷◌, ◌++◌, map, Option, Some, take, drop, replicate}
use Rattle.rules.specs.declared.answer.Turn.{Turn}
use Rattle.rules.specs.Answer.{row_of}
use Rattle.rules.specs.Promises.Events
use Rattle.rules.specs.Promises.Events.{give, fetch, rise, fall, restart, cartridge, pull, underrun}
use Rattle.rules.specs.Run.{World, run, turns, fresh_world}

-- In lists: READ STATUS with its six octets taken; cartridge in, open and protected; ONLINE raised and an order; bytes given.
abbrev pub report : List (List ℕ)
report = Events.command 192 ∷ replicate 6 fetch

abbrev pub open_in : ℕ → List (List ℕ)
open_in i = cartridge i ∷ []

abbrev pub protected_in : List (List ℕ)
protected_in = cartridge 128 ∷ []

abbrev pub command : ℕ → List (List ℕ)
command c = Events.command c ∷ []

abbrev pub online : List (List ℕ)
online = rise ∷ []

abbrev pub offline : List (List ℕ)
offline = fall ∷ []

abbrev pub reset : List (List ℕ)
reset = restart ∷ []

abbrev pub giving : ℕ → ℕ → List (List ℕ)
giving n b = replicate n (give b)

-- A run that document 01 marks: the tape of drive 0, the events, octets 0 and 1 of the report made after them, and the tape then.
pub record Case : Type 0 where
  pub tape : List ℕ
  pub events : List (List ℕ)
  pub octets : List ℕ
  pub after : List ℕ

abbrev pub case : List ℕ → List (List ℕ) → ℕ → ℕ → List ℕ → Case
case t es a b t' = record { tape = t; events = es; octets = a ∷ b ∷ []; after = t' }

-- A loaded drive whose POR was read, and ONLINE up for tape orders.
abbrev pub ready : List (List ℕ)
ready = open_in 0 ++ report

abbrev pub ready_protected : List (List ℕ)
ready_protected = protected_in ++ report

-- So many blocks of sevens, and what stands behind them.
abbrev pub sevens : ℕ → List ℕ → List ℕ
sevens zero t = t
sevens (suc n) t = 1 ∷ (replicate 512 7 ++ sevens n t)

abbrev pub starred : List Case
starred =
    -- no cartridge: the first report, and the second
    case [] [] 192 129 []
    ∷ case [] report 192 0 []
    -- a cartridge, open and protected
    ∷ case (replicate 16 0) ready 0 136 (replicate 16 0)
    ∷ case (replicate 16 0) ready_protected 144 136 (replicate 16 0)
    -- two codes that are no order
    ∷ case (replicate 16 0) (ready ++ command 0) 0 200 (replicate 16 0)
    ∷ case (replicate 16 0) (ready ++ command 3) 0 200 (replicate 16 0)
    -- nothing to read
    ∷ case (replicate 16 0) (ready ++ (online ++ command 128)) 0 168 (replicate 16 0)
    -- WRITE meets the plug
    ∷ case (replicate 1541 0) (ready_protected ++ (online ++ command 64)) 144 136 (replicate 1541 0)
    -- room for just one block
    ∷ case (replicate 1541 0) (ready ++ (online ++ (command 64 ++ giving 512 7))) 136 0 (1 ∷ (replicate 512 7 ++ replicate 1028 0))
    -- a byte less: WRITE is taken late, and takes two blocks; late again, it takes the third
    ∷ case (replicate 1540 0) (ready ++ (online ++ command 64)) 0 136 (replicate 1540 0)
    ∷ case (replicate 1540 0) (ready ++ (online ++ (command 64 ++ giving 1024 7))) 136 0 (sevens 2 (replicate 514 0))
    ∷ case (replicate 1540 0) (ready ++ (online ++ (command 64 ++ (giving 1024 7 ++ (report ++ (command 64 ++ giving 512 7)))))) 136 0 (sevens 3 (0 ∷ []))
    -- room for one late block, and a byte less
    ∷ case (replicate 514 0) (ready ++ (online ++ (command 64 ++ giving 512 7))) 136 0 (sevens 1 (0 ∷ []))
    ∷ case (replicate 513 0) (ready ++ (online ++ command 64)) 136 136 (replicate 513 0)
    -- a mark passed, an unknown kind behind it, and one at the beginning
    ∷ case (2 ∷ replicate 15 0) (ready ++ (online ++ command 160)) 129 0 (2 ∷ replicate 15 0)
    ∷ case (2 ∷ 7 ∷ replicate 14 0) (ready ++ (online ++ (command 160 ++ (report ++ command 128)))) 134 0 (2 ∷ 7 ∷ replicate 14 0)
    ∷ case (7 ∷ replicate 15 0) (ready ++ (online ++ command 128)) 134 136 (7 ∷ replicate 15 0)
    ∷ []

-- What the run of a case shows: the first two bytes that the report hands out, and the tape.
pub record Shown : Type 0 where
  pub octets : List (Option ℕ)
  pub tape : List ℕ

abbrev pub shown_by : Case → Shown
shown_by c =
    let w = run (fresh_world c.tape [] [] []) c.events in
    record { octets = take 2 (drop 1 (map (λ (r : Turn). r.byte) (turns w report))); tape = (run w report).lent.tape0 }

abbrev pub wanted : Case → Shown
wanted c = record { octets = map Some c.octets; tape = c.after }

-- All of them, as one list under one statement.
abbrev pub StarredRunsHold : Type 0
StarredRunsHold = map shown_by starred ≡ map wanted starred

-- The runs without a mark, and 'Easy to get wrong':
-- the events, and the number of the last answer, the octets made last, the heads of drives 0 and 1 and their tapes.
pub record Run : Type 0 where
  pub tapes : World
  pub events : List (List ℕ)

pub record Ending : Type 0 where
  pub answer : ℕ
  pub octets : List ℕ
  pub head0 : ℕ
  pub head1 : ℕ
  pub tape0 : List ℕ
  pub tape1 : List ℕ

abbrev pub ends : ℕ → List ℕ → ℕ → ℕ → List ℕ → List ℕ → Ending
ends a o h k t u = record { answer = a; octets = o; head0 = h; head1 = k; tape0 = t; tape1 = u }

abbrev pub last_answer : List Turn → ℕ
last_answer [] = 0
last_answer (r ∷ []) = (row_of r.answer).number
last_answer (r ∷ (s ∷ rs)) = last_answer (s ∷ rs)

abbrev pub end_of : Run → Ending
end_of r =
    let w = run r.tapes r.events in
    ends (last_answer (turns r.tapes r.events)) w.core.port.octets w.core.drive0.head w.core.drive1.head w.lent.tape0
    w.lent.tape1

abbrev pub from : ℕ → ℕ → List (List ℕ) → Run
from n m es = record { tapes = fresh_world (replicate n 0) (replicate m 0) [] []; events = es }

-- A fresh unit's report of a loaded drive: CNI is no more, POR stands, BOM.
abbrev pub first_report : List ℕ
first_report = 0 ∷ 137 ∷ 0 ∷ 0 ∷ 0 ∷ 0 ∷ []

abbrev pub writing : List (List ℕ)
writing = ready ++ (online ++ command 64)

abbrev pub runs_to_check : List Run
runs_to_check =
    -- a command in the middle of a block, and after it
    from 2000 0 (writing ++ (giving 511 7 ++ command 192))
    ∷ from 2054 0 (writing ++ (giving 512 7 ++ command 192))
    -- a part block ended by RESET, and WRITE ended by the line
    ∷ from 2000 0 (writing ++ (giving 3 7 ++ reset))
    ∷ from 2000 0 (writing ++ offline)
    -- another cartridge between two reports
    ∷ from 16 0 (ready ++ (pull 0 ∷ (open_in 0 ++ report)))
    -- an underrun between two octets: this report, and the next
    ∷ from 16 0 (ready ++ (Events.command 192 ∷ fetch ∷ underrun 0 ∷ replicate 5 fetch))
    ∷ from 16 0 (ready ++ ((Events.command 192 ∷ fetch ∷ underrun 0 ∷ replicate 5 fetch) ++ report))
    -- three bytes left by drive 0, then a block of drive 1
    ∷ from 2000 2054 (writing ++ (giving 3 9 ++ (reset ++ (report ++ (open_in 1 ++ (command 2 ++ (report ++ (command 64 ++ giving 512 7))))))))
    -- drive 0 past a mark while the line falls with drive 1 selected
    ∷ from 16 16 (ready ++ (online ++ (command 96 ++ (command 2 ++ offline))))
    -- a mark by order, then the line falls
    ∷ from 2000 0 (writing ++ (command 96 ++ offline))
    ∷ []

abbrev pub endings : List Ending
endings =
    ends 2 first_report 0 0 (replicate 2000 0) []
    ∷ ends 0 (0 ∷ 0 ∷ 0 ∷ 0 ∷ 0 ∷ 0 ∷ []) 513 0 (1 ∷ (replicate 512 7 ++ replicate 1541 0)) []
    ∷ ends 1 first_report 0 0 (replicate 2000 0) []
    ∷ ends 0 first_report 0 0 (2 ∷ replicate 1999 0) []
    ∷ ends 0 (192 ∷ 136 ∷ 0 ∷ 0 ∷ 0 ∷ 0 ∷ []) 0 0 (replicate 16 0) []
    ∷ ends 0 (0 ∷ 136 ∷ 0 ∷ 0 ∷ 0 ∷ 0 ∷ []) 0 0 (replicate 16 0) []
    ∷ ends 0 (0 ∷ 136 ∷ 0 ∷ 0 ∷ 0 ∷ 1 ∷ []) 0 0 (replicate 16 0) []
    ∷ ends 0 (0 ∷ 137 ∷ 0 ∷ 0 ∷ 0 ∷ 0 ∷ []) 0 513 (replicate 2000 0) (1 ∷ (replicate 512 7 ++ replicate 1541 0))
    ∷ ends 0 first_report 1 0 (2 ∷ replicate 15 0) (replicate 16 0)
    ∷ ends 0 first_report 0 0 (2 ∷ replicate 1999 0) []
    ∷ []

abbrev pub RunsToCheckHold : Type 0
RunsToCheckHold = map end_of runs_to_check ≡ endings
