-- A run of the step: each record and tape handed on as it was handed back.
use Rattle.std.specs.Prelude.{ℕ, ◌≡◌, List, [], ◌∷◌, ◌++◌, length}
use Rattle.rules.specs.declared.unit.Core.{Core}
use Rattle.rules.specs.declared.answer.Turn.{Turn}
use Rattle.rules.specs.Unit.{Lent}
use Rattle.rules.specs.Step.{Steps}
use Rattle.rules.specs.Run.{World, world, after, run, turn_of, turns}

-- From a world, over a list of events, with what each was answered, to the world that is left.
-- Of each event no more is known than the contract that `step` and `step_core` share.
pub data Ran : World → List (List ℕ) → List Turn → World → Type 0 where
  no_events : {w : World} → Ran w [] [] w
  next : {c : Core} {l l' : Lent} {event : List ℕ} {events : List (List ℕ)} {r : Turn} {rs : List Turn} {w : World}
      → Steps c l event r l' → Ran (world r.core l') events rs w → Ran (world c l) (event ∷ events) (r ∷ rs) w

-- The core and every byte lent, and all that was answered, are the book's.
pub record AsTheBook (w : World) (events : List (List ℕ)) (rs : List Turn) (w' : World) : Type 0 where
  pub left : w' ≡ run w events
  pub answered : rs ≡ turns w events

abbrev pub RunsAreTheBooks : Type 0
RunsAreTheBooks = (w w' : World) (events : List (List ℕ)) (rs : List Turn) → Ran w events rs w' → AsTheBook w events rs w'

-- What a loop over the step leaves of a core and of what is lent, after these events: the book's run.
abbrev pub RunsTo : Core → Lent → List (List ℕ) → Core → Lent → Type 0
RunsTo c l events c' l' = world c' l' ≡ run (world c l) events

-- There is such a run of every list of events.
abbrev pub EveryRun : Type 0
EveryRun = (w : World) (events : List (List ℕ)) → Ran w events (turns w events) (run w events)

-- One step, as the book's run has it.
pub record AsOne (w : World) (event : List ℕ) (r : Turn) (w' : World) : Type 0 where
  pub left : after w event ≡ w'
  pub answered : turn_of w event ≡ r

abbrev pub StepsAreTheBooks : Type 0
StepsAreTheBooks = (c : Core) (l : Lent) (event : List ℕ) (r : Turn) (l' : Lent) → Steps c l event r l'
    → AsOne (world c l) event r (world r.core l')

-- ONE LAW for every loop that calls the step:
-- where the event stepped is the first of those still to come, the run of the others from what the step left is the run
-- that was to come, and its answer is the first of that run's.
pub record Goes (c : Core) (l : Lent) (event : List ℕ) (r : Turn) (l' : Lent) (still rest : List (List ℕ)) : Type 0 where
  pub run_on : run (world r.core l') rest ≡ run (world c l) still
  pub turns_on : r ∷ turns (world r.core l') rest ≡ turns (world c l) still

abbrev pub LoopGoesOn : Type 0
LoopGoesOn =
    (c : Core) (l : Lent) (event : List ℕ) (r : Turn) (l' : Lent) (still rest : List (List ℕ))
    → Steps c l event r l' → still ≡ event ∷ rest → Goes c l event r l' still rest

-- Each tape has the length that it had.
pub record SameSizes (l l₀ : Lent) : Type 0 where
  pub size0 : length l.tape0 ≡ length l₀.tape0
  pub size1 : length l.tape1 ≡ length l₀.tape1
  pub size2 : length l.tape2 ≡ length l₀.tape2
  pub size3 : length l.tape3 ≡ length l₀.tape3

-- Where such a loop stands that began with core c₀ and what is lent as l₀: what is still to come leads where all of it led.
pub record UnderWay (c₀ : Core) (l₀ : Lent) (whole : List (List ℕ)) (c : Core) (l : Lent) (still : List (List ℕ)) : Type 0 where
  pub leads : run (world c l) still ≡ run (world c₀ l₀) whole
  pub sizes : SameSizes l l₀

-- It stands so where it begins, after each step, and where nothing is left it has run to the end.
pub record LoopLaws : Type 0 where
  pub begins : (c : Core) (l : Lent) (whole : List (List ℕ)) → UnderWay c l whole c l whole
  pub goes_on : {c₀ c : Core} {l₀ l l' : Lent} {whole still rest : List (List ℕ)} {event : List ℕ} {r : Turn}
      → UnderWay c₀ l₀ whole c l still → Steps c l event r l' → still ≡ event ∷ rest → SameSizes l' l → UnderWay c₀ l₀ whole r.core l' rest
  pub ends : {c₀ c : Core} {l₀ l : Lent} {whole still : List (List ℕ)} → UnderWay c₀ l₀ whole c l still → still ≡ [] → RunsTo c₀ l₀ whole c l

-- The laws of a run: no event, one event, and one list of events after another.
pub record RunLaws : Type 0 where
  pub run_none : (w : World) → run w [] ≡ w
  pub run_one : (w : World) (event : List ℕ) → run w (event ∷ []) ≡ after w event
  pub run_append : (w : World) (es fs : List (List ℕ)) → run w (es ++ fs) ≡ run (run w es) fs
  pub turns_none : (w : World) → turns w [] ≡ []
  pub turns_one : (w : World) (event : List ℕ) → turns w (event ∷ []) ≡ turn_of w event ∷ []
  pub turns_append : (w : World) (es fs : List (List ℕ)) → turns w (es ++ fs) ≡ turns w es ++ turns (run w es) fs

-- The same of a run of the step: two runs, the second from where the first ended, are one.
abbrev pub RanAppend : Type 0
RanAppend =
    (w w' w'' : World) (es fs : List (List ℕ)) (rs ss : List Turn) → Ran w es rs w' → Ran w' fs ss w'' → Ran w (es ++ fs) (rs ++ ss) w''
