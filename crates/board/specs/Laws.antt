-- What calls over bytes come to.
use Rattle.std.specs.Prelude.{ℕ, ◌≤◌, ◌≡◌, true, List, [], ◌∷◌, map, length}
use Rattle.rules.specs.declared.answer.Turn.{Turn}
use Rattle.rules.specs.Unit.{fresh_unit}
use Rattle.rules.specs.Run.{World, world, given_each, taken_times}
use Rattle.rules.specs.Ran.{Ran}
use Rattle.layout.specs.Number.{byte_at}
use Rattle.layout.specs.Read.{fits, is_record, core_of, staging_of, unit_of}
use Rattle.layout.specs.Laws.{Octets}
use Rattle.unit.specs.Handover.{up_to, turns_up_to}
use Rattle.board.specs.Serve.{Tapes, lent_with, result_bytes, Serves, Gives, Takes, Freshens, holds}

-- A fresh record is possible, and what it holds is the fresh unit.
abbrev pub FreshHeld : Type 0
FreshHeld = (l l' : List ℕ) (r : ℕ) → fits l ≡ true → Freshens l r l' → (holds l' ≡ true) × (unit_of l' ≡ fresh_unit)

-- Answers 2 to 6 leave the buffer and four tapes as found, byte for byte.
abbrev pub RefusedKeeps : Type 0
RefusedKeeps =
    (l : List ℕ) (t : Tapes) (event out l' : List ℕ) (t' : Tapes) → Octets l → Serves l t event out l' t' → 2 ≤ byte_at out 0 → (l' ≡ l) × (t' ≡ t)

-- A result that says that no byte was given has 0 in the byte's place.
abbrev pub NoByteIsZero : Type 0
NoByteIsZero =
    (l : List ℕ) (t : Tapes) (event out l' : List ℕ) (t' : Tapes) → Serves l t event out l' t' → byte_at out 1 ≡ 0 → byte_at out 2 ≡ 0

-- So does the result of many bytes given, and of many taken.
abbrev pub NoByteOfManyIsZero : Type 0
NoByteOfManyIsZero =
    (l : List ℕ) (t : Tapes) (bytes : List ℕ) (r : ℕ) (out l' : List ℕ) (t' : Tapes) → byte_at out 1 ≡ 0
    → (Gives l t bytes r out l' t' → byte_at out 2 ≡ 0) × ((bytes' : List ℕ) → Takes l t bytes r out l' t' bytes' → byte_at out 2 ≡ 0)

-- Calls one after the other, each buffer handed on as the last call left it.
pub data Used : List ℕ → Tapes → List (List ℕ) → List (List ℕ) → List ℕ → Tapes → Type 0 where
  no_call : {l : List ℕ} {t : Tapes} → Used l t [] [] l t
  next_call : {l l' l'' event out : List ℕ} {t t' t'' : Tapes} {events outs : List (List ℕ)}
      → Serves l t event out l' t' → Used l' t' events outs l'' t'' → Used l t (event ∷ events) (out ∷ outs) l'' t''

-- The unit that a buffer holds, with the tapes beside it.
abbrev pub world_of : List ℕ → Tapes → World
world_of l t = world (core_of l) (lent_with (staging_of l) t)

-- Calls are a run of the unit's step with the same events, and their results are its turns.
pub record AsUnit (l : List ℕ) (t : Tapes) (events outs : List (List ℕ)) (l' : List ℕ) (t' : Tapes) : Type 0 where
  pub turns : List Turn
  pub ran : Ran (world_of l t) events turns (world_of l' t')
  pub results : outs ≡ map result_bytes turns
  pub still : is_record l' ≡ true

-- Every list of calls on a record is such a run: what is proved of runs of the step is proved of calls.
abbrev pub CallsRun : Type 0
CallsRun =
    (l l' : List ℕ) (t t' : Tapes) (events outs : List (List ℕ)) → is_record l ≡ true → Used l t events outs l' t' → AsUnit l t events outs l' t'

-- Many bytes in one call are a run too, over the events that it ran: up to and with the first that is not answered 0.
pub record RunUpTo (l : List ℕ) (t : Tapes) (events : List (List ℕ)) (l' : List ℕ) (t' : Tapes) : Type 0 where
  pub ran : Ran (world_of l t) (up_to (world_of l t) events) (turns_up_to (world_of l t) events) (world_of l' t')
  pub still : is_record l' ≡ true

abbrev pub GivesRun : Type 0
GivesRun =
    (l l' : List ℕ) (t t' : Tapes) (bytes : List ℕ) (r : ℕ) (out : List ℕ) → is_record l ≡ true → Gives l t bytes r out l' t'
    → RunUpTo l t (given_each bytes) l' t'

abbrev pub TakesRun : Type 0
TakesRun =
    (l l' : List ℕ) (t t' : Tapes) (bytes : List ℕ) (r : ℕ) (out bytes' : List ℕ) → is_record l ≡ true → Takes l t bytes r out l' t' bytes'
    → RunUpTo l t (taken_times (length bytes)) l' t'
