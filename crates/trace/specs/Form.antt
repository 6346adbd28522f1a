-- The cutting and document 01's table of events agree.
use Rattle.std.specs.Prelude.{ℕ, ◌≡◌, true, List, ◌++◌, length, take, None, Ok, Err}
use Rattle.rules.specs.declared.unit.Core.{Core}
use Rattle.rules.specs.Unit.{Lent}
use Rattle.rules.specs.Event.{event_of}
use Rattle.rules.specs.Refusal.{possible, short}
use Rattle.rules.specs.Run.{world, turn_of}
use Rattle.trace.specs.declared.cut.Cut.TheVariants.{UnknownKind, CutOff}
use Rattle.trace.specs.Cut.{cut_of}
use Rattle.trace.specs.Play.{stops}

pub record CutByTheTable : Type 0 where
  -- An event of the table is cut off whole, whatever comes behind it.
  pub whole : (e m : List ℕ) → (event_of e ≡ None → ⊥) → cut_of (e ++ m) ≡ Ok (length e)
  -- One byte of a kind unknown, and an event that is cut off, are no events of the table.
  pub unknown : (l : List ℕ) → cut_of l ≡ Err UnknownKind → event_of (take 1 l) ≡ None
  pub cut_off : (l : List ℕ) → cut_of l ≡ Err CutOff → event_of l ≡ None
  -- What is no event of the table stops the reading, in a possible record with tapes that are not too long.
  pub stopped : (c : Core) (l : Lent) (e : List ℕ) → possible c ≡ true → short l ≡ true → event_of e ≡ None
      → stops (turn_of (world c l) e).answer ≡ true
