-- Each public contract leaves one outcome: any two that it allows are equal.
use Rattle.std.specs.Prelude.{ℕ, ◌≡◌, List, Option}
use Rattle.rules.specs.declared.drive.Drive.{Drive}
use Rattle.rules.specs.declared.phase.Phase.{Phase}
use Rattle.rules.specs.declared.unit.Core.{Core}
use Rattle.rules.specs.declared.unit.Unit.{Unit}
use Rattle.rules.specs.declared.answer.Turn.{Turn}
use Rattle.rules.specs.Unit.{Lent, put_staging}
use Rattle.rules.specs.Step.{Steps}
use Rattle.rules.specs.Promises.Outcomes.{StepsOnce}
use Rattle.unit.specs.declared.many.Handed.{Handed}
use Rattle.unit.specs.declared.within.Inside.{Inside}
use Rattle.unit.specs.Within.{inside_of}
use Rattle.unit.specs.Ahead.{ReadsOn}
use Rattle.unit.specs.Handover.{GivesOver, TakesOver}

-- The four tapes.
abbrev pub SameTapes : Lent → Lent → Type 0
SameTapes l l' = (l.tape0 ≡ l'.tape0) × (l.tape1 ≡ l'.tape1) × (l.tape2 ≡ l'.tape2) × (l.tape3 ≡ l'.tape3)

pub record OneOutcome : Type 0 where
  -- Of `step_lent` and of `step_core`, which have one contract.
  pub step_core : StepsOnce
  -- Of `step`: the turn, the unit as it is left, and the four tapes.
  pub step : (c : Core) (l : Lent) (event : List ℕ) (r r' : Turn) (u u' : Unit) (l' l'' : Lent)
      → Steps c l event r (put_staging l' u.staging) → u.core ≡ r.core → Steps c l event r' (put_staging l'' u'.staging) → u'.core ≡ r'.core
      → (r ≡ r') × ((u ≡ u') × SameTapes l' l'')
  pub within_block : (ph : Phase) (d : Drive) (t event : List ℕ) (r r' : Option Inside)
      → r ≡ inside_of ph d t event → r' ≡ inside_of ph d t event → r ≡ r'
  pub read_on : (d : Drive) (t : List ℕ) (ph : Phase) (out : List ℕ) (r r' : ℕ) (out' out'' : List ℕ)
      → ReadsOn d t ph out r out' → ReadsOn d t ph out r' out'' → (r ≡ r') × (out' ≡ out'')
  pub give_bytes : (c : Core) (l : Lent) (bytes : List ℕ) (r r' : Handed) (l' l'' : Lent)
      → GivesOver c l bytes r l' → GivesOver c l bytes r' l'' → (r ≡ r') × (l' ≡ l'')
  pub take_bytes : (c : Core) (l : Lent) (out : List ℕ) (r r' : Handed) (l' l'' : Lent) (out' out'' : List ℕ)
      → TakesOver c l out r l' out' → TakesOver c l out r' l'' out'' → (r ≡ r') × (l' ≡ l'') × (out' ≡ out'')
