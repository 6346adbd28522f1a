-- Runs: the world that one event leaves is the world that the next one finds.
use Rattle.std.specs.Prelude.{ℕ, List, [], ◌∷◌, replicate}
use Rattle.tape.specs.Record.{body_size}
use Rattle.rules.specs.declared.unit.Core.{Core}
use Rattle.rules.specs.declared.answer.Turn.{Turn}
use Rattle.rules.specs.Unit.{Lent, lent, fresh_core}
use Rattle.rules.specs.Step.{step_of}

pub record World : Type 0 where
  pub core : Core
  pub lent : Lent

abbrev pub world : Core → Lent → World
world c l = record { core = c; lent = l }

unfoldable pub after : World → List ℕ → World
unfolding step_of
after w e = world (step_of w.core w.lent e).turn.core (step_of w.core w.lent e).lent

abbrev pub run : World → List (List ℕ) → World
run w [] = w
run w (e ∷ es) = run (after w e) es

-- What each event of a run was answered.
unfoldable pub turn_of : World → List ℕ → Turn
unfolding step_of
turn_of w e = (step_of w.core w.lent e).turn

abbrev pub turns : World → List (List ℕ) → List Turn
turns w [] = []
turns w (e ∷ es) = turn_of w e ∷ turns (after w e) es

-- Bytes given one after the other, event 02 for each; and so many taken, event 03 for each.
abbrev pub given_each : List ℕ → List (List ℕ)
given_each [] = []
given_each (b ∷ bs) = (2 ∷ b ∷ []) ∷ given_each bs

abbrev pub taken_times : ℕ → List (List ℕ)
taken_times n = replicate n (3 ∷ [])

-- A fresh unit with the tapes of its four drives.
abbrev pub fresh_world : List ℕ → List ℕ → List ℕ → List ℕ → World
fresh_world a b c d = world fresh_core (lent (replicate body_size 0) a b c d)
