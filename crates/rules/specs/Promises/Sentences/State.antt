-- State: a fresh unit, RESET, the lines.
use Rattle.std.specs.Prelude.{ℕ, ◌≡◌, Bool, true, List, [], ◌∷◌, map, replicate}
use Rattle.rules.specs.declared.drive.Drive.{Drive}
use Rattle.rules.specs.declared.drive.Mode.TheVariants.{Idle, Writing, Reading}
use Rattle.rules.specs.declared.phase.Phase.{Phase}
use Rattle.rules.specs.declared.phase.Phase.TheVariants.{Rest, Taking, Giving, Status}
use Rattle.rules.specs.declared.unit.Unit.{Unit}
use Rattle.rules.specs.declared.answer.Lines.{Lines}
use Rattle.rules.specs.Phase.{given_before, taken_before, outstanding, which_phase, how_far}
use Rattle.rules.specs.Run.{World, fresh_world}
use Rattle.rules.specs.Promises.Events.{restart}
use Rattle.rules.specs.Promises.Sentences.Form.{says, R, RD, E, ED, D, O, Case, rows, row, still}
use Rattle.rules.specs.Promises.Sentences.Scene.{up, low, none, all, eom, por, full, quiet, loud, odd, tape0, tape1, tape3, old_octets}
use Rattle.rules.specs.Promises.Sentences.Scene.{old_staging, port, lent_as, scene, gone, free, plugged}

-- A fresh drive: no cartridge or plug, head 0, Idle, counters 0, POR latched and EXCEPTION up.
abbrev pub new_drive : Drive
new_drive = full gone 0 Idle true por 0 0

-- A fresh unit: drive 0 selected, ONLINE low, Rest; staging block and octets 0.
abbrev pub new_unit : Unit
new_unit =
    record {
      core =
          record {
            port = port 0 low Rest (replicate 6 0);
            drive0 = new_drive;
            drive1 = new_drive;
            drive2 = new_drive;
            drive3 = new_drive;
          };
      staging = replicate 512 0;
    }

-- The world that runs from a fresh unit start in is that unit with its tapes.
abbrev pub starting : List Case
starting =
    rows (fresh_world tape0 tape1 [] tape3) [] [] (record { core = new_unit.core; lent = lent_as (replicate 512 0) tape0 tape1 [] tape3 }) ∷ []

-- RESET, in whatever phase: drive 0 selected, Rest; all heads and counters 0, all Idle, only POR, EXCEPTION up on all four.
-- Cartridges, plugs, tapes, the level, staging block and octets stay.
abbrev pub after_reset : Bool → World
after_reset level =
    record {
      core =
          record {
            port = port 0 level Rest old_octets;
            drive0 = full free 0 Idle true por 0 0;
            drive1 = full plugged 0 Idle true por 0 0;
            drive2 = full free 0 Idle true por 0 0;
            drive3 = full gone 0 Idle true por 0 0;
          };
      lent = lent_as old_staging tape0 tape1 odd tape3;
    }

abbrev pub resets : Bool → Phase → Drive → Case
resets level ph d = row (scene level ph d odd) restart (says 1 E) (after_reset level)

abbrev pub resetting : List Case
resetting =
    resets up Rest (quiet free 5 Idle)
    ∷ resets low Rest (loud free 5 Idle all)
    ∷ resets up (Taking 3) (quiet free 5 Writing)
    ∷ resets up (Giving 3) (quiet free 5 Reading)
    ∷ resets up (Status 4) (loud free 5 Writing eom)
    ∷ resets low (Status 1) (quiet free 5 Reading)
    ∷ []

-- EXCEPTION is the selected drive's. READY: no EXCEPTION, and Rest or Status. DIRECTION: Status, or Reading without EXCEPTION.
-- An event of no bytes changes nothing, and shows the lines.
abbrev pub lit : Phase → Drive → Lines → Case
lit ph d l = still (scene up ph d odd) [] 4 l

abbrev pub lit_lines : List Case
lit_lines =
    lit Rest (quiet free 5 Idle) R
    ∷ lit Rest (quiet free 5 Writing) R
    ∷ lit Rest (quiet free 5 Reading) RD
    ∷ lit Rest (loud free 5 Idle none) E
    ∷ lit Rest (loud free 5 Writing none) E
    ∷ lit Rest (loud free 5 Reading none) E
    ∷ lit (Taking 3) (quiet free 5 Writing) O
    ∷ lit (Taking 3) (loud free 5 Writing none) E
    ∷ lit (Giving 3) (quiet free 5 Reading) D
    ∷ lit (Giving 3) (loud free 5 Reading none) E
    ∷ lit (Status 3) (quiet free 5 Idle) RD
    ∷ lit (Status 3) (quiet free 5 Writing) RD
    ∷ lit (Status 3) (quiet free 5 Reading) RD
    ∷ lit (Status 3) (loud free 5 Idle none) ED
    ∷ lit (Status 3) (loud free 5 Writing none) ED
    ∷ lit (Status 3) (loud free 5 Reading none) ED
    ∷ []

-- The phase: which of the four, how many bytes were given or taken before, how many octets are outstanding.
pub record Told : Type 0 where
  pub which : ℕ
  pub far : ℕ
  pub given : ℕ
  pub taken : ℕ
  pub left : ℕ

abbrev pub tells : ℕ → ℕ → ℕ → ℕ → ℕ → Told
tells w f g t l = record { which = w; far = f; given = g; taken = t; left = l }

abbrev pub told_of : Phase → Told
told_of ph = tells (which_phase ph) (how_far ph) (given_before ph) (taken_before ph) (outstanding ph)

abbrev pub PhasesTold : Type 0
PhasesTold =
    map told_of (Rest ∷ Taking 5 ∷ Giving 6 ∷ Status 4 ∷ []) ≡ tells 0 0 0 0 0 ∷ tells 1 5 5 0 0 ∷ tells 2 6 0 6 0 ∷ tells 3 4 0 0 4 ∷ []
