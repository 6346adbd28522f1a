-- What rigs do at the end of a tape, as a run: a trial closed past early warning, and all of it read back.
use Rattle.std.specs.Prelude.{ℕ, ◌≡◌, false, List, [], ◌∷◌, ◌++◌, replicate}
use Rattle.rules.specs.declared.drive.Mode.TheVariants.{Idle}
use Rattle.rules.specs.declared.phase.Phase.TheVariants.{Rest}
use Rattle.rules.specs.Run.{World, world, run, turns, fresh_world}
use Rattle.rules.specs.Promises.Runs.{report, command, online, giving, ready}
use Rattle.rules.specs.Promises.Strike.{reading, HandedOut}
use Rattle.rules.specs.Promises.Sentences.Scene.{up, none, full, port, free, lent_as}
use Rattle.rules.specs.Promises.Sentences.State.{new_drive}

-- A unit with a tape in drive 0 alone, Idle at head h behind a report that said 88 00, with this staging block.
abbrev pub reported : ℕ → List ℕ → List ℕ → World
reported h g t =
    world
    (record {
      port = port 0 up Rest (136 ∷ replicate 5 0);
      drive0 = full free h Idle false none 0 0;
      drive1 = new_drive;
      drive2 = new_drive;
      drive3 = new_drive;
    })
    (lent_as g t [] [] [])

-- L = 1541, from a fresh unit: an ordinary block, EOM and its report.
abbrev pub warned : World
warned = reported 513 (replicate 512 7) (1 ∷ (replicate 512 7 ++ replicate 1028 0))

abbrev pub WarningComes : Type 0
WarningComes = run (fresh_world (replicate 1541 0) [] [] []) (ready ++ (online ++ (command 64 ++ (giving 512 7 ++ report)))) ≡ warned

-- A late WRITE of two blocks, EOM and its report, and the closing mark: all but one byte of the tape are full.
abbrev pub closed : World
closed = reported 1540 (replicate 512 9) (1 ∷ (replicate 512 7 ++ (1 ∷ (replicate 512 8 ++ (1 ∷ (replicate 512 9 ++ (2 ∷ 0 ∷ [])))))))

abbrev pub TrialCloses : Type 0
TrialCloses = run warned (command 64 ++ (giving 512 8 ++ (giving 512 9 ++ (report ++ command 96)))) ≡ closed

-- From BOT the three blocks come back, and then FIL, with the head past the mark.
abbrev pub three_blocks : List (List ℕ)
three_blocks = replicate 512 7 ∷ replicate 512 8 ∷ replicate 512 9 ∷ []

abbrev pub TrialComesBack : Type 0
TrialComesBack =
    let w = run closed (command 33) in
    HandedOut w (run w (reading 3)) three_blocks (turns w (reading 3))
