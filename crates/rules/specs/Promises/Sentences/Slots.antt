-- Cartridges and counts: what happens at a drive that an event names.
use Rattle.std.specs.Prelude.{ℕ, true, false, List, [], ◌∷◌, ◌++◌}
use Rattle.rules.specs.declared.drive.Drive.{Drive}
use Rattle.rules.specs.declared.drive.Mode.TheVariants.{Idle, Writing, Reading}
use Rattle.rules.specs.declared.phase.Phase.{Phase}
use Rattle.rules.specs.declared.phase.Phase.TheVariants.{Rest, Taking, Giving, Status}
use Rattle.rules.specs.declared.answer.Lines.{Lines}
use Rattle.rules.specs.Run.{World}
use Rattle.rules.specs.Promises.Events.{command, cartridge, pull, error, underrun}
use Rattle.rules.specs.Promises.Sentences.Form.{says, R, RD, E, ED, D, O, Case, rows, row}
use Rattle.rules.specs.Promises.Sentences.Scene.{up, none, all, cni, eom, fil, also, all_but, full, quiet, loud, odd, lead, old_octets}
use Rattle.rules.specs.Promises.Sentences.Scene.{old_staging, port, among, at, scene, gone, free, plugged}

-- Drive i, where drive n is selected and in this phase.
abbrev pub besides : ℕ → Phase → ℕ → Drive → World
besides n ph i d = among i (port n up ph old_octets) old_staging d odd

-- Drive i at an event, while drive 1 is selected, which has EXCEPTION up.
abbrev pub away : ℕ → List ℕ → Drive → ℕ → Drive → Case
away i e d a d' = row (besides 1 Rest i d) e (says a E) (besides 1 Rest i d')

-- Drive 2, selected, at an event: phase before and after.
abbrev pub here : Phase → List ℕ → Drive → ℕ → Lines → Phase → Drive → Case
here ph e d a l ph' d' = row (scene up ph d odd) e (says a l) (scene up ph' d' odd)

-- Cartridge in: loaded, plug as given, head 0; bits, counters, EXCEPTION and the phase stay.
abbrev pub coming_in : List Case
coming_in =
    away 0 (cartridge 0) (loud gone 5 Idle all) 0 (loud free 0 Idle all)
    ∷ away 0 (cartridge 128) (quiet gone 5 Idle) 0 (quiet plugged 0 Idle)
    ∷ away 2 (cartridge 2) (loud gone 5 Idle cni) 0 (loud free 0 Idle cni)
    ∷ away 2 (cartridge 130) (loud gone 5 Idle cni) 0 (loud plugged 0 Idle cni)
    ∷ away 3 (cartridge 3) (loud gone 5 Idle fil) 0 (loud free 0 Idle fil)
    ∷ away 3 (cartridge 131) (loud gone 5 Idle fil) 0 (loud plugged 0 Idle fil)
    ∷ row (besides 3 Rest 1 (loud gone 5 Idle cni)) (cartridge 1) (says 0 R) (besides 3 Rest 1 (loud free 0 Idle cni))
    ∷ row (besides 3 Rest 1 (loud gone 5 Idle cni)) (cartridge 129) (says 0 R) (besides 3 Rest 1 (loud plugged 0 Idle cni))
    ∷ here Rest (cartridge 2) (loud gone 5 Idle cni) 0 E Rest (loud free 0 Idle cni)
    ∷ here Rest (cartridge 130) (quiet gone 5 Idle) 0 R Rest (quiet plugged 0 Idle)
    ∷ here (Status 3) (cartridge 2) (quiet gone 5 Idle) 0 RD (Status 3) (quiet free 0 Idle)
    ∷ []

-- Out: not loaded, not protected, head 0, Idle, CNI latched, EXCEPTION; the bits and counters that stand stay.
-- Of the selected drive: a part block is dropped and the phase is Rest, but Status stays. Of another drive: the phase stays.
abbrev pub going_out : List Case
going_out =
    here Rest (pull 2) (quiet free 5 Idle) 1 E Rest (loud gone 0 Idle cni)
    ∷ here Rest (pull 2) (quiet plugged 5 Reading) 1 E Rest (loud gone 0 Idle cni)
    ∷ here Rest (pull 2) (loud free 5 Writing eom) 1 E Rest (loud gone 0 Idle (also eom cni))
    ∷ here Rest (pull 2) (loud free 5 Idle (all_but cni)) 1 E Rest (loud gone 0 Idle all)
    ∷ here (Taking 3) (pull 2) (quiet free 5 Writing) 1 E Rest (loud gone 0 Idle cni)
    ∷ here (Giving 3) (pull 2) (quiet free 5 Reading) 1 E Rest (loud gone 0 Idle cni)
    ∷ here (Status 3) (pull 2) (quiet free 5 Writing) 1 ED (Status 3) (loud gone 0 Idle cni)
    ∷ away 0 (pull 0) (quiet free 5 Writing) 1 (loud gone 0 Idle cni)
    ∷ away 2 (pull 2) (quiet plugged 5 Idle) 1 (loud gone 0 Idle cni)
    ∷ away 3 (pull 3) (quiet free 5 Reading) 1 (loud gone 0 Idle cni)
    ∷ row (besides 3 Rest 1 (quiet free 5 Reading)) (pull 1) (says 1 R) (besides 3 Rest 1 (loud gone 0 Idle cni))
    ∷ row (besides 0 (Giving 3) 2 (quiet free 5 Writing)) (pull 2) (says 1 D) (besides 0 (Giving 3) 2 (loud gone 0 Idle cni))
    ∷ row (besides 2 (Taking 3) 0 (quiet free 5 Reading)) (pull 0) (says 1 E) (besides 2 (Taking 3) 0 (loud gone 0 Idle cni))
    ∷ []

-- A count raises that drive's one counter, up to 65,535 and no further; nothing else changes, in no phase.
abbrev pub counting : List Case
counting =
    here Rest (error 2) (quiet free 5 Idle) 0 R Rest (full free 5 Idle false none 259 515)
    ∷ here Rest (underrun 2) (quiet free 5 Idle) 0 R Rest (full free 5 Idle false none 258 516)
    ∷ here (Taking 3) (error 2) (quiet free 5 Writing) 0 O (Taking 3) (full free 5 Writing false none 259 515)
    ∷ here (Giving 3) (underrun 2) (quiet free 5 Reading) 0 D (Giving 3) (full free 5 Reading false none 258 516)
    ∷ here (Status 3) (underrun 2) (loud plugged 5 Reading fil) 0 ED (Status 3) (full plugged 5 Reading true fil 258 516)
    ∷ rows (scene up Rest (full free 5 Idle false none 65534 65533) odd) (error 2 ∷ underrun 2 ∷ error 2 ∷ [])
    (says 0 R ∷ says 0 R ∷ says 0 R ∷ [])
    (scene up Rest (full free 5 Idle false none 65535 65534) odd)
    ∷ rows (scene up Rest (full free 5 Idle false none 0 65534) odd) (underrun 2 ∷ underrun 2 ∷ error 2 ∷ [])
    (says 0 R ∷ says 0 R ∷ says 0 R ∷ [])
    (scene up Rest (full free 5 Idle false none 1 65535) odd)
    ∷ away 0 (error 0) (quiet free 5 Idle) 0 (full free 5 Idle false none 259 515)
    ∷ away 0 (underrun 0) (quiet free 5 Idle) 0 (full free 5 Idle false none 258 516)
    ∷ away 2 (error 2) (quiet free 5 Writing) 0 (full free 5 Writing false none 259 515)
    ∷ away 3 (error 3) (quiet free 5 Idle) 0 (full free 5 Idle false none 259 515)
    ∷ away 3 (underrun 3) (quiet free 5 Idle) 0 (full free 5 Idle false none 258 516)
    ∷ row (besides 3 Rest 1 (quiet free 5 Idle)) (error 1) (says 0 R) (besides 3 Rest 1 (full free 5 Idle false none 259 515))
    ∷ row (besides 3 Rest 1 (quiet free 5 Idle)) (underrun 1) (says 0 R) (besides 3 Rest 1 (full free 5 Idle false none 258 516))
    ∷ []

-- Each drive, when it is selected, has its own record and its own tape: a mark.
abbrev pub marked : ℕ → Case
marked i =
    row (at i up Rest (quiet free 5 Writing) odd) (command 96) (says 0 R) (at i up Rest (quiet free 6 Idle) (lead ++ (2 ∷ 0 ∷ 2 ∷ 1 ∷ [])))

abbrev pub own_tape : List Case
own_tape = marked 0 ∷ marked 1 ∷ marked 2 ∷ marked 3 ∷ []
