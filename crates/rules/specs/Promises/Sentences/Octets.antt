-- Octets: what a report says of a drive's record.
use Rattle.std.specs.Prelude.{ℕ, true, false, List, [], ◌∷◌}
use Rattle.rules.specs.declared.drive.Latched.{Latched}
use Rattle.rules.specs.declared.drive.Mode.TheVariants.{Idle, Reading}
use Rattle.rules.specs.declared.phase.Phase.TheVariants.{Rest, Status}
use Rattle.rules.specs.Promises.Events.{command, fetch, error, underrun}
use Rattle.rules.specs.Promises.Sentences.Form.{says, hands, RD, Case, rows, row}
use Rattle.rules.specs.Promises.Sentences.Scene.{up, none, all, cni, eom, ude, bnl, fil, ill, ndt, por, Slot, full, odd, old_staging, port, among}
use Rattle.rules.specs.Promises.Sentences.Scene.{scene, gone, free, plugged}

-- A drive with this cartridge, head, bits and counters tells these six octets.
abbrev pub tells : Slot → ℕ → Latched → ℕ → ℕ → List ℕ → Case
tells s h k a b o =
    row (scene up Rest (full s h Idle true k a b) odd) (command 192) (says 0 RD)
    (among 2 (port 2 up (Status 6) o) old_staging (full s h Idle false none 0 0) odd)

-- Each bit has its place, and ST0 or ST1 stands where another bit of its octet does.
abbrev pub bits : List Case
bits =
    tells free 5 none 0 0 (0 ∷ 0 ∷ 0 ∷ 0 ∷ 0 ∷ 0 ∷ [])
    -- octet 0: CNI, EOM, UDE, BNL, FIL latched
    ∷ tells free 5 cni 0 0 (192 ∷ 0 ∷ 0 ∷ 0 ∷ 0 ∷ 0 ∷ [])
    ∷ tells free 5 eom 0 0 (136 ∷ 0 ∷ 0 ∷ 0 ∷ 0 ∷ 0 ∷ [])
    ∷ tells free 5 ude 0 0 (132 ∷ 0 ∷ 0 ∷ 0 ∷ 0 ∷ 0 ∷ [])
    ∷ tells free 5 bnl 0 0 (130 ∷ 0 ∷ 0 ∷ 0 ∷ 0 ∷ 0 ∷ [])
    ∷ tells free 5 fil 0 0 (129 ∷ 0 ∷ 0 ∷ 0 ∷ 0 ∷ 0 ∷ [])
    -- octet 1: ILL, NDT, POR latched
    ∷ tells free 5 ill 0 0 (0 ∷ 192 ∷ 0 ∷ 0 ∷ 0 ∷ 0 ∷ [])
    ∷ tells free 5 ndt 0 0 (0 ∷ 160 ∷ 0 ∷ 0 ∷ 0 ∷ 0 ∷ [])
    ∷ tells free 5 por 0 0 (0 ∷ 129 ∷ 0 ∷ 0 ∷ 0 ∷ 0 ∷ [])
    -- CNI of an empty slot; WRP of a plug
    ∷ tells gone 5 none 0 0 (192 ∷ 0 ∷ 0 ∷ 0 ∷ 0 ∷ 0 ∷ [])
    ∷ tells gone 5 cni 0 0 (192 ∷ 0 ∷ 0 ∷ 0 ∷ 0 ∷ 0 ∷ [])
    ∷ tells plugged 5 none 0 0 (144 ∷ 0 ∷ 0 ∷ 0 ∷ 0 ∷ 0 ∷ [])
    -- BOM of a cartridge at head 0, and not of an empty slot
    ∷ tells free 0 none 0 0 (0 ∷ 136 ∷ 0 ∷ 0 ∷ 0 ∷ 0 ∷ [])
    ∷ tells free 1 none 0 0 (0 ∷ 0 ∷ 0 ∷ 0 ∷ 0 ∷ 0 ∷ [])
    ∷ tells gone 0 none 0 0 (192 ∷ 0 ∷ 0 ∷ 0 ∷ 0 ∷ 0 ∷ [])
    -- all at once: USL, MBD, BPE, ERM stay 0
    ∷ tells plugged 0 all 0 0 (223 ∷ 233 ∷ 0 ∷ 0 ∷ 0 ∷ 0 ∷ [])
    ∷ []

-- Octets 2, 3: errors, high octet first; 4, 5: underruns; no sum of them.
abbrev pub counters : List Case
counters =
    tells free 5 none 258 515 (0 ∷ 0 ∷ 1 ∷ 2 ∷ 2 ∷ 3 ∷ [])
    ∷ tells free 5 none 65535 0 (0 ∷ 0 ∷ 255 ∷ 255 ∷ 0 ∷ 0 ∷ [])
    ∷ tells free 5 none 0 65535 (0 ∷ 0 ∷ 0 ∷ 0 ∷ 255 ∷ 255 ∷ [])
    ∷ tells free 5 none 255 256 (0 ∷ 0 ∷ 0 ∷ 255 ∷ 1 ∷ 0 ∷ [])
    ∷ tells free 5 none 4660 43981 (0 ∷ 0 ∷ 18 ∷ 52 ∷ 171 ∷ 205 ∷ [])
    ∷ []

-- A report from its order to its last octet, with a count in between that waits for the next one.
abbrev pub whole_report : List Case
whole_report =
    rows (scene up Rest (full plugged 0 Reading true all 258 515) odd)
    (command 192 ∷ fetch ∷ fetch ∷ underrun 2 ∷ error 2 ∷ error 2 ∷ fetch ∷ fetch ∷ fetch ∷ fetch ∷ command 192 ∷ fetch ∷ [])
    (says 0 RD
    ∷ hands 0 223 RD
    ∷ hands 0 233 RD
    ∷ says 0 RD
    ∷ says 0 RD
    ∷ says 0 RD
    ∷ hands 0 1 RD
    ∷ hands 0 2 RD
    ∷ hands 0 2 RD
    ∷ hands 0 3 RD
    ∷ says 0 RD
    ∷ hands 0 144 RD
    ∷ [])
    (among 2 (port 2 up (Status 5) (144 ∷ 136 ∷ 0 ∷ 2 ∷ 0 ∷ 1 ∷ [])) old_staging (full plugged 0 Reading false none 0 0) odd)
    ∷ []
