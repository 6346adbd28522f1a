-- ONLINE raised and dropped.
use Rattle.std.specs.Prelude.{ℕ, Bool, List, [], ◌∷◌, ◌++◌}
use Rattle.rules.specs.declared.drive.Drive.{Drive}
use Rattle.rules.specs.declared.drive.Mode.TheVariants.{Idle, Writing, Reading}
use Rattle.rules.specs.declared.phase.Phase.TheVariants.{Rest}
use Rattle.rules.specs.declared.answer.Lines.{Lines}
use Rattle.rules.specs.Promises.Events.{rise, fall}
use Rattle.rules.specs.Promises.Sentences.Form.{says, R, RD, E, Case, row}
use Rattle.rules.specs.Promises.Sentences.Scene.{up, low, none, cni, eom, fil, quiet, loud, odd, lead, scene, gone, free, plugged}

-- The level that it was; record and tape before; answer and lines; record and tape after.
abbrev pub falls : Bool → Drive → List ℕ → ℕ → Lines → Drive → List ℕ → Case
falls level d t a l d' t' = row (scene level Rest d t) fall (says a l) (scene low Rest d' t')

abbrev pub rises : Bool → Drive → Lines → Case
rises level d l = row (scene level Rest d odd) rise (says 0 l) (scene up Rest d odd)

-- Raised: the level, and nothing else; a level repeated changes nothing.
abbrev pub rising : List Case
rising =
    rises low (quiet free 5 Idle) R
    ∷ rises low (quiet free 5 Writing) R
    ∷ rises low (quiet free 5 Reading) RD
    ∷ rises low (loud free 5 Writing fil) E
    ∷ rises low (quiet gone 5 Idle) R
    ∷ rises up (quiet free 5 Writing) R
    ∷ rises up (loud free 5 Reading fil) E
    ∷ []

abbrev pub falling : List Case
falling =
    -- loaded and without EXCEPTION: Idle, head 0
    falls up (quiet free 5 Idle) odd 0 R (quiet free 0 Idle) odd
    ∷ falls up (quiet free 5 Reading) odd 0 R (quiet free 0 Idle) odd
    ∷ falls up (quiet plugged 5 Reading) odd 0 R (quiet plugged 0 Idle) odd
    ∷ falls up (quiet free 10 Idle) odd 0 R (quiet free 0 Idle) odd
    ∷ falls up (quiet free 10 Reading) odd 0 R (quiet free 0 Idle) odd
    -- Writing: a mark first, at the head, also in the last byte
    ∷ falls up (quiet free 5 Writing) odd 0 R (quiet free 0 Idle) (lead ++ (2 ∷ 0 ∷ 2 ∷ 1 ∷ []))
    ∷ falls up (quiet free 8 Writing) odd 0 R (quiet free 0 Idle) (lead ++ (4 ∷ 3 ∷ 2 ∷ 2 ∷ []))
    -- Writing without room for it: EOM, Idle, the head stays
    ∷ falls up (quiet free 9 Writing) odd 1 E (loud free 9 Idle eom) odd
    ∷ falls up (quiet free 10 Writing) odd 1 E (loud free 10 Idle eom) odd
    -- with EXCEPTION up: Idle, and nothing else
    ∷ falls up (loud free 5 Idle fil) odd 0 E (loud free 5 Idle fil) odd
    ∷ falls up (loud free 5 Writing fil) odd 0 E (loud free 5 Idle fil) odd
    ∷ falls up (loud free 9 Writing fil) odd 0 E (loud free 9 Idle fil) odd
    ∷ falls up (loud free 5 Reading none) odd 0 E (loud free 5 Idle none) odd
    ∷ falls up (loud gone 5 Idle cni) odd 0 E (loud gone 5 Idle cni) odd
    -- neither: only the level falls
    ∷ falls up (quiet gone 5 Idle) odd 0 R (quiet gone 5 Idle) odd
    -- a level repeated changes nothing
    ∷ falls low (quiet free 5 Idle) odd 0 R (quiet free 5 Idle) odd
    ∷ falls low (quiet free 5 Writing) odd 0 R (quiet free 5 Writing) odd
    ∷ falls low (quiet free 9 Writing) odd 0 R (quiet free 9 Writing) odd
    ∷ falls low (quiet free 5 Reading) odd 0 RD (quiet free 5 Reading) odd
    ∷ falls low (loud free 5 Writing fil) odd 0 E (loud free 5 Writing fil) odd
    ∷ []
