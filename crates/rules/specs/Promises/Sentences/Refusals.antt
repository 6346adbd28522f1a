-- Answers 5, 4, 2 and 3: each leaves all as found.
use Rattle.std.specs.Prelude.{ℕ, ◌≡◌, Bool, true, false, ◌&&◌, List, [], ◌∷◌, ◌++◌, map, length, leb}
use Rattle.rules.specs.declared.drive.Drive.{Drive}
use Rattle.rules.specs.declared.drive.Mode.TheVariants.{Idle, Writing, Reading}
use Rattle.rules.specs.declared.phase.Phase.{Phase}
use Rattle.rules.specs.declared.phase.Phase.TheVariants.{Rest, Taking, Giving, Status}
use Rattle.rules.specs.declared.answer.Lines.{Lines}
use Rattle.rules.specs.declared.answer.Answer.{Answer}
use Rattle.rules.specs.declared.answer.Answer.TheVariants.{Taken, Raised, OutOfStep, WrongSlot, Malformed, Impossible, TooLong}
use Rattle.rules.specs.Answer.{Row, row_of}
use Rattle.rules.specs.Refusal.{short, refusal_by}
use Rattle.rules.specs.Run.{World}
use Rattle.rules.specs.Promises.Events.{joined, command, give, restart, fetch, rise, fall, cartridge, pull, error, underrun}
use Rattle.rules.specs.Promises.Sentences.Form.{R, RD, E, ED, D, O, Case, still}
use Rattle.rules.specs.Promises.Sentences.Scene.{up, low, none, quiet, loud, odd, old_octets, old_staging, port, among, scene, gone}
use Rattle.rules.specs.Promises.Sentences.Scene.{free, plugged, lent_as}

-- The answers: the number of each, whether it leaves all as found, whether the lines go down, whether a byte can come with it.
abbrev pub AnswersTold : Type 0
AnswersTold =
    map row_of (Taken ∷ Raised ∷ OutOfStep ∷ WrongSlot ∷ Malformed ∷ Impossible ∷ TooLong ∷ [])
    ≡ tells 0 false false true
    ∷ tells 1 false false true
    ∷ tells 2 true false false
    ∷ tells 3 true false false
    ∷ tells 4 true false false
    ∷ tells 5 true true false
    ∷ tells 6 true false false
    ∷ []
  where
    tells : ℕ → Bool → Bool → Bool → Row
    tells n r d g = record { number = n; refuses = r; lines_down = d; may_give = g }

-- 5 comes before all else, with the three lines down: RESET and a malformed event are answered so too.
abbrev pub never : World → List Case
never w = still w (command 192) 5 O ∷ still w restart 5 O ∷ still w [] 5 O ∷ []

-- What is just possible still takes an event: here one without bytes, answered 4, with the lines that the record has.
abbrev pub just : World → Lines → List Case
just w l = still w [] 4 l ∷ []

-- Drive i of the record, selected or not.
abbrev pub beside : ℕ → Drive → World
beside i d = among i (port 3 low Rest old_octets) old_staging d odd

abbrev pub on_each : Drive → List Case
on_each d = never (beside 0 d) ++ (never (beside 1 d) ++ (never (beside 2 d) ++ never (beside 3 d)))

abbrev pub just_on_each : Drive → Lines → List Case
just_on_each d l = just (beside 0 d) R ++ (just (beside 1 d) R ++ (just (beside 2 d) R ++ just (beside 3 d) l))

-- A plug without a cartridge.
abbrev pub plug_alone : Drive
plug_alone =
    record {
      head = 5;
      errors = record { 0 = 1 };
      underruns = record { 0 = 2 };
      loaded = false;
      protected = true;
      mode = Idle;
      late = 0;
      exception = false;
      latched = none;
    }

abbrev pub impossible : List Case
impossible =
    joined (
    -- selected above 3
    never (among 0 (port 4 up Rest old_octets) old_staging (quiet free 5 Idle) odd)
    -- a head above 16,777,216
    ∷ on_each (quiet free 16777217 Idle)
    ∷ just_on_each (quiet free 16777216 Idle) R
    -- a place in a block not 1 to 511
    ∷ never (scene up (Taking 0) (quiet free 5 Writing) odd)
    ∷ never (scene up (Taking 512) (quiet free 5 Writing) odd)
    ∷ just (scene up (Taking 1) (quiet free 5 Writing) odd) O
    ∷ just (scene up (Taking 511) (quiet free 5 Writing) odd) O
    ∷ never (scene up (Giving 0) (quiet free 5 Reading) odd)
    ∷ never (scene up (Giving 512) (quiet free 5 Reading) odd)
    ∷ just (scene up (Giving 1) (quiet free 5 Reading) odd) D
    ∷ just (scene up (Giving 511) (quiet free 5 Reading) odd) D
    -- octets outstanding not 1 to 6
    ∷ never (scene up (Status 0) (quiet free 5 Idle) odd)
    ∷ never (scene up (Status 7) (quiet free 5 Idle) odd)
    ∷ just (scene up (Status 1) (quiet free 5 Idle) odd) RD
    ∷ just (scene up (Status 6) (quiet free 5 Idle) odd) RD
    -- a part block given with the selected drive not Writing, or taken with it not Reading
    ∷ never (scene up (Taking 3) (quiet free 5 Idle) odd)
    ∷ never (scene up (Taking 3) (quiet free 5 Reading) odd)
    ∷ never (scene up (Giving 3) (quiet free 5 Idle) odd)
    ∷ never (scene up (Giving 3) (quiet free 5 Writing) odd)
    -- a drive not Idle with no cartridge, or Writing with a protected one
    ∷ on_each (quiet gone 5 Writing)
    ∷ on_each (quiet gone 5 Reading)
    ∷ on_each (quiet plugged 5 Writing)
    ∷ just_on_each (quiet plugged 5 Reading) RD
    ∷ just_on_each (quiet gone 5 Idle) R
    ∷ just_on_each (quiet plugged 5 Idle) R
    -- a drive protected with no cartridge
    ∷ on_each plug_alone
    ∷ [])

-- 6: each of the four tapes that are lent is looked at, the longest has 16,777,216 bytes. A law, since no run can be computed on a longer one.
abbrev pub fits : List ℕ → Bool
fits t = leb (length t) 16777216

abbrev pub TooLongIs : Type 0
TooLongIs = (g a b c d : List ℕ) → short (lent_as g a b c d) ≡ (fits a && (fits b && (fits c && fits d)))

-- 5 comes before 6, and 6 before whatever else would refuse.
abbrev pub FiveThenSix : Type 0
FiveThenSix =
    (a : Answer)
    → (refusal_by false true a ≡ Impossible) × (refusal_by false false a ≡ Impossible) × (refusal_by true false a ≡ TooLong) × (refusal_by true true a ≡ a)

-- 4: a kind unknown, a length wrong, a drive body of another form.
abbrev pub bad_events : List (List ℕ)
bad_events =
    []
    ∷ (0 ∷ []) ∷ (11 ∷ []) ∷ (255 ∷ []) ∷ (0 ∷ 0 ∷ []) ∷ (11 ∷ 0 ∷ [])
    ∷ (1 ∷ []) ∷ (2 ∷ []) ∷ (7 ∷ []) ∷ (8 ∷ []) ∷ (9 ∷ []) ∷ (10 ∷ [])
    ∷ (3 ∷ 0 ∷ []) ∷ (4 ∷ 0 ∷ []) ∷ (5 ∷ 0 ∷ []) ∷ (6 ∷ 0 ∷ [])
    ∷ (1 ∷ 192 ∷ 0 ∷ []) ∷ (2 ∷ 0 ∷ 0 ∷ []) ∷ (7 ∷ 3 ∷ 0 ∷ []) ∷ (3 ∷ 0 ∷ 0 ∷ [])
    ∷ (7 ∷ 4 ∷ []) ∷ (7 ∷ 127 ∷ []) ∷ (7 ∷ 132 ∷ []) ∷ (7 ∷ 255 ∷ [])
    ∷ (8 ∷ 4 ∷ []) ∷ (8 ∷ 128 ∷ []) ∷ (9 ∷ 4 ∷ []) ∷ (9 ∷ 128 ∷ []) ∷ (10 ∷ 4 ∷ []) ∷ (10 ∷ 128 ∷ [])
    ∷ []

abbrev pub malformed : List Case
malformed =
    map (λ (e : List ℕ). still (scene up Rest (quiet free 5 Idle) odd) e 4 R) bad_events
    ++ map (λ (e : List ℕ). still (scene up (Taking 3) (quiet free 5 Writing) odd) e 4 O) bad_events

-- 2: these events, refused in this phase of this drive.
abbrev pub out_of : Phase → Drive → Lines → List (List ℕ) → List Case
out_of ph d l es = map (λ (e : List ℕ). still (scene up ph d odd) e 2 l) es

abbrev pub out_of_step : List Case
out_of_step =
    joined (
    -- 01, 04, 05 outside Rest
    out_of (Taking 3) (quiet free 5 Writing) O (command 192 ∷ command 0 ∷ rise ∷ fall ∷ fetch ∷ [])
    ∷ out_of (Giving 3) (quiet free 5 Reading) D (command 192 ∷ command 0 ∷ rise ∷ fall ∷ give 1 ∷ [])
    ∷ out_of (Status 3) (quiet free 5 Writing) RD (command 192 ∷ command 0 ∷ rise ∷ fall ∷ give 1 ∷ [])
    -- 02 unless Writing without EXCEPTION, at Rest or Taking
    ∷ out_of (Taking 3) (loud free 5 Writing none) E (give 1 ∷ fetch ∷ [])
    ∷ out_of Rest (quiet free 5 Idle) R (give 1 ∷ fetch ∷ [])
    ∷ out_of Rest (quiet free 5 Reading) RD (give 1 ∷ [])
    ∷ out_of Rest (loud free 5 Writing none) E (give 1 ∷ fetch ∷ [])
    -- 03 unless Status, or Giving, or Reading without EXCEPTION at Rest
    ∷ out_of Rest (quiet free 5 Writing) R (fetch ∷ [])
    ∷ out_of Rest (loud free 5 Reading none) E (give 1 ∷ fetch ∷ [])
    ∷ [])

-- 3: cartridge in where one is; out, or a count, where none is. On each drive, selected or not, and in every phase.
abbrev pub slot_wrong : List (List ℕ) → ℕ → Drive → List Case
slot_wrong es i d = map (λ (e : List ℕ). still (beside i d) e 3 R) es

abbrev pub no_slot : List Case
no_slot =
    joined (
    slot_wrong (cartridge 0 ∷ cartridge 128 ∷ []) 0 (quiet free 5 Idle)
    ∷ slot_wrong (cartridge 1 ∷ cartridge 129 ∷ []) 1 (quiet plugged 5 Idle)
    ∷ slot_wrong (cartridge 2 ∷ cartridge 130 ∷ []) 2 (quiet free 5 Idle)
    ∷ slot_wrong (cartridge 3 ∷ cartridge 131 ∷ []) 3 (quiet plugged 5 Idle)
    ∷ slot_wrong (pull 0 ∷ error 0 ∷ underrun 0 ∷ []) 0 (quiet gone 5 Idle)
    ∷ slot_wrong (pull 1 ∷ error 1 ∷ underrun 1 ∷ []) 1 (quiet gone 5 Idle)
    ∷ slot_wrong (pull 2 ∷ error 2 ∷ underrun 2 ∷ []) 2 (quiet gone 5 Idle)
    ∷ slot_wrong (pull 3 ∷ error 3 ∷ underrun 3 ∷ []) 3 (quiet gone 5 Idle)
    ∷ map (λ (e : List ℕ). still (scene up (Taking 3) (quiet free 5 Writing) odd) e 3 O) (cartridge 2 ∷ pull 3 ∷ [])
    ∷ map (λ (e : List ℕ). still (scene up (Status 3) (loud gone 5 Idle none) odd) e 3 ED) (pull 2 ∷ error 2 ∷ underrun 2 ∷ [])
    ∷ [])
