-- The demands hold of the code: they are theorems of the book, and a run of the step is the book's.
use Rattle.std.specs.Prelude.{ℕ, ◌≤◌, ◌≡◌, true, false, List, [], ◌∷◌, ◌++◌, length, Ok, Some}
use Rattle.tape.specs.Walk.{trail, past_marks}
use Rattle.rules.specs.declared.unit.Core.{Core}
use Rattle.rules.specs.declared.event.Act.TheVariants.{Command}
use Rattle.rules.specs.declared.event.Event.TheVariants.{Own}
use Rattle.rules.specs.declared.answer.Turn.{Turn}
use Rattle.rules.specs.Unit.{Lent, Whole, drive_at, tape_at, fresh_core}
use Rattle.rules.specs.Event.{event_of}
use Rattle.rules.specs.Answer.{row_of}
use Rattle.rules.specs.Refusal.{possible, short}
use Rattle.rules.specs.Step.{stepped, Steps}
use Rattle.rules.specs.Run.{World, run, fresh_world}
use Rattle.rules.specs.Reach.{Change, real_change, any_level, Gave, reaches_by, gave_by, only_if, reached}
use Rattle.rules.specs.Promises.Table.{answer_to, Table}
use Rattle.rules.specs.Promises.Refused.{AsFound, ByteRules}
use Rattle.rules.specs.Promises.Orders.{IllegalRules}
use Rattle.rules.specs.Promises.Status.{ByStatus}
use Rattle.rules.specs.Promises.BadKinds.{KindTold}
use Rattle.rules.specs.Promises.Plug.{means_drive}
use Rattle.rules.specs.Promises.Changes.{LastGiven, LastByte, Happens}
use Rattle.rules.specs.Promises.Changes
use Rattle.rules.specs.Promises.Events.{joined}
use Rattle.rules.specs.Promises.Strike.{drive_of, tape_of, MayRecord, AllWhole, AllTaken, recording, reading, Back, passing, HandedOut, bytes_of, handed_by}
use Rattle.rules.specs.Promises.Late.{LateMove, Behind, EomOrOn, AtMostTwo}
use Rattle.rules.specs.Promises.Demand3.{Alike}
use Rattle.rules.specs.Ran.{Ran, RunsAreTheBooks}

-- What reached drive d in a run that began with core c, and what it gave, read off what the step handed back.
abbrev pub reached_in : Change → ℕ → Core → List (List ℕ) → List Turn → List (List ℕ)
reached_in k d c [] rs = []
reached_in k d c (e ∷ es) [] = []
reached_in k d c (e ∷ es) (r ∷ rs) =
    only_if (reaches_by k d c.port.selected c.port.online r.answer (event_of e)) e (reached_in k d r.core es rs)

abbrev pub gave_in : Change → ℕ → Core → List (List ℕ) → List Turn → List Gave
gave_in k d c [] rs = []
gave_in k d c (e ∷ es) [] = []
gave_in k d c (e ∷ es) (r ∷ rs) =
    only_if (reaches_by k d c.port.selected c.port.online r.answer (event_of e)) (gave_by d c.port.selected (event_of e) r)
    (gave_in k d r.core es rs)

-- Two runs of the step from a fresh unit, any tapes of allowed length that agree on drive d's, any events:
-- where the same events reach the drive in the same order,
-- it ends the same and gave the same.
abbrev pub OneDrive : Change → Type 0
OneDrive k =
    (d : ℕ) → d ≤ 3 → (a b c e a' b' c' e' : List ℕ)
    → short (fresh_world a b c e).lent ≡ true → short (fresh_world a' b' c' e').lent ≡ true
    → tape_at (fresh_world a b c e).lent d ≡ tape_at (fresh_world a' b' c' e').lent d
    → (es es' : List (List ℕ)) (rs rs' : List Turn) (w w' : World) → Ran (fresh_world a b c e) es rs w → Ran (fresh_world a' b' c' e') es' rs' w'
    → reached_in k d fresh_core es rs ≡ reached_in k d fresh_core es' rs'
    → Alike d w w' × (gave_in k d fresh_core es rs ≡ gave_in k d fresh_core es' rs')

-- A strike, by three runs of the step, each from where the last one ended: recorded, looked for, handed out as it was given.
abbrev pub ComesBack : Type 0
ComesBack =
    (w w₁ w₂ w₃ : World) (bs : List (List ℕ)) (k : ℕ) (back : List (List ℕ)) (rs₁ rs₂ rs₃ : List Turn) → AllWhole bs → MayRecord w (length bs)
    → past_marks k (trail (tape_of w) 0) ≡ Ok (drive_of w).head → Back back
    → Ran w (recording bs) rs₁ w₁ → Ran w₁ (back ++ passing k) rs₂ w₂ → Ran w₂ (reading (length bs)) rs₃ w₃
    → AllTaken rs₁ × HandedOut w₂ w₃ bs rs₃

-- The same in a run with anything in between that leaves alone what reaches the drive.
abbrev pub ComesBackAmongOthers : Type 0
ComesBackAmongOthers =
    (d : ℕ) → d ≤ 3 → (a b c e : List ℕ) → short (fresh_world a b c e).lent ≡ true → (before es bs : List (List ℕ)) (k : ℕ) (back : List (List ℕ))
    → let w = run (fresh_world a b c e) before in
    w.core.port.selected ≡ d → AllWhole bs → MayRecord w (length bs)
    → past_marks k (trail (tape_of w) 0) ≡ Ok (drive_of w).head → Back back
    → (rs : List Turn) (w' : World) → Ran (fresh_world a b c e) es rs w'
    → let way = before ++ (recording bs ++ (back ++ passing k)) in
    reached_in real_change d fresh_core es rs ≡ reached real_change d (fresh_world a b c e) (way ++ reading (length bs))
    → bytes_of (gave_in real_change d fresh_core es rs) ≡ handed_by d (fresh_world a b c e) way ++ joined bs

-- Demand 1 of one event, where r and l' are what the step handed back and left.
module _ (c : Core) (l : Lent) (event : List ℕ) (r : Turn) (l' : Lent) where
  pub record Answered : Type 0 where
    -- The answer is the one that the table gives, and a refused event leaves all as found.
    pub answer : r.answer ≡ answer_to c l event
    pub table : Table c l event
    pub refused : (row_of r.answer).refuses ≡ true → AsFound c l (stepped r l')

  -- Demand 2 of one event, and the rule between the operator and the desk.
  pub record ByTheRules : Type 0 where
    -- An order is illegal exactly by the first four tests, and then changes no tape, head or mode.
    pub illegal : (k : ℕ) → event_of event ≡ Some (Own (Command k)) → (row_of r.answer).refuses ≡ false → IllegalRules c l k (stepped r l')
    -- A drive's EXCEPTION falls only by READ STATUS.
    pub exception : (i : ℕ) → i ≤ 3 → (drive_at c i).exception ≡ true → (drive_at r.core i).exception ≡ false → ByStatus c event i
    -- UDE by its rules, and BNL with it exactly where nobody knows the kind at the head.
    pub kind : KindTold c l event (stepped r l')
    -- A byte comes with event 03 answered 0, and besides as byte 512; and so it does not come otherwise.
    pub bytes : ByteRules c l event (stepped r l')
    -- The plug, then the cable: a protected tape stays, and so does every one but the selected drive's.
    pub plug : (i : ℕ) → i ≤ 3 → (drive_at c i).protected ≡ true → tape_at l' i ≡ tape_at l i
    pub cable : (i : ℕ) → i ≤ 3 → (c.port.selected ≡ i → ⊥) → tape_at l' i ≡ tape_at l i
    pub cable_record : (i : ℕ) → i ≤ 3 → (c.port.selected ≡ i → ⊥) → means_drive (event_of event) i ≡ false → drive_at r.core i ≡ drive_at c i
    -- What changes the selected drive's tape, and when.
    pub change : Changes.Change c l event (tape_at l' c.port.selected)
    pub happens : Happens c l event (tape_at l' c.port.selected)
    -- What becomes of late blocks, what stands behind a block that is recorded, and where EOM comes.
    pub late : (i : ℕ) → i ≤ 3 → possible c ≡ true → LateMove c l event i (drive_at c i) (drive_at r.core i)
    pub behind : (b : ℕ) → LastByte c l event b
        → Behind (drive_at r.core c.port.selected) (tape_at l' c.port.selected) (drive_at c c.port.selected).head
    pub eom : (b : ℕ) → LastGiven c l event b
        → EomOrOn (drive_at c c.port.selected) (drive_at r.core c.port.selected) (length (tape_at l c.port.selected)) r.answer

pub record DemandsHold : Type 0 where
  -- 1. Every event gets the answer that the table gives.
  pub answered : (c : Core) (l : Lent) (event : List ℕ) (r : Turn) (l' : Lent) → Steps c l event r l' → Answered c l event r l'
  -- 2. What it does is what the rules say.
  pub by_the_rules : (c : Core) (l : Lent) (event : List ℕ) (r : Turn) (l' : Lent) → Whole l → Steps c l event r l' → ByTheRules c l event r l'
  -- Core, staging block, tapes and all that was answered are the book's after every run.
  pub books : RunsAreTheBooks
  -- A WRITE past early warning takes at most two blocks.
  pub two_late : AtMostTwo
  -- 3. One drive depends on what reaches it, and on nothing else.
  pub one_drive : OneDrive real_change
  -- The same where a level of ONLINE that is repeated counts too.
  pub one_drive_any_level : OneDrive any_level
  -- The strike comes back, whatever is done on the other three.
  pub strike : ComesBack
  pub strike_among_others : ComesBackAmongOthers
