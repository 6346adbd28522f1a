-- A byte within a block or an octet of a report, found by its place, is the book's step.
use Prim.Native.Nat.{ℕ, zero, suc, ◌+◌, ◌<◌}
use mathlib.Core.Path.{◌≡◌, refl, sym, ap, ap₂, ◌∙◌}
use mathlib.Core.Bool.{Bool, true, false, not, ◌&&◌, ◌||◌, false≢true}
use mathlib.Core.List.{List}
use Rattle.std.specs.Prelude.{Option, None, Some, is_some, unwrap_or, option_map, option_and_then}
use Rattle.std.specs.Bool.{then_some}
use native.Mathlib.Nat.{not-suc-le-zero}
use lib.ListN.{length, get_or}
use lib.Dec.{ltb, eqb}
use borrow.Author.Tests.{lt-ltb, ltb-true, eqb-true}
use Rattle.basis.specs.Choice.{pick}
use Rattle.tape.specs.Record.{found_at}
use Rattle.rules.specs.declared.drive.Drive.{Drive}
use Rattle.rules.specs.declared.drive.Mode.{Mode}
use Rattle.rules.specs.declared.drive.Mode.TheVariants.{Idle, Writing, Reading}
use Rattle.rules.specs.declared.phase.Phase.{Phase}
use Rattle.rules.specs.declared.phase.Phase.TheVariants.{Rest, Taking, Giving, Status}
use Rattle.rules.specs.declared.unit.Core.{Core}
use Rattle.rules.specs.declared.event.Act.TheVariants.{Give, Take}
use Rattle.rules.specs.declared.event.Event.{Event}
use Rattle.rules.specs.declared.event.Event.TheVariants.{Own}
use Rattle.rules.specs.declared.answer.Answer.TheVariants.{Taken}
use Rattle.rules.specs.declared.answer.Lines.{Lines}
use Rattle.rules.specs.declared.answer.Turn.{Turn}
use Rattle.rules.specs.Drive.{is_writing, is_reading, writes, reads}
use Rattle.rules.specs.Phase.{last_place, given_before, taken_before, outstanding}
use Rattle.rules.specs.Unit.{Lent, drive_at, put_drive, tape_at, put_staging, at_phase, moved_to}
use Rattle.rules.specs.Lines.{lines_at, lines_of}
use Rattle.rules.specs.Refusal.{possible, short, in_step_at}
use Rattle.rules.specs.Edge.{is_block}
use Rattle.rules.specs.Effect.{hands}
use Rattle.rules.specs.Bytes.{handed, octet_place, after_octet, octet_taken, byte_taken}
use Rattle.rules.specs.Event.{bare_event, bodied_event, event_of}
use Rattle.rules.specs.Step.{staged, staged_in, seat_of, stepped, done, taken_turn, landed, Steps}
use Rattle.basis.proofs.Choosing.{both, choice_by}
use Rattle.rules.proofs.Places.{put_back, tape_back}
use Rattle.rules.proofs.Handing.{taken_at, may_take, taken_is}
use Rattle.port.proofs.Whole.{is_block_lem}
use Rattle.unit.specs.declared.within.Inside.{Inside}
use Rattle.unit.specs.Within.{next_of, PhaseMoves, given_inside, taken_inside, next_inside, inside_of, InsideSteps}
use Rattle.answers.specs.Moved.{moved_on}
use Rattle.answers.specs.Place.{within, is_given, is_taken, given_place, taken_place, octets_left}
use Rattle.answers.specs.Settled.{settled_by}
use Rattle.unit.proofs.Settling.{steps_by}

-- putting back the record that is there changes nothing
drive_back : (c : Core) (ph : Phase) (i : ℕ) → put_drive c (at_phase ph c.port) i (drive_at c i) ≡ moved_to c ph
drive_back c ph i =
    put_back (λ (w x y z : Drive). record { port = at_phase ph c.port; drive0 = w; drive1 = x; drive2 = y; drive3 = z })
    i c.drive0 c.drive1 c.drive2 c.drive3

pub phase_moves : PhaseMoves
unfolding pick
phase_moves c l a ph b fits moves =
    let i = c.port.selected in
    let l' = staged_in c a l in
    rw (fits) (sym (ap (landed c l') moves ∙ ap₂ (λ (x : Core) (y : Lent). done false b x y) (drive_back c ph i) (tape_back l' i)))

-- the turn of it, where the lines of the drive are known
lines_known : (c : Core) (ph : Phase) (b : Option ℕ) (direction : Bool)
    → lines_at ph (drive_at c c.port.selected) ≡ record { ready = false; exception = false; direction = direction }
    → moved_on c ph b direction ≡ taken_turn false b (moved_to c ph)
unfolding pick lines_of
lines_known c ph b direction e =
    ap (λ (x : Lines). record { answer = Taken; byte = b; lines = x; core = moved_to c ph }) (sym e)

-- what there is is one thing, and not none
none_some : {A : Type 0} {x : A} → None ≡ Some x → ⊥
none_some e = false≢true (ap is_some e)

some_same : {A : Type 0} {x y : A} → Some x ≡ Some y → x ≡ y
some_same {A} {x} {y} e = ap (λ (o : Option A). unwrap_or o x) e

-- what is there where a test holds: the test held, and it is the one
shown : {A : Type 0} (b : Bool) {x y : A} → then_some b x ≡ Some y → (b ≡ true) × (x ≡ y)
shown true e = (refl, some_same e)
shown false e = absurd (none_some e)

-- an event of a size whose first byte is its kind
formed : (size kind : ℕ) (l : List ℕ) → (eqb (length l) size && eqb (get_or l 0 0) kind) ≡ true → (length l ≡ size) × (get_or l 0 0 ≡ kind)
formed size kind l so = let two = both _ _ so in (eqb-true (length l) size two.0, eqb-true (get_or l 0 0) kind two.1)

-- a count that is not 0 tells the phase
given_taking : (ph : Phase) → 0 < given_before ph → ph ≡ Taking (given_before ph)
given_taking (Taking n) some = refl
given_taking Rest some = absurd (not-suc-le-zero some)
given_taking (Giving n) some = absurd (not-suc-le-zero some)
given_taking (Status k) some = absurd (not-suc-le-zero some)

taken_giving : (ph : Phase) → 0 < taken_before ph → ph ≡ Giving (taken_before ph)
taken_giving Rest some = absurd (not-suc-le-zero some)
taken_giving (Taking n) some = absurd (not-suc-le-zero some)
taken_giving (Giving n) some = refl
taken_giving (Status k) some = absurd (not-suc-le-zero some)

outstanding_status : (ph : Phase) → 0 < outstanding ph → ph ≡ Status (outstanding ph)
outstanding_status Rest some = absurd (not-suc-le-zero some)
outstanding_status (Taking n) some = absurd (not-suc-le-zero some)
outstanding_status (Giving n) some = absurd (not-suc-le-zero some)
outstanding_status (Status k) some = refl

-- so the phase, the place and the event are known
given_there : (ph : Phase) (l : List ℕ) (n b : ℕ) → given_place ph l ≡ Some (n, b)
    → (ph ≡ Taking n) × (n < last_place) × (event_of l ≡ Some (Own (Give b)))
unfolding pick event_of bodied_event
given_there ph l n b is =
    let there = shown (is_given l && within (given_before ph)) is in
    let two = both (is_given l) (within (given_before ph)) there.0 in
    let form = formed 2 2 l two.0 in
    let place = both (ltb 0 (given_before ph)) (ltb (given_before ph) last_place) two.1 in
    let here : given_before ph ≡ n = ap (λ (p : ℕ × ℕ). p.0) there.1 in
    let byte : get_or l 1 0 ≡ b = ap (λ (p : ℕ × ℕ). p.1) there.1 in (
      rw (here) at (given_taking ph (ltb-true 0 _ place.0)),
      rw (here) at (ltb-true (given_before ph) last_place place.1),
      rw (form.0, form.1, byte) refl,
    )

take_there : (l : List ℕ) → is_taken l ≡ true → event_of l ≡ Some (Own Take)
unfolding pick event_of bare_event
take_there l so = let form = formed 1 3 l so in rw (form.0, form.1) refl

taken_there : (ph : Phase) (l : List ℕ) (n : ℕ) → taken_place ph l ≡ Some n
    → (ph ≡ Giving n) × (0 < n) × (n < last_place) × (event_of l ≡ Some (Own Take))
taken_there ph l n is =
    let there = shown (is_taken l && within (taken_before ph)) is in
    let two = both (is_taken l) (within (taken_before ph)) there.0 in
    let place = both (ltb 0 (taken_before ph)) (ltb (taken_before ph) last_place) two.1 in
    let some = ltb-true 0 (taken_before ph) place.0 in (
      rw (there.1) at (taken_giving ph some),
      rw (there.1) at some,
      rw (there.1) at (ltb-true (taken_before ph) last_place place.1),
      take_there l two.0,
    )

octet_there : (ph : Phase) (l : List ℕ) (k : ℕ) → octets_left ph l ≡ Some k → (ph ≡ Status k) × (event_of l ≡ Some (Own Take))
octet_there ph l k is =
    let there = shown (is_taken l && ltb 0 (outstanding ph)) is in
    let two = both (is_taken l) (ltb 0 (outstanding ph)) there.0 in
    (rw (there.1) at (outstanding_status ph (ltb-true 0 (outstanding ph) two.1)), take_there l two.0)

-- the lines within a block, by mode and EXCEPTION: of a drive that takes data, and of one that gives data
abbrev lines : Bool → Bool → Bool → Lines
lines r e d = record { ready = r; exception = e; direction = d }

writing_lines : (m : Mode) (up : Bool) → (is_writing m && not up) ≡ true
    → lines (not up && false) up (false || (is_reading m && not up)) ≡ lines false false false
writing_lines Writing false so = refl
writing_lines Writing true so = absurd (false≢true so)
writing_lines Idle up so = absurd (false≢true so)
writing_lines Reading up so = absurd (false≢true so)

reading_lines : (m : Mode) (up : Bool) → (is_reading m && not up) ≡ true
    → lines (not up && false) up (false || (is_reading m && not up)) ≡ lines false false true
reading_lines Reading false so = refl
reading_lines Reading true so = absurd (false≢true so)
reading_lines Idle up so = absurd (false≢true so)
reading_lines Writing up so = absurd (false≢true so)

-- a byte that is there: the drive gives data, a whole block stands at its head, and the byte is of it
next_there : (d : Drive) (t : List ℕ) (n b : ℕ) → next_of d t n ≡ Some b
    → (reads d ≡ true) × ((is_block (found_at t d.head) ≡ true) × (b ≡ get_or t (d.head + 1 + n) 0))
unfolding pick next_of
next_there d t n b so = go (reads d) (is_block (found_at t d.head)) refl refl
  where
    go : (r w : Bool) → reads d ≡ r → is_block (found_at t d.head) ≡ w
        → (reads d ≡ true) × ((is_block (found_at t d.head) ≡ true) × (b ≡ get_or t (d.head + 1 + n) 0))
    go true true p q = (p, (q, some_same (sym (rw (p, q) at so))))
    go true false p q = absurd (none_some (rw (p, q) at so))
    go false w p q = absurd (none_some (rw (p) at so))

-- one event in a possible record with short tapes
module _ (c : Core) (l : Lent) (event : List ℕ) (calm : (possible c && short l) ≡ true) where
  abbrev d : Drive
  d = drive_at c c.port.selected

  abbrev t : List ℕ
  t = tape_at l c.port.selected

  settles : (r : Turn) (l' : Lent) (e : Option Event) → event_of event ≡ e → stepped r l' ≡ settled_by c true true l e → Steps c l event r l'
  settles r l' e is by =
      let so = both (possible c) (short l) calm in
      steps_by c l event r l' _ e true true refl is (sym so.0) (sym so.1) by

  -- a byte given, where n were given before and it is not the last
  pub byte_given_lem : (n b : ℕ) → given_before c.port.phase ≡ n → n < last_place → in_step_at c.port.phase d (Give b) ≡ true → writes d ≡ true
      → event_of event ≡ Some (Own (Give b))
      → Steps c l event (moved_on c (Taking (n + 1)) None false) (put_staging l (staged c.port.phase (Give b) l.staging))
  unfolding pick
  byte_given_lem n b before lt fits writing is =
      let shown = lines_known c (Taking (n + 1)) None false (writing_lines d.mode d.exception writing) in
      let moves = phase_moves c l (Give b) (Taking (n + 1)) None fits (rw (before, lt-ltb n last_place lt) refl) in
      settles _ _ (Some (Own (Give b))) is (ap (λ (x : Turn). stepped x (staged_in c (Give b) l)) shown ∙ moves)

  -- a byte taken, where n were taken before and it is not the last
  pub byte_taken_lem : (n : ℕ) → c.port.phase ≡ taken_at n → n < last_place → reads d ≡ true → is_block (found_at t d.head) ≡ true
      → event_of event ≡ Some (Own Take) → Steps c l event (moved_on c (Giving (n + 1)) (Some (get_or t (d.head + 1 + n) 0)) true) l
  unfolding pick handed
  byte_taken_lem n at lt reading whole is =
      let b = get_or t (d.head + 1 + n) 0 in
      let shown = lines_known c (Giving (n + 1)) (Some b) true (reading_lines d.mode d.exception reading) in
      let part : handed (seat_of c l) n ≡ hands false b (at_phase (Giving (n + 1)) c.port) d t = rw (lt-ltb n last_place lt) refl in
      let moves = phase_moves c l Take (Giving (n + 1)) (Some b) (rw (at) (may_take n d reading))
      (ap (byte_taken (seat_of c l)) at ∙ taken_is (seat_of c l) n (is_block_lem _ whole) ∙ part) in
      settles _ _ (Some (Own Take)) is (ap (λ (x : Turn). stepped x l) shown ∙ moves)

pub giving_at : (n : ℕ) → 0 < n → Giving n ≡ taken_at n
giving_at zero some = absurd (not-suc-le-zero some)
giving_at (suc n) some = refl

-- a world that is calm, by what was found of the record and the tapes
pub calm_by : (c : Core) (l : Lent) {p s : Bool} → p ≡ possible c → s ≡ short l → (p && s) ≡ true → (possible c && short l) ≡ true
calm_by c l ok fits so = ap₂ ◌&&◌ (sym ok) (sym fits) ∙ so

-- found first by the step in such a world
module _ (c : Core) (l : Lent) (event : List ℕ) (r : Turn) (calm : (possible c && short l) ≡ true) where
  -- a byte given within a block
  pub given_steps : (g : List ℕ) (n b : ℕ) → given_place c.port.phase event ≡ Some (n, b) → writes (drive_at c c.port.selected) ≡ true
      → r ≡ moved_on c (Taking (n + 1)) None false → g ≡ staged c.port.phase (Give b) l.staging → Steps c l event r (put_staging l g)
  given_steps g n b is writing turn put =
      let place = given_there c.port.phase event n b is in
      rw (turn, put) (byte_given_lem c l event calm n b (ap given_before place.0) place.1 (rw place.0 writing) writing place.2)

  -- a byte taken within a block
  pub taken_steps : (n b : ℕ) → taken_place c.port.phase event ≡ Some n → next_of (drive_at c c.port.selected) (tape_at l c.port.selected) n ≡ Some b
      → r ≡ moved_on c (Giving (n + 1)) (Some b) true → Steps c l event r l
  taken_steps n b is byte turn =
      let place = taken_there c.port.phase event n is in
      let found = next_there _ _ n b byte in
      rw (turn, found.1.1) (byte_taken_lem c l event calm n (place.0 ∙ giving_at n place.1) place.2 found.0 found.1.0 place.3)

  -- an octet of a report
  pub octet_steps : (k b : ℕ) (after : Core) → octets_left c.port.phase event ≡ Some k
      → r ≡ taken_turn false (Some b) after → b ≡ get_or c.port.octets (octet_place k) 0 → after ≡ moved_to c (after_octet k) → Steps c l event r l
  unfolding pick octet_taken
  octet_steps k b after is turn byte moved =
      let there = octet_there c.port.phase event k is in
      let moves = phase_moves c l Take (after_octet k) (Some b) (rw there.0 refl) (rw (there.0, byte) refl) in
      settles c l event calm r l (Some (Own Take)) there.1 (ap (λ (x : Turn). stepped x l) (turn ∙ ap (taken_turn false (Some b)) moved) ∙ moves)

-- what an event within a block comes to is the book's step
module _ (c : Core) (l : Lent) (event : List ℕ) (calm : (possible c && short l) ≡ true) where
  -- where there is one
  abbrev StepsBy : Option Inside → Type 0
  StepsBy o = (i : Inside) → o ≡ Some i → Steps c l event (moved_on c i.phase i.byte (is_some i.byte)) (staged_in c i.act l)

  abbrev Here : Drive
  Here = drive_at c c.port.selected

  none_inside : StepsBy None
  none_inside i there = absurd (none_some there)

  given_inside_lem : (o : Option (ℕ × ℕ)) → given_place c.port.phase event ≡ o → writes Here ≡ true → StepsBy (option_map given_inside o)
  given_inside_lem None is writing i there = none_inside i there
  given_inside_lem (Some p) is writing i there =
      rw (sym (some_same there)) (given_steps c l event _ calm _ p.0 p.1 is writing refl refl)

  byte_inside_lem : (n : ℕ) (o : Option ℕ) → taken_place c.port.phase event ≡ Some n → next_of Here (tape_at l c.port.selected) n ≡ o
      → StepsBy (option_map (taken_inside n) o)
  byte_inside_lem n None is byte i there = none_inside i there
  byte_inside_lem n (Some b) is byte i there = rw (sym (some_same there)) (taken_steps c l event _ calm n b is byte refl)

  taken_inside_lem : (o : Option ℕ) → taken_place c.port.phase event ≡ o
      → StepsBy (option_and_then (next_inside Here (tape_at l c.port.selected)) o)
  taken_inside_lem None is = none_inside
  taken_inside_lem (Some n) is = byte_inside_lem n _ is refl

pub inside_steps : InsideSteps
unfolding inside_of
inside_steps c l event i calm is =
    let P : Option Inside → Type 0 = StepsBy c l event calm in
    choice_by P _ (λ so. given_inside_lem c l event calm _ refl (both _ _ so).1) (λ so. taken_inside_lem c l event calm _ refl) i is
