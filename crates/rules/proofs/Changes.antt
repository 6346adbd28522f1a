-- What an event does to the selected drive's tape, and when.
use Prim.Native.Nat.{ℕ, ◌+◌, ◌≤◌}
use mathlib.Core.Path.{◌≡◌, refl, sym, ap, subst, ◌∙◌}
use mathlib.Core.Bool.{Bool, true, false, not, true≢false}
use mathlib.Core.List.{List}
use native.Mathlib.Omega.{arith}
use lib.Dec.{leb}
use lib.ListN.{length, set, take, length-set}
use borrow.Author.Tests.{not-true}
use Rattle.std.specs.Prelude.{Result, Ok, Err, Option, None, Some}
use Rattle.basis.specs.Choice.{pick}
use Rattle.tape.specs.Record.{mark_record, block_record}
use Rattle.tape.specs.Recording.{erased}
use Rattle.tape.proofs.Recorded.{recorded_before, recording_keeps}
use Rattle.rules.specs.declared.drive.Drive.{Drive}
use Rattle.rules.specs.declared.drive.Mode.TheVariants.{Writing}
use Rattle.rules.specs.declared.drive.Bit.TheVariants.{Eom}
use Rattle.rules.specs.declared.unit.Port.{Port}
use Rattle.rules.specs.declared.unit.Core.{Core}
use Rattle.rules.specs.declared.phase.Phase.TheVariants.{Taking}
use Rattle.rules.specs.declared.event.Act.{Act}
use Rattle.rules.specs.declared.event.Act.TheVariants.{Command, Give, Offline}
use Rattle.rules.specs.declared.event.Event.{Event}
use Rattle.rules.specs.declared.event.Event.TheVariants.{Reset, Named, Own}
use Rattle.rules.specs.declared.order.Order.{Order}
use Rattle.rules.specs.declared.order.Order.TheVariants.{Erase, WriteMark}
use Rattle.rules.specs.declared.order.Fault.{Fault}
use Rattle.rules.specs.declared.order.Fault.TheVariants.{Illegal, Empty, Plugged, Full}
use Rattle.rules.specs.declared.answer.Answer.{Answer}
use Rattle.rules.specs.declared.answer.Answer.TheVariants.{Taken, Raised}
use Rattle.rules.specs.Drive.{is_writing, writes, stopping}
use Rattle.rules.specs.Unit.{Lent, Whole, drive_at, tape_at, at_level}
use Rattle.rules.specs.Event.{event_of}
use Rattle.rules.specs.Answer.{row_of}
use Rattle.rules.specs.Refusal.{refusal_in}
use Rattle.rules.specs.Effect.{Seat, Acted, leaves, with_mark, with_block, ordered, fault_of, commanded}
use Rattle.rules.specs.Bytes.{staged_byte, after_block, stored}
use Rattle.rules.specs.Late.{goes_on}
use Rattle.rules.specs.Online.{left_alone, leaving, dropped}
use Rattle.rules.specs.Step.{Stepped, act, staged_in, seat_of, effect_of}
use Rattle.rules.specs.Promises.Table.{answer_to}
use Rattle.rules.specs.Promises.Changes.{Accepted, block_asks, block_there, Change, unchanged, erased_whole, mark_made, mark_left, block_made, OneChange, Happens, RecordingHappens, OnlyAcceptedOrders, RecordingCutsOff, BeforeTheHead}
use Rattle.basis.proofs.Choosing.{picked, passed, choice_holds, both}
use Rattle.rules.proofs.Places.{put_same, tape_back}
use Rattle.rules.proofs.Sound.{Sound}
use Rattle.rules.proofs.Codes.{orders}
use Rattle.rules.proofs.Acts.{writing_is}
use Rattle.rules.proofs.Good.{has_cartridge}
use Rattle.rules.proofs.Rooms.{asked_room, room_behind}
use Rattle.rules.proofs.Leaves
use Rattle.rules.proofs.StepBy.{step_sound, sound_step, own_does}
use Rattle.rules.proofs.Refused.{taken_not_refused, is_own, not_own, quiet_is, own_is}

-- a byte staged as the last of a block
last_staged : (c : Core) (l : Lent) (a : Act) (b : ℕ) → a ≡ Give b → c.port.phase ≡ Taking 511 → (staged_in c a l).staging ≡ set l.staging 511 b
unfolding staged_byte pick
last_staged c l a b e p = rw (e, p)

-- an act that is taken is answered 0 where it raised nothing, and never refused
pub quiet_answer : (b : Bool) → b ≡ false → pick b Raised Taken ≡ Taken
unfolding pick
quiet_answer b e = rw e

module _ (c : Core) (l : Lent) (event : List ℕ) where
  -- what was answered is what the step answers
  abbrev Told : (Stepped → Type 0) → Stepped → Type 0
  Told P s = s.turn.answer ≡ answer_to c l event → P s

  own_change : (a : Act) (m : Acted) → event_of event ≡ Some (Own a) → answer_to c l event ≡ pick m.moved.raised Raised Taken → (t' : List ℕ)
      → Leaves.Changes (staged_in c a l).staging (seat_of c l) a m t' → Change c l event t'
  own_change a m q h t' Leaves.kept = unchanged
  own_change a m q h t' (Leaves.erases e n) = erased_whole (record { order = q ∙ ap (λ (x : Act). Some (Own x)) e; answer = h ∙ quiet_answer _ n })
  own_change a m q h t' (Leaves.marks e n r) = mark_made (record { order = q ∙ ap (λ (x : Act). Some (Own x)) e; answer = h ∙ quiet_answer _ n }) r
  own_change a m q h t' (Leaves.leaves_mark e u w n r) =
      mark_left (record { line = q ∙ ap (λ (x : Act). Some (Own x)) e; up = u; writing = w; answer = h ∙ quiet_answer _ n }) r
  own_change a m q h t' (Leaves.blocks b e p r) =
      rw (last_staged c l a b e p)
      (block_made b (record { given = record { byte = q ∙ ap (λ (x : Act). Some (Own x)) e; place = p; taken = rw h (taken_not_refused m.moved.raised) }; room = r }))

  effect_change : (e : Option Event) → event_of event ≡ e → Sound c l → refusal_in c e ≡ Taken
      → Told (λ s. Change c l event (tape_at s.lent c.port.selected)) (effect_of c l e)
  effect_change None q k h z = unchanged
  effect_change (Some Reset) q k h z = unchanged
  effect_change (Some (Named j x)) q k h z = unchanged
  effect_change (Some (Own a)) q k h z =
      rw put_same (own_change a _ q (sym z) _ (Leaves.does_leaf (staged_in c a l).staging (seat_of c l) a _ (own_does c l a k h)).change)

pub one_change : OneChange
one_change c l event w =
    sound_step (Told c l event (λ s. Change c l event (tape_at s.lent c.port.selected))) c l event w (λ _ _. unchanged)
    (effect_change c l event (event_of event) refl) refl

-- ---- and where there is that reason, it does happen

-- an order that raises nothing passed the tests, and is carried out
pub carried_out : (s : Seat) (o : Option Order) (f : Result (Unit {0}) Fault) → (commanded s o f).moved.raised ≡ false → commanded s o f ≡ ordered s o
carried_out s o (Ok u) h = refl
carried_out s o (Err Illegal) h = absurd (true≢false h)
carried_out s o (Err Empty) h = absurd (true≢false h)
carried_out s o (Err Plugged) h = absurd (true≢false h)
carried_out s o (Err Full) h = absurd (true≢false h)

tape_there : (s : Seat) (o : Option Order) (f : Result (Unit {0}) Fault) → (commanded s o f).moved.raised ≡ false → (commanded s o f).tape ≡ (ordered s o).tape
tape_there s o f h = ap (λ (m : Acted). m.tape) (carried_out s o f h)

-- a line that falls while the drive is Writing leaves a mark, or raises EXCEPTION
abbrev no_room : Seat → Acted
no_room s = leaves true (at_level false s.port) (stopping Eom s.drive) s.tape

left_is : (s : Seat) → s.port.online ≡ true → s.drive.exception ≡ false → s.drive.loaded ≡ true → s.drive.mode ≡ Writing
    → leaving s Writing ≡ dropped s
unfolding dropped
left_is s u x i w =
    ap (leaving s) (sym w) ∙ picked s.drive.loaded _ _ i ∙ passed s.drive.exception _ _ x ∙ picked s.port.online _ _ u

left_there : (s : Seat) → (leaving s Writing).moved.raised ≡ false → (leaving s Writing).tape ≡ with_mark s.drive s.tape
unfolding pick
left_there s = go (leb (s.drive.head + 1) (length s.tape))
  where
    go : (b : Bool) → (pick b (left_alone s (with_mark s.drive s.tape)) (no_room s)).moved.raised ≡ false
        → (pick b (left_alone s (with_mark s.drive s.tape)) (no_room s)).tape ≡ with_mark s.drive s.tape
    go true h = refl
    go false h = absurd (true≢false h)

-- a block that has room is recorded, whether or not EOM follows
pub stored_there : (g : List ℕ) (p : Port) (d : Drive) (t : List ℕ) → d.head + block_asks d.late ≤ length t
    → (stored g p d t).tape ≡ with_block g d t
unfolding stored after_block pick
stored_there g p d t r =
    rw (asked_room d.late d.head (length t) r)
    (choice_holds (λ (m : Acted). m.tape ≡ with_block g d t) (goes_on d.late (d.head + 513) (length (with_block g d t))) refl refl)

last_there : (g : List ℕ) (s : Seat) (b : ℕ) → s.port.phase ≡ Taking 511 → s.drive.head + block_asks s.drive.late ≤ length s.tape
    → (act g s (Give b)).tape ≡ with_block g s.drive s.tape
unfolding pick
last_there g s b p r = rw p (stored_there g _ s.drive s.tape r)

module _ (c : Core) (l : Lent) (event : List ℕ) where
  abbrev staged : Act → List ℕ
  staged a = (staged_in c a l).staging

  writing_parts : (d : Drive) → writes d ≡ true → (d.mode ≡ Writing) × (d.exception ≡ false)
  writing_parts d h =
      let p = both (is_writing d.mode) (not d.exception) h in (writing_is d.mode p.0, not-true d.exception p.1)

  -- an act that raised nothing is answered 0, so one that is answered 0 raised nothing
  own_happens : (a : Act) → event_of event ≡ Some (Own a) → Sound c l
      → answer_to c l event ≡ pick (act (staged a) (seat_of c l) a).moved.raised Raised Taken
      → Happens c l event (act (staged a) (seat_of c l) a).tape
  own_happens a q k h =
      record {
        erases = λ r.
            subst (λ (x : Act). (act (staged x) s x).moved.raised ≡ false → (act (staged x) s x).tape ≡ erased s.tape)
            (own_is (Command 34) a (sym r.order ∙ q)) (rw orders.erase (tape_there s (Some Erase) (fault_of s (Some Erase)))) (silent r.answer);
        marks = λ r.
            subst (λ (x : Act). (act (staged x) s x).moved.raised ≡ false → (act (staged x) s x).tape ≡ with_mark s.drive s.tape)
            (own_is (Command 96) a (sym r.order ∙ q)) (rw orders.mark (tape_there s (Some WriteMark) (fault_of s (Some WriteMark)))) (silent r.answer);
        leaves_mark = λ r.
            let w = writing_parts s.drive r.writing in
            let i = has_cartridge s.drive.mode s.drive.loaded s.drive.protected (k.fit c.port.selected).mode w.0 in
            subst (λ (x : Act). (act (staged x) s x).moved.raised ≡ false → (act (staged x) s x).tape ≡ with_mark s.drive s.tape)
            (own_is Offline a (sym r.line ∙ q))
            (subst (λ (m : Acted). m.moved.raised ≡ false → m.tape ≡ with_mark s.drive s.tape) (left_is s r.up w.1 i w.0) (left_there s))
            (silent r.answer);
        blocks = λ b r.
            let e = own_is (Give b) a (sym r.given.byte ∙ q) in
            subst (λ (x : Act). (act (staged x) s x).tape ≡ block_there c l b) e
            (last_there (staged (Give b)) s b r.given.place r.room
            ∙ ap (λ (g : List ℕ). with_block g s.drive s.tape) (last_staged c l (Give b) b refl r.given.place));
      }
    where
      s : Seat
      s = seat_of c l

      silent : answer_to c l event ≡ Taken → (act (staged a) (seat_of c l) a).moved.raised ≡ false
      silent e = quiet_is _ (sym h ∙ e)

  refused_happens : (a : Answer) → (row_of a).refuses ≡ true → a ≡ answer_to c l event → (t : List ℕ) → Happens c l event t
  refused_happens a r z t =
      record {
        erases = λ x. no x.answer;
        marks = λ x. no x.answer;
        leaves_mark = λ x. no x.answer;
        blocks = λ b x. absurd (true≢false (sym r ∙ ap (λ (y : Answer). (row_of y).refuses) z ∙ x.given.taken));
      }
    where
      no : {A : Type 0} → answer_to c l event ≡ Taken → A
      no e = absurd (true≢false (sym r ∙ ap (λ (y : Answer). (row_of y).refuses) (z ∙ e)))

  unasked_happens : (e : Option Event) → event_of event ≡ e → is_own e ≡ false → (t : List ℕ) → Happens c l event t
  unasked_happens e q n t =
      record {
        erases = λ x. not_own event e q n x.order;
        marks = λ x. not_own event e q n x.order;
        leaves_mark = λ x. not_own event e q n x.line;
        blocks = λ b x. not_own event e q n x.given.byte;
      }

  effect_happens : (e : Option Event) → event_of event ≡ e → Sound c l → refusal_in c e ≡ Taken
      → Told c l event (λ s. Happens c l event (tape_at s.lent c.port.selected)) (effect_of c l e)
  effect_happens None q k h z = unasked_happens None q refl _
  effect_happens (Some Reset) q k h z = unasked_happens (Some Reset) q refl _
  effect_happens (Some (Named j x)) q k h z = unasked_happens (Some (Named j x)) q refl _
  effect_happens (Some (Own a)) q k h z = rw put_same (own_happens a q k (sym z))

pub recording_happens : RecordingHappens
recording_happens c l event w =
    step_sound (Told c l event (λ s. Happens c l event (tape_at s.lent c.port.selected))) c l event w
    (λ a r z. refused_happens c l event a r z _) (effect_happens c l event (event_of event) refl) refl

-- ---- an order that is not accepted

-- an act whose tape stays leaves all that is lent, but for the byte that was staged
tape_kept : (c : Core) (l : Lent) (a : Act) (m : Acted) (k : ℕ) → a ≡ Command k → (pick m.moved.raised Raised Taken ≡ Taken → ⊥) → (t : List ℕ)
    → Leaves.Changes (staged_in c a l).staging (seat_of c l) a m t → t ≡ tape_at l c.port.selected
tape_kept c l a m k e n t Leaves.kept = refl
tape_kept c l a m k e n t (Leaves.erases q h) = absurd (n (quiet_answer _ h))
tape_kept c l a m k e n t (Leaves.marks q h r) = absurd (n (quiet_answer _ h))
tape_kept c l a m k e n t (Leaves.leaves_mark q u w h r) = absurd (n (quiet_answer _ h))
tape_kept c l a m k e n t (Leaves.blocks b q p r) = let z : Command k ≡ Give b = sym e ∙ q in cc

effect_keeps : (c : Core) (l : Lent) (event : List ℕ) (k : ℕ) → event_of event ≡ Some (Own (Command k)) → Sound c l → refusal_in c (Some (Own (Command k))) ≡ Taken
    → ((effect_of c l (Some (Own (Command k)))).turn.answer ≡ Taken → ⊥) → (effect_of c l (Some (Own (Command k)))).lent ≡ l
effect_keeps c l event k q s h n =
    let m = act (staged_in c (Command k) l).staging (seat_of c l) (Command k) in
    let t = tape_kept c l (Command k) m k refl n m.tape
    (Leaves.does_leaf (staged_in c (Command k) l).staging (seat_of c l) (Command k) m (own_does c l (Command k) s h)).change in
    rw t (tape_back l c.port.selected)

pub only_accepted_orders : OnlyAcceptedOrders
only_accepted_orders c l event k w q =
    sound_step (λ s. (s.turn.answer ≡ Taken → ⊥) → s.lent ≡ l) c l event w (λ _ _. refl)
    (λ s. subst (λ (e : Option Event). refusal_in c e ≡ Taken → ((effect_of c l e).turn.answer ≡ Taken → ⊥) → (effect_of c l e).lent ≡ l) (sym q)
    (effect_keeps c l event k q s))

-- ---- what a recording leaves

block_room_lem : (t g : List ℕ) (h : ℕ) → length g ≡ 512 → h + 513 ≤ length t → h + length (block_record g) ≤ length t
block_room_lem t g h e r = rw e (omega (arith, r))

pub recording_cuts_off : RecordingCutsOff
recording_cuts_off = (λ t h r. recording_keeps t mark_record h r, λ t g h e r. recording_keeps t (block_record g) h (block_room_lem t g h e r))

before_change : (c : Core) (l : Lent) (event : List ℕ) (t : List ℕ) → Whole l → Change c l event t → (Accepted c l event 34 → ⊥)
    → take (drive_at c c.port.selected).head t ≡ take (drive_at c c.port.selected).head (tape_at l c.port.selected)
before_change c l event t w unchanged n = refl
before_change c l event t w (erased_whole q) n = absurd (n q)
before_change c l event t w (mark_made q r) n = recorded_before (tape_at l c.port.selected) mark_record (drive_at c c.port.selected).head r
before_change c l event t w (mark_left q r) n = recorded_before (tape_at l c.port.selected) mark_record (drive_at c c.port.selected).head r
before_change c l event t w (block_made b q) n =
    let body = set l.staging 511 b in
    let tape = tape_at l c.port.selected in
    let d = drive_at c c.port.selected in
    recorded_before tape (block_record body) d.head
    (block_room_lem tape body d.head (length-set l.staging 511 b ∙ w) (omega (arith, room_behind d.late d.head (length tape) q.room)))

pub before_the_head : BeforeTheHead
before_the_head c l event w n = before_change c l event _ w (one_change c l event w) n
