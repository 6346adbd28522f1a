-- What stands behind a block that is recorded, and whether the WRITE goes on behind it.
use Prim.Native.Nat.{ℕ, ◌+◌, ◌≤◌}
use mathlib.Core.Path.{◌≡◌, refl, sym, subst}
use mathlib.Core.Bool.{Bool, true, false, ◌&&◌, true≢false, false≢true}
use mathlib.Core.List.{List}
use native.Mathlib.Omega.{arith}
use lib.ListN.{length}
use borrow.Author.Tests.{le-leb}
use Rattle.std.specs.Prelude.{Some}
use Rattle.basis.specs.Choice.{pick}
use Rattle.std.specs.Prelude.{Err}
use Rattle.tape.specs.declared.found.Why.TheVariants.{End}
use Rattle.tape.specs.Record.{found_at, block_record}
use Rattle.tape.specs.Recording.{recorded}
use Rattle.tape.proofs.Recorded.{recorded_length}
use Rattle.rules.specs.declared.drive.Drive.{Drive}
use Rattle.rules.specs.declared.drive.Mode.TheVariants.{Idle, Writing}
use Rattle.rules.specs.declared.drive.Bit.TheVariants.{Eom}
use Rattle.rules.specs.declared.unit.Port.{Port}
use Rattle.rules.specs.declared.phase.Phase.TheVariants.{Taking}
use Rattle.rules.specs.declared.event.Act.TheVariants.{Give}
use Rattle.rules.specs.declared.event.Event.TheVariants.{Own}
use Rattle.rules.specs.declared.answer.Answer.TheVariants.{Taken, Raised}
use Rattle.rules.specs.Drive.{made, stopping}
use Rattle.rules.specs.Late.{block_room, one_less, goes_on}
use Rattle.rules.specs.Unit.{drive_at, tape_at}
use Rattle.rules.specs.Effect.{Seat, Acted, leaves, with_block}
use Rattle.rules.specs.Bytes.{after_block, stored}
use Rattle.rules.specs.Step.{act, staged_in, seat_of, effect_of}
use Rattle.rules.specs.Promises.Changes.{block_asks}
use Rattle.rules.specs.Promises.Orders.{fits7}
use Rattle.rules.specs.Promises.Late.{Behind, ByteBehind, onwards, EomOrOn, EomExactly}
use Rattle.basis.proofs.Choosing.{picked, passed, choice_holds}
use Rattle.rules.proofs.Places.{put_same}
use Rattle.rules.proofs.Sound.{sound}
use Rattle.rules.proofs.Rooms.{asks_is, room_asked_lem, asked_room, room_behind}
use Rattle.rules.proofs.Acts.{taking_writing}
use Rattle.rules.proofs.StepBy.{in_step_lem, effect_by, staged_sound}
use Rattle.rules.proofs.Changes.{recording_cuts_off}

-- ---- a block, and the byte behind it

-- test 7 lets a mark through where a byte is left
mark_through : (d : Drive) (n : ℕ) → d.head + 1 ≤ n → fits7 d n 96 ≡ false
unfolding pick
mark_through d n r = rw (le-leb (d.head + 1) n r)

behind : (g t : List ℕ) (h : ℕ) (d : Drive) → length g ≡ 512 → h + 514 ≤ length t → d.head ≡ h + 513 → Behind d (recorded t h (block_record g)) h
behind g t h d e r q =
    let fits : h + length (block_record g) ≤ length t = omega (arith, e, r) in
    let size = recorded_length t (block_record g) h fits in
    let at : h + length (block_record g) ≡ d.head = omega (arith, e, q) in
    let room : d.head + 1 ≤ length (recorded t h (block_record g)) = omega (arith, q, r, size) in
    record {
      head = q;
      room = room;
      end = subst (λ (x : ℕ). found_at (recorded t h (block_record g)) x ≡ Err End) at (recording_cuts_off.1 t g h e (omega (arith, r))).ends;
      mark = mark_through d _ room;
    }

stored_behind : (g : List ℕ) (p : Port) (d : Drive) (t : List ℕ) → length g ≡ 512 → d.head + block_asks d.late ≤ length t
    → Behind (stored g p d t).moved.drive (stored g p d t).tape d.head
unfolding stored after_block pick
stored_behind g p d t e r =
    let room = room_behind d.late d.head (length t) r in
    rw (asked_room d.late d.head (length t) r)
    (choice_holds (λ (m : Acted). Behind m.moved.drive m.tape d.head) (goes_on d.late (d.head + 513) (length (with_block g d t)))
    (behind g t d.head _ e room refl) (behind g t d.head _ e room refl))

given_behind : (g : List ℕ) (s : Seat) (b : ℕ) → length g ≡ 512 → s.port.phase ≡ Taking 511
    → s.drive.head + block_asks s.drive.late ≤ length s.tape
    → Behind (act g s (Give b)).moved.drive (act g s (Give b)).tape s.drive.head
unfolding pick
given_behind g s b e p r = rw p (stored_behind g _ s.drive s.tape e r)

pub byte_behind : ByteBehind
byte_behind c l event b w x =
    effect_by (λ s. Behind (drive_at s.turn.core n) (tape_at s.lent n) (drive_at c n).head) c l event (Some (Own (Give b))) x.given.byte x.given.taken
    (λ p q h. let k = staged_sound c l (Give b) (sound c l p q w) in
    rw (put_same, put_same) (given_behind (staged_in c (Give b) l).staging (seat_of c l) b k.whole x.given.place x.room))
  where
    n : ℕ
    n = c.port.selected

-- ---- EOM, or the WRITE goes on

-- the test behind a block, in numbers
on_is : (d : Drive) (n : ℕ) → onwards d n ≡ (block_room d.late d.head n && goes_on d.late (d.head + 513) n)
unfolding goes_on
on_is d n = rw (asks_is d.late)

-- What a block leaves where the WRITE goes on, and where it does not.
record Ends (m : Acted) (goes : Bool) : Type 0 where
  on : goes ≡ true → (m.moved.raised ≡ false) × (m.moved.drive.mode ≡ Writing)
  eom : goes ≡ false → (m.moved.raised ≡ true) × (m.moved.drive.mode ≡ Idle) × (m.moved.drive.latched.eom ≡ true)

stored_ends : (g : List ℕ) (p : Port) (d : Drive) (t : List ℕ) → length g ≡ 512 → d.mode ≡ Writing → Ends (stored g p d t) (onwards d (length t))
unfolding stored after_block pick
stored_ends g p d t e w = rw (on_is d (length t)) (go (block_room d.late d.head (length t)) refl)
  where
    d' : Drive
    d' = one_less (made (d.head + 513) d)

    at : (x : Bool) → Ends (pick x (leaves false p d' (with_block g d t)) (leaves true p (stopping Eom d') (with_block g d t))) x
    at true = record { on = λ _. (refl, w); eom = λ h. absurd (true≢false h) }
    at false = record { on = λ h. absurd (false≢true h); eom = λ _. (refl, refl, refl) }

    go : (r : Bool) → block_room d.late d.head (length t) ≡ r
        → Ends (pick r (after_block d.late p d' (with_block g d t)) (leaves true p (stopping Eom d) t)) (r && goes_on d.late (d.head + 513) (length t))
    go true q =
        let room = room_behind d.late d.head (length t) (room_asked_lem d.late d.head (length t) q) in
        let size = recorded_length t (block_record g) d.head (omega (arith, e, room)) in
        rw size (at (goes_on d.late (d.head + 513) (length t)))
    go false q = record { on = λ h. absurd (false≢true h); eom = λ _. (refl, refl, refl) }

given_ends : (g : List ℕ) (s : Seat) (b : ℕ) → length g ≡ 512 → s.drive.mode ≡ Writing → s.port.phase ≡ Taking 511
    → Ends (act g s (Give b)) (onwards s.drive (length s.tape))
unfolding pick
given_ends g s b e w p = rw p (stored_ends g _ s.drive s.tape e w)

pub eom_exactly : EomExactly
eom_exactly c l event b w x =
    effect_by (λ s. EomOrOn (drive_at c n) (drive_at s.turn.core n) (length (tape_at l n)) s.turn.answer) c l event (Some (Own (Give b))) x.byte x.taken
    (λ p q h. there (staged_sound c l (Give b) (sound c l p q w)).whole (taking_writing c.port.phase (drive_at c n) (in_step_lem _ h)))
  where
    n : ℕ
    n = c.port.selected

    m : Acted
    m = act (staged_in c (Give b) l).staging (seat_of c l) (Give b)

    there : length (staged_in c (Give b) l).staging ≡ 512 → (drive_at c n).mode ≡ Writing
        → EomOrOn (drive_at c n) (drive_at (effect_of c l (Some (Own (Give b)))).turn.core n) (length (tape_at l n)) (pick m.moved.raised Raised Taken)
    there e v =
        let ends = given_ends (staged_in c (Give b) l).staging (seat_of c l) b e v x.place in
        record {
          on = λ z. let y = ends.on z in (sym (passed _ _ _ y.0), rw put_same y.1);
          eom = λ z. let y = ends.eom z in (sym (picked _ _ _ y.0), rw put_same y.1, rw put_same y.2);
        }
