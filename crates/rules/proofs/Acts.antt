-- All that an act of the host can leave, leaf by leaf, with what is known at each: every promise about one act goes by these cases.
use Prim.Native.Nat.{ℕ, ◌+◌, ◌≤◌}
use mathlib.Core.Path.{◌≡◌, refl, sym, ap, ◌∙◌}
use mathlib.Core.Bool.{Bool, true, false, not, ◌&&◌, ◌||◌, false≢true}
use mathlib.Core.List.{List}
use native.Mathlib.Omega.{arith}
use lib.Dec.{ltb, leb}
use lib.ListN.{length, get_or}
use borrow.Author.Tests.{leb-true, ltb-true, ltb-false}
use Rattle.std.specs.Prelude.{Result, Ok, Err, Option, None, Some}
use Rattle.basis.specs.Choice.{pick}
use Rattle.std.specs.Prelude.{Result, Ok, Err}
use Rattle.tape.specs.declared.found.Kind.{Kind}
use Rattle.tape.specs.declared.found.Kind.TheVariants.{Block, Mark}
use Rattle.tape.specs.declared.found.Why.{Why}
use Rattle.tape.specs.Record.{found_at}
use Rattle.tape.specs.Recording.{erased}
use Rattle.tape.specs.Walk.{passed}
use Rattle.rules.specs.declared.drive.Drive.{Drive}
use Rattle.rules.specs.declared.drive.Mode.{Mode}
use Rattle.rules.specs.declared.drive.Mode.TheVariants.{Idle, Writing, Reading}
use Rattle.rules.specs.declared.drive.Bit.{Bit}
use Rattle.rules.specs.declared.drive.Bit.TheVariants.{Cni, Eom, Ill}
use Rattle.rules.specs.declared.phase.Phase.{Phase}
use Rattle.rules.specs.declared.phase.Phase.TheVariants.{Rest, Taking, Giving, Status}
use Rattle.rules.specs.declared.event.Act.{Act}
use Rattle.rules.specs.declared.event.Act.TheVariants.{Command, Give, Take, Online, Offline}
use Rattle.rules.specs.declared.order.Order.{Order}
use Rattle.rules.specs.declared.order.Order.TheVariants.{Select, Bot, Erase, Initialize, Write, WriteMark, Read, ReadMark, ReadStatus}
use Rattle.rules.specs.declared.order.Needs.{Needs}
use Rattle.rules.specs.declared.order.Fault.{Fault}
use Rattle.rules.specs.declared.order.Fault.TheVariants.{Illegal, Empty, Plugged, Full}
use Rattle.rules.specs.Drive.{is_writing, is_reading, writes, reads, rewound, chosen, raised, latching, stopping, in_mode, made, passed_to, cleared}
use Rattle.rules.specs.Late.{begun, one_less, block_room}
use Rattle.rules.specs.Unit.{at_phase, at_drive, at_level, showing}
use Rattle.rules.specs.Refusal.{possible_phase, takes, gives, in_step_at}
use Rattle.rules.specs.Order.{order_of, row_for, in_sequence, test5, test6, has_room, illegal, first_fault, fault_by}
use Rattle.rules.specs.Edge.{is_block, halted, spoilt, checked, standing}
use Rattle.rules.specs.Octets.{octets_of}
use Rattle.rules.specs.Effect.{Seat, Acted, leaves, hands, with_mark, with_block, resting, ordered, fault_of, commanded}
use Rattle.rules.specs.Phase.{given_before}
use Rattle.rules.specs.Bytes.{after_block, stored, byte_given, handed, octet_place, after_octet, octet_taken, byte_taken}
use Rattle.rules.specs.Online.{leaving, dropped}
use Rattle.rules.specs.Step.{act}
use Rattle.basis.proofs.Choosing.{both, not_not}
use Rattle.rules.specs.Promises.Changes.{block_asks}
use Rattle.rules.proofs.Rooms.{room_asked_lem, not_last}
use Rattle.rules.proofs.Sound.{SoundSeat}
use Rattle.rules.proofs.Codes.{select_real, erase_code, write_code, mark_code, status_code}

-- What an order that passed the tests has shown.
pub record Passes (s : Seat) (o : Order) : Type 0 where
  pub sequence : in_sequence s.drive.mode (row_for o) ≡ true
  pub cartridge : test5 s.drive (row_for o) ≡ false
  pub plug : test6 s.drive (row_for o) ≡ false
  pub room : has_room (row_for o).room s.drive.head (length s.tape) ≡ true

pub data Does (g : List ℕ) (s : Seat) : Act → Acted → Type 0 where
  -- orders that passed the tests
  selects : (c n : ℕ) → n ≤ 3 → order_of c ≡ Some (Select n) → Does g s (Command c) (leaves false (at_drive n s.port) (chosen s.drive) s.tape)
  rewinds : (c : ℕ) → s.drive.mode ≡ Idle → Does g s (Command c) (leaves false (resting s) (rewound s.drive) s.tape)
  erases : Passes s Erase → Does g s (Command 34) (leaves false (resting s) (rewound s.drive) (erased s.tape))
  sets_writing : Passes s Write → Does g s (Command 64) (leaves false (resting s) (begun (length s.tape) s.drive) s.tape)
  records_mark : Passes s WriteMark
      → Does g s (Command 96) (leaves false (resting s) (in_mode Idle (made (s.drive.head + 1) s.drive)) (with_mark s.drive s.tape))
  sets_reading : (c : ℕ) → Passes s Read
      → Does g s (Command c) (leaves (checked s.tape (in_mode Reading s.drive)).raised (resting s)
      (checked s.tape (in_mode Reading s.drive)).drive s.tape)
  searches : (c : ℕ) → Does g s (Command c) (leaves true (resting s) (standing (passed s.tape s.drive.head) s.drive) s.tape)
  reports : Does g s (Command 192) (leaves false (showing (octets_of s.drive) s.port) (cleared s.drive) s.tape)
  -- tests 1 to 7
  faults : (c : ℕ) (b : Bit) → Does g s (Command c) (leaves true (resting s) (latching b s.drive) s.tape)
  meets_plug : (c : ℕ) → Does g s (Command c) (leaves true (resting s) (raised s.drive) s.tape)
  finds_no_room : (c : ℕ) → Does g s (Command c) (leaves true (resting s) (stopping Eom s.drive) s.tape)
  -- a byte given
  stages : (b n : ℕ) → n + 1 ≤ 511 → s.drive.mode ≡ Writing
      → Does g s (Give b) (leaves false (at_phase (Taking (n + 1)) s.port) s.drive s.tape)
  records_block : (b : ℕ) → s.port.phase ≡ Taking 511 → s.drive.mode ≡ Writing → s.drive.head + block_asks s.drive.late ≤ length s.tape
      → (s.drive.late ≡ 1 → ⊥)
      → Does g s (Give b) (leaves false (resting s) (one_less (made (s.drive.head + 513) s.drive)) (with_block g s.drive s.tape))
  records_last : (b : ℕ) → s.port.phase ≡ Taking 511 → s.drive.mode ≡ Writing → s.drive.head + block_asks s.drive.late ≤ length s.tape
      → Does g s (Give b)
      (leaves true (resting s) (stopping Eom (one_less (made (s.drive.head + 513) s.drive))) (with_block g s.drive s.tape))
  drops_block : (b : ℕ) → Does g s (Give b) (leaves true (resting s) (stopping Eom s.drive) s.tape)
  -- a byte taken
  hands_octet : (k : ℕ) → s.port.phase ≡ Status k
      → Does g s Take (hands false (get_or s.port.octets (octet_place k) 0) (at_phase (after_octet k) s.port) s.drive s.tape)
  hands_byte : (n : ℕ) → n + 1 ≤ 511 → s.drive.mode ≡ Reading → found_at s.tape s.drive.head ≡ Ok Block
      → Does g s Take (hands false (get_or s.tape (s.drive.head + 1 + n) 0) (at_phase (Giving (n + 1)) s.port) s.drive s.tape)
  hands_last : s.port.phase ≡ Giving 511 → s.drive.mode ≡ Reading → found_at s.tape s.drive.head ≡ Ok Block
      → Does g s Take
      (hands (checked s.tape (passed_to (s.drive.head + 513) s.drive)).raised (get_or s.tape (s.drive.head + 512) 0) (resting s)
      (checked s.tape (passed_to (s.drive.head + 513) s.drive)).drive s.tape)
  meets_edge : s.port.phase ≡ Rest → (checked s.tape s.drive).raised ≡ true
      → Does g s Take (leaves true (resting s) (checked s.tape s.drive).drive s.tape)
  finds_no_block : (n : ℕ) → s.port.phase ≡ Giving n → is_block (found_at s.tape s.drive.head) ≡ false
      → Does g s Take (leaves true (resting s) (halted (spoilt (found_at s.tape s.drive.head)) s.drive) s.tape)
  -- ONLINE
  goes_up : Does g s Online (leaves false (at_level true s.port) s.drive s.tape)
  goes_down : Does g s Offline (leaves false (at_level false s.port) s.drive s.tape)
  goes_idle : Does g s Offline (leaves false (at_level false s.port) (in_mode Idle s.drive) s.tape)
  goes_home : Does g s Offline (leaves false (at_level false s.port) (rewound (in_mode Idle s.drive)) s.tape)
  leaves_mark : s.port.online ≡ true → s.drive.exception ≡ false → s.drive.mode ≡ Writing → s.drive.head + 1 ≤ length s.tape
      → Does g s Offline (leaves false (at_level false s.port) (rewound (in_mode Idle s.drive)) (with_mark s.drive s.tape))
  has_no_room : Does g s Offline (leaves true (at_level false s.port) (stopping Eom s.drive) s.tape)

-- by cases on a test
by_test : {g : List ℕ} {s : Seat} {a : Act} (b : Bool) {x y : Acted} → (b ≡ true → Does g s a x) → (b ≡ false → Does g s a y)
    → Does g s a (pick b x y)
unfolding pick
by_test true f h = f refl
by_test false f h = h refl

-- what is legal is in sequence; what only Idle takes finds the drive Idle
in_sequence_lem : (online : Bool) (d : Drive) (n : Needs) → illegal online d n ≡ false → in_sequence d.mode n ≡ true
unfolding illegal
in_sequence_lem online d n h = second (d.exception && not n.status) (in_sequence d.mode n) (n.online && not online) h
  where
    second : (a b c : Bool) → (a || (not b || c)) ≡ false → b ≡ true
    second true b c h = cc
    second false true c h = refl
    second false false c h = cc

pub only_idle : (m : Mode) (n : Needs) → n.writing ≡ false → n.reading ≡ false → in_sequence m n ≡ true → m ≡ Idle
only_idle Idle n w r h = refl
only_idle Writing n w r h = absurd (false≢true (sym w ∙ h))
only_idle Reading n w r h = absurd (false≢true (sym r ∙ h))

passes : (s : Seat) (o : Order) → fault_of s (Some o) ≡ Ok tt → Passes s o
unfolding fault_of fault_by pick
passes s o =
    go (illegal s.port.online s.drive (row_for o)) (test5 s.drive (row_for o)) (test6 s.drive (row_for o))
    (has_room (row_for o).room s.drive.head (length s.tape)) refl refl refl refl
  where
    go : (i e p r : Bool) → illegal s.port.online s.drive (row_for o) ≡ i → test5 s.drive (row_for o) ≡ e
        → test6 s.drive (row_for o) ≡ p → has_room (row_for o).room s.drive.head (length s.tape) ≡ r
        → first_fault i e p r ≡ Ok tt → Passes s o
    go true e p r qi qe qp qr h = record { sequence = cc; cartridge = cc; plug = cc; room = cc }
    go false true p r qi qe qp qr h = record { sequence = cc; cartridge = cc; plug = cc; room = cc }
    go false false true r qi qe qp qr h = record { sequence = cc; cartridge = cc; plug = cc; room = cc }
    go false false false false qi qe qp qr h = record { sequence = cc; cartridge = cc; plug = cc; room = cc }
    go false false false true qi qe qp qr h =
        record { sequence = in_sequence_lem s.port.online s.drive (row_for o) qi; cartridge = qe; plug = qp; room = qr }

pub writing_is : (m : Mode) → is_writing m ≡ true → m ≡ Writing
writing_is Idle h = cc
writing_is Writing h = refl
writing_is Reading h = cc

pub reading_is : (m : Mode) → is_reading m ≡ true → m ≡ Reading
reading_is Idle h = cc
reading_is Writing h = cc
reading_is Reading h = refl

block_is : (f : Result Kind Why) → is_block f ≡ true → f ≡ Ok Block
block_is (Ok Block) e = refl
block_is (Ok Mark) e = cc
block_is (Err w) e = cc

unraised_block : (t : List ℕ) (d : Drive) → (checked t d).raised ≡ false → found_at t d.head ≡ Ok Block
unfolding checked
unraised_block t d e = block_is (found_at t d.head) (not_not (is_block (found_at t d.head)) e)

pub taking_writing : (ph : Phase) (d : Drive) → takes ph (writes d) ≡ true → d.mode ≡ Writing
taking_writing Rest d h = writing_is d.mode (both (is_writing d.mode) (not d.exception) h).0
taking_writing (Taking n) d h = writing_is d.mode (both (is_writing d.mode) (not d.exception) h).0
taking_writing (Giving n) d h = cc
taking_writing (Status k) d h = cc

-- 511 bytes are before the last one of a block, and no more
full_place : (ph : Phase) (m : Mode) → possible_phase ph m ≡ true → 511 ≤ given_before ph → ph ≡ Taking 511
unfolding possible_phase
full_place Rest m k h = absurd (omega (arith, h))
full_place (Taking n) m k h =
    let l = leb-true n 511 (both (leb n 511) (is_writing m) (both (leb 1 n) _ k).1).0 in ap Taking (omega (arith, l, h))
full_place (Giving n) m k h = absurd (omega (arith, h))
full_place (Status n) m k h = absurd (omega (arith, h))

module _ (g : List ℕ) (s : Seat) (ok : SoundSeat s) where
  ordered_does : (c : ℕ) (o : Order) → order_of c ≡ Some o → Passes s o → Does g s (Command c) (ordered s (Some o))
  ordered_does c (Select n) e p = selects c n (select_real c n e) e
  ordered_does c Bot e p = rewinds c (only_idle s.drive.mode (row_for Bot) refl refl p.sequence)
  ordered_does c Erase e p = rw (erase_code c e) (erases p)
  ordered_does c Initialize e p = rewinds c (only_idle s.drive.mode (row_for Initialize) refl refl p.sequence)
  ordered_does c Write e p = rw (write_code c e) (sets_writing p)
  ordered_does c WriteMark e p = rw (mark_code c e) (records_mark p)
  ordered_does c Read e p = sets_reading c p
  ordered_does c ReadMark e p = searches c
  ordered_does c ReadStatus e p = rw (status_code c e) reports

  commanded_does : (c : ℕ) (o : Option Order) → order_of c ≡ o → (f : Result (Unit {0}) Fault) → fault_of s o ≡ f → Does g s (Command c) (commanded s o f)
  unfolding fault_of fault_by
  commanded_does c None e (Ok u) h = cc
  commanded_does c (Some o) e (Ok u) h = ordered_does c o e (passes s o h)
  commanded_does c o e (Err Illegal) h = faults c Ill
  commanded_does c o e (Err Empty) h = faults c Cni
  commanded_does c o e (Err Plugged) h = meets_plug c
  commanded_does c o e (Err Full) h = finds_no_room c

  given_does : (b n : ℕ) → (511 ≤ n → s.port.phase ≡ Taking 511) → s.drive.mode ≡ Writing → Does g s (Give b) (byte_given g s n)
  unfolding stored after_block
  given_does b n full w =
      by_test (ltb n 511) (λ h. stages b n (omega (arith, ltb-true n 511 h)) w)
      (λ h. by_test (block_room s.drive.late s.drive.head (length s.tape))
      (λ r. let q = full (ltb-false n 511 h) in
      let a = room_asked_lem s.drive.late s.drive.head (length s.tape) r in
      by_test _ (λ k. records_block b q w a (not_last s.drive.late _ _ k)) (λ _. records_last b q w a))
      (λ _. drops_block b))

  handed_does : (n : ℕ) → n ≤ 511 → (n ≡ 511 → s.port.phase ≡ Giving 511) → s.drive.mode ≡ Reading
      → found_at s.tape s.drive.head ≡ Ok Block → Does g s Take (handed s n)
  unfolding handed
  handed_does n l q w e =
      by_test (ltb n 511) (λ h. hands_byte n (omega (arith, ltb-true n 511 h)) w e)
      (λ h. hands_last (q (omega (arith, ltb-false n 511 h))) w e)

  taken_does : (ph : Phase) → s.port.phase ≡ ph → possible_phase ph s.drive.mode ≡ true → gives ph (reads s.drive) ≡ true
      → Does g s Take (byte_taken s ph)
  unfolding octet_taken possible_phase
  taken_does Rest e k h =
      let w = reading_is s.drive.mode (both (is_reading s.drive.mode) (not s.drive.exception) h).0 in
      by_test (checked s.tape s.drive).raised (λ r. meets_edge e r)
      (λ r. handed_does 0 (omega arith) (λ z. absurd (omega (arith, z))) w (unraised_block s.tape s.drive r))
  taken_does (Taking n) e k h = absurd (false≢true h)
  taken_does (Giving n) e k h =
      let p = both (leb n 511) (is_reading s.drive.mode) (both (leb 1 n) _ k).1 in
      by_test (is_block (found_at s.tape s.drive.head))
      (λ r. handed_does n (leb-true n 511 p.0) (λ z. e ∙ ap Giving z) (reading_is s.drive.mode p.1) (block_is _ r))
      (λ r. finds_no_block n e r)
  taken_does (Status j) e k h = hands_octet j e

  leaving_does : (m : Mode) → s.port.online ≡ true → s.drive.exception ≡ false → s.drive.mode ≡ m → Does g s Offline (leaving s m)
  leaving_does Idle u x e = goes_home
  leaving_does Writing u x e = by_test (leb (s.drive.head + 1) (length s.tape)) (λ r. leaves_mark u x e (leb-true _ _ r)) (λ _. has_no_room)
  leaving_does Reading u x e = goes_home

  dropped_does : Does g s Offline (dropped s)
  unfolding dropped
  dropped_does =
      by_test s.port.online
      (λ u. by_test s.drive.exception (λ _. goes_idle)
      (λ x. by_test s.drive.loaded (λ _. leaving_does s.drive.mode u x refl) (λ _. goes_down)))
      (λ _. goes_down)

  pub act_does : (a : Act) → in_step_at s.port.phase s.drive a ≡ true → Does g s a (act g s a)
  act_does (Command c) h = commanded_does c (order_of c) refl _ refl
  act_does (Give b) h =
      given_does b (given_before s.port.phase) (full_place s.port.phase s.drive.mode ok.phase)
      (taking_writing s.port.phase s.drive h)
  act_does Take h = taken_does s.port.phase refl ok.phase h
  act_does Online h = goes_up
  act_does Offline h = dropped_does
