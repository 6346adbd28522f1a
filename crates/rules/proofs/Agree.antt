-- An act of the selected drive goes by what that drive sees: with the rest of staging and octets blotted out it does the same.
use Prim.Native.Nat.{ℕ, suc, ◌+◌, ◌-◌, ◌≤◌, ◌<◌}
use mathlib.Core.Path.{◌≡◌, refl, sym, ap, subst, ◌∙◌}
use mathlib.Core.Bool.{Bool, true, false, false≢true}
use mathlib.Core.List.{List, ◌++◌}
use Rattle.std.specs.Prelude.{Some}
use native.Mathlib.Omega.{arith}
use native.Mathlib.Numerals.{add-one}
use lib.Dec.{ltb, leb}
use lib.ListN.{length, get_or, set, take, replicate, length-set}
use lib.Seq.{take-suc-set, take_all}
use borrow.Author.Tests.{ltb-false}
use Rattle.std.specs.Prelude.{Result, Ok, Err, Option, None, Some}
use Rattle.basis.specs.Choice.{pick}
use Rattle.std.specs.Prelude.{Result}
use Rattle.tape.specs.declared.found.Kind.{Kind}
use Rattle.tape.specs.declared.found.Why.{Why}
use Rattle.tape.specs.Record.{found_at}
use Rattle.rules.specs.declared.drive.Mode.{Mode}
use Rattle.rules.specs.declared.drive.Mode.TheVariants.{Idle, Writing, Reading}
use Rattle.rules.specs.declared.phase.Phase.{Phase}
use Rattle.rules.specs.declared.phase.Phase.TheVariants.{Rest, Taking, Giving, Status}
use Rattle.rules.specs.declared.event.Act.{Act}
use Rattle.rules.specs.declared.event.Act.TheVariants.{Command, Give, Take, Online, Offline}
use Rattle.rules.specs.declared.order.Order.{Order}
use Rattle.rules.specs.declared.order.Order.TheVariants.{Select, Bot, Erase, Initialize, Write, WriteMark, Read, ReadMark, ReadStatus}
use Rattle.rules.specs.declared.order.Fault.{Fault}
use Rattle.rules.specs.declared.order.Fault.TheVariants.{Illegal, Empty, Plugged, Full}
use Rattle.rules.specs.declared.order.Checked.{Checked}
use Rattle.rules.specs.Drive.{reads}
use Rattle.rules.specs.Late.{block_room}
use Rattle.rules.specs.Unit.{at_phase}
use Rattle.rules.specs.Refusal.{gives, in_step_at}
use Rattle.rules.specs.Order.{order_of}
use Rattle.rules.specs.Edge.{is_block, checked}
use Rattle.rules.specs.Effect.{Seat, seat, Acted, leaves, hands, resting, ordered, fault_of, commanded}
use Rattle.rules.specs.Phase.{given_before}
use Rattle.rules.specs.Bytes.{place_of, staged_byte, after_block, stored, byte_given, handed, first_taken, next_taken, octet_place, octet_taken, byte_taken}
use Rattle.rules.specs.Online.{leaving, dropped}
use Rattle.rules.specs.Step.{act, staged}
use Rattle.rules.specs.Promises.Demand3.{octets_in}
use Rattle.rules.proofs.Sound.{SoundSeat}
use Rattle.rules.proofs.Sight.{here_port, shown_to, staging_in, place_below, shown_take, staging_length}

abbrev pub seen : Seat → Seat
seen s = seat (here_port s.port) s.drive s.tape

-- Two acts that the selected drive cannot tell apart; g and g' are the staging blocks after them.
pub record Agree (g g' : List ℕ) (m m' : Acted) : Type 0 where
  pub raised : m.moved.raised ≡ m'.moved.raised
  pub byte : m.moved.byte ≡ m'.moved.byte
  pub port : here_port m.moved.port ≡ here_port m'.moved.port
  pub drive : m.moved.drive ≡ m'.moved.drive
  pub tape : m.tape ≡ m'.tape
  pub block : staging_in m.moved.port.phase g ≡ staging_in m'.moved.port.phase g'

agree_pick : {g g' : List ℕ} (b : Bool) {x y x' y' : Acted} → Agree g g' x x' → Agree g g' y y' → Agree g g' (pick b x y) (pick b x' y')
unfolding pick
agree_pick true f h = f
agree_pick false f h = h

-- the same answer, record and tape, at a phase that shows no block
same : {g g' : List ℕ} {m m' : Acted} → m.moved.raised ≡ m'.moved.raised → m.moved.byte ≡ m'.moved.byte
    → here_port m.moved.port ≡ here_port m'.moved.port → m.moved.drive ≡ m'.moved.drive → m.tape ≡ m'.tape
    → staging_in m.moved.port.phase g ≡ staging_in m'.moved.port.phase g' → Agree g g' m m'
same a b p d t h = record { raised = a; byte = b; port = p; drive = d; tape = t; block = h }

module _ (s : Seat) (g g' : List ℕ) where
  ordered_agree : (o : Option Order) → Agree g g' (ordered s o) (ordered (seen s) o)
  ordered_agree None = same refl refl refl refl refl refl
  ordered_agree (Some (Select n)) = same refl refl refl refl refl refl
  ordered_agree (Some Bot) = same refl refl refl refl refl refl
  ordered_agree (Some Erase) = same refl refl refl refl refl refl
  ordered_agree (Some Initialize) = same refl refl refl refl refl refl
  ordered_agree (Some Write) = same refl refl refl refl refl refl
  ordered_agree (Some WriteMark) = same refl refl refl refl refl refl
  ordered_agree (Some Read) = same refl refl refl refl refl refl
  ordered_agree (Some ReadMark) = same refl refl refl refl refl refl
  ordered_agree (Some ReadStatus) = same refl refl refl refl refl refl

  commanded_agree : (o : Option Order) (f : Result (Unit {0}) Fault) → Agree g g' (commanded s o f) (commanded (seen s) o f)
  commanded_agree o (Ok u) = ordered_agree o
  commanded_agree o (Err Illegal) = same refl refl refl refl refl refl
  commanded_agree o (Err Empty) = same refl refl refl refl refl refl
  commanded_agree o (Err Plugged) = same refl refl refl refl refl refl
  commanded_agree o (Err Full) = same refl refl refl refl refl refl

  handed_agree : (n : ℕ) → Agree g g' (handed s n) (handed (seen s) n)
  unfolding handed
  handed_agree n = agree_pick (ltb n 511) (same refl refl refl refl refl refl) (same refl refl refl refl refl refl)

  first_agree : (c : Checked) → Agree g g' (first_taken s c) (first_taken (seen s) c)
  first_agree c = agree_pick c.raised (same refl refl refl refl refl refl) (handed_agree 0)

  next_agree : (n : ℕ) (f : Result Kind Why) → Agree g g' (next_taken s n f) (next_taken (seen s) n f)
  next_agree n f = agree_pick (is_block f) (handed_agree n) (same refl refl refl refl refl refl)

  octet_agree : (k : ℕ) → s.port.octets ≡ octets_in s.port.phase s.port.octets → (b : Bool)
      → Agree g g' (hands false (get_or s.port.octets (octet_place k) 0) (at_phase (pick b Rest (Status (k - 1))) s.port) s.drive s.tape)
      (hands false (get_or (octets_in s.port.phase s.port.octets) (octet_place k) 0)
      (at_phase (pick b Rest (Status (k - 1))) (here_port s.port)) s.drive s.tape)
  unfolding pick
  octet_agree k e true = same refl (ap (λ (o : List ℕ). Some (get_or o (octet_place k) 0)) e) refl refl refl refl
  octet_agree k e false =
      same refl (ap (λ (o : List ℕ). Some (get_or o (octet_place k) 0)) e)
      (ap (λ (o : List ℕ). record { selected = s.port.selected; online = s.port.online; phase = Status (k - 1); octets = o }) e) refl refl refl

  taken_agree : (ph : Phase) → s.port.phase ≡ ph → gives ph (reads s.drive) ≡ true → Agree g g' (byte_taken s ph) (byte_taken (seen s) ph)
  unfolding octet_taken
  taken_agree Rest e h = first_agree (checked s.tape s.drive)
  taken_agree (Taking n) e h = absurd (false≢true h)
  taken_agree (Giving n) e h = next_agree n (found_at s.tape s.drive.head)
  taken_agree (Status k) e h = octet_agree k (ap (λ (q : Phase). octets_in q s.port.octets) (sym e)) (leb k 1)

  leaving_agree : (m : Mode) → Agree g g' (leaving s m) (leaving (seen s) m)
  leaving_agree Idle = same refl refl refl refl refl refl
  leaving_agree Writing =
      agree_pick (leb (s.drive.head + 1) (length s.tape)) (same refl refl refl refl refl refl) (same refl refl refl refl refl refl)
  leaving_agree Reading = same refl refl refl refl refl refl

  dropped_agree : Agree g g' (dropped s) (dropped (seen s))
  unfolding dropped
  dropped_agree =
      agree_pick s.port.online
      (agree_pick s.drive.exception (same refl refl refl refl refl refl)
      (agree_pick s.drive.loaded (leaving_agree s.drive.mode) (same refl refl refl refl refl refl)))
      (same refl refl refl refl refl refl)

  stored_agree : g ≡ g' → Agree g g' (stored g (resting s) s.drive s.tape) (stored g' (resting (seen s)) s.drive s.tape)
  unfolding stored after_block
  stored_agree e =
      rw e
      (agree_pick (block_room s.drive.late s.drive.head (length s.tape))
      (agree_pick _ (same refl refl refl refl refl refl) (same refl refl refl refl refl refl))
      (same refl refl refl refl refl refl))

-- ---- a byte staged

-- blocks that are equal up to place n, with the same byte put there
put_agree : (g g' : List ℕ) (n b : ℕ) → n < length g → n < length g' → take n g ≡ take n g' → take (suc n) (set g n b) ≡ take (suc n) (set g' n b)
put_agree g g' n b h h' e = rw (take-suc-set g n b h, take-suc-set g' n b h', e)

put_shown : (g g' : List ℕ) (n b : ℕ) → n < length g → n < length g' → take n g ≡ take n g'
    → shown_to (n + 1) (set g n b) ≡ shown_to (n + 1) (set g' n b)
unfolding shown_to
put_shown g g' n b h h' e = rw add-one (ap (λ (x : List ℕ). x ++ replicate (512 - suc n) 0) (put_agree g g' n b h h' e))

put_whole : (g g' : List ℕ) (n b : ℕ) → length g ≡ suc n → length g' ≡ suc n → take n g ≡ take n g' → set g n b ≡ set g' n b
put_whole g g' n b h h' e =
    sym (take_all (suc n) (set g n b) (rw length-set (omega (arith, h))))
    ∙ (put_agree g g' n b (omega (arith, h)) (omega (arith, h')) e ∙ take_all (suc n) (set g' n b) (rw length-set (omega (arith, h'))))

pub given_seen : (ph : Phase) (g : List ℕ) → given_before ph ≤ 511 → length g ≡ 512 → take (given_before ph) g ≡ take (given_before ph) (staging_in ph g)
given_seen Rest g l w = refl
given_seen (Taking n) g l w = sym (shown_take n g l w)
given_seen (Giving n) g l w = refl
given_seen (Status k) g l w = refl

module _ (s : Seat) (ok : SoundSeat s) (g : List ℕ) (whole : length g ≡ 512) where
  abbrev cut : List ℕ
  cut = staging_in s.port.phase g

  given_agree : (n b : ℕ) → n ≤ 511 → take n g ≡ take n cut → length cut ≡ 512
      → Agree (set g (place_of n) b) (set cut (place_of n) b) (byte_given (set g (place_of n) b) s n) (byte_given (set cut (place_of n) b) (seen s) n)
  unfolding pick
  given_agree n b h e w = go (ltb n 511) refl
    where
      go : (c : Bool) → ltb n 511 ≡ c → Agree (set g (pick c n 511) b) (set cut (pick c n 511) b)
          (pick c (leaves false (at_phase (Taking (n + 1)) s.port) s.drive s.tape)
          (stored (set g (pick c n 511) b) (resting s) s.drive s.tape))
          (pick c (leaves false (at_phase (Taking (n + 1)) (here_port s.port)) s.drive s.tape)
          (stored (set cut (pick c n 511) b) (resting (seen s)) s.drive s.tape))
      go true q = same refl refl refl refl refl (put_shown g cut n b (omega (arith, whole, h)) (omega (arith, w, h)) e)
      go false q =
          let k : n ≡ 511 = omega (arith, ltb-false n 511 q) in
          stored_agree s (set g 511 b) (set cut 511 b) (put_whole g cut 511 b whole w (subst (λ (i : ℕ). take i g ≡ take i cut) k e))

  pub act_agree : (a : Act) → in_step_at s.port.phase s.drive a ≡ true
      → Agree (staged s.port.phase a g) (staged s.port.phase a cut) (act (staged s.port.phase a g) s a)
      (act (staged s.port.phase a cut) (seen s) a)
  unfolding fault_of staged_byte
  act_agree (Command c) h = commanded_agree s g cut (order_of c) (fault_of s (order_of c))
  act_agree (Give b) h =
      let below = place_below s.port.phase s.drive.mode ok.phase in
      given_agree (given_before s.port.phase) b below (given_seen s.port.phase g below whole)
      (staging_length s.port.phase s.drive.mode g ok.phase whole)
  act_agree Take h = taken_agree s g cut s.port.phase refl h
  act_agree Online h = same refl refl refl refl refl refl
  act_agree Offline h = dropped_agree s g cut
