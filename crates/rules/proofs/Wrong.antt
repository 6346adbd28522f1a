-- Easy to get wrong: the laws, from the promises and from what the events do.
use Prim.Native.Nat.{ℕ, ◌+◌, ◌≤◌}
use mathlib.Core.Path.{◌≡◌, refl, sym, subst, ◌∙◌}
use mathlib.Core.Bool.{Bool, true, false, not}
use mathlib.Core.List.{List, [], ◌∷◌}
use native.Mathlib.Omega.{arith}
use lib.Dec.{eqb}
use lib.ListN.{set}
use Rattle.std.specs.Prelude.{Result, Ok, Err, Option, Some}
use Rattle.basis.specs.Choice.{pick}
use Rattle.tape.specs.Record.{mark_record}
use Rattle.tape.specs.Recording.{recorded}
use Rattle.rules.specs.declared.drive.Drive.{Drive}
use Rattle.rules.specs.declared.drive.Mode.TheVariants.{Idle}
use Rattle.rules.specs.declared.unit.Core.{Core}
use Rattle.rules.specs.declared.phase.Phase.TheVariants.{Taking}
use Rattle.rules.specs.declared.event.Act.TheVariants.{Command, Give, Offline}
use Rattle.rules.specs.declared.event.What.{What}
use Rattle.rules.specs.declared.event.What.TheVariants.{Out, Error, Underrun}
use Rattle.rules.specs.declared.event.Event.{Event}
use Rattle.rules.specs.declared.event.Event.TheVariants.{Named, Own}
use Rattle.rules.specs.declared.order.Order.{Order}
use Rattle.rules.specs.declared.order.Order.TheVariants.{WriteMark}
use Rattle.rules.specs.declared.order.Fault.{Fault}
use Rattle.rules.specs.declared.order.Fault.TheVariants.{Illegal, Empty, Plugged, Full}
use Rattle.rules.specs.declared.answer.Answer.TheVariants.{Taken, Raised}
use Rattle.rules.specs.Drive.{counted}
use Rattle.rules.specs.Unit.{Lent, Whole, drive_at, tape_at}
use Rattle.rules.specs.Event.{event_of}
use Rattle.rules.specs.Refusal.{refusal_in}
use Rattle.rules.specs.Octets.{bit0, bit1, bit2, bit3, bit4, bit5, bit7, bit, octets_of, octet0, cni}
use Rattle.rules.specs.Effect.{Seat, Acted, fault_of, commanded}
use Rattle.rules.specs.Bytes.{staged_byte}
use Rattle.rules.specs.Step.{Stepped, seat_of, landed, effect_of, step_of}
use Rattle.rules.specs.Run.{World, after, run, turn_of}
use Rattle.rules.specs.Promises.Wrong.{Shows, Unread, CniStillShows, CountWaits, errors_of, underruns_of, UnderrunWaits, ErrorWaits, FirstByteFirst, OfflineRewindsNoOther, OneMarkOnly}
use Rattle.rules.proofs.Places.{put_same}
use Rattle.rules.proofs.Codes.{orders}
use Rattle.rules.proofs.Acts
use Rattle.rules.proofs.Sound.{Sound}
use Rattle.rules.proofs.StepBy.{step_sound, effect_by, own_does}
use Rattle.rules.proofs.Keeps.{staging_stays_whole}
use Rattle.rules.proofs.Status.{cleared_only}
use Rattle.rules.proofs.Plug.{other_drives_stay}

-- ---- CNI

stays_latched : (es : List (List ℕ)) (w : World) (i : ℕ) → i ≤ 3 → Whole w.lent → Unread i w es → (drive_at w.core i).latched.cni ≡ true
    → (drive_at (run w es).core i).latched.cni ≡ true
unfolding after
stays_latched [] w i r k u h = h
stays_latched (e ∷ es) w i r k (n, s, u) h =
    stays_latched es (after w e) i r (staging_stays_whole w.core w.lent e k) u ((cleared_only w.core w.lent e i r k n s).bits.cni h)

pulled_latches : (w : World) (i : ℕ) (e : List ℕ) → event_of e ≡ Some (Named i Out) → (turn_of w e).answer ≡ Raised
    → (drive_at (after w e).core i).latched.cni ≡ true
unfolding after turn_of
pulled_latches w i e q h =
    effect_by (λ s. (drive_at s.turn.core i).latched.cni ≡ true) w.core w.lent e (Some (Named i Out)) q (rw h) (λ _ _ _. rw put_same)

bit_most : (w : ℕ) (b : Bool) → bit w b ≤ w
bit_most w true = omega arith
bit_most w false = omega arith

-- with CNI, whatever bits below and above its place stand
shown_over : (x : ℕ) → x ≤ 63 → (b : Bool) → Shows cni (x + cni + bit bit7 b)
shown_over x l true = omega (arith, l)
shown_over x l false = omega (arith, l)

latched_shows : (d : Drive) → d.latched.cni ≡ true → Shows cni (octet0 d)
unfolding octets_of
latched_shows d h =
    let l = d.latched in
    let x = bit bit0 l.fil + bit bit1 l.bnl + bit bit2 l.ude + bit bit3 l.eom + bit bit4 d.protected + bit bit5 false in
    let below : x ≤ 63 =
    omega (arith, bit_most bit0 l.fil, bit_most bit1 l.bnl, bit_most bit2 l.ude, bit_most bit3 l.eom, bit_most bit4 d.protected) in
    rw h (shown_over x below (not (eqb (x + cni) 0)))

pub cni_still_shows : CniStillShows
unfolding after
cni_still_shows w i r k e q h es u =
    latched_shows _ (stays_latched es (after w e) i r (staging_stays_whole w.core w.lent e k) u (pulled_latches w i e q h))

-- ---- counts, the first byte, ONLINE

record Counted (c : Core) (i : ℕ) (mine others : Drive → ℕ) (s : Stepped) : Type 0 where
  port : s.turn.core.port ≡ c.port
  count : mine (drive_at s.turn.core i) ≡ counted (mine (drive_at c i))
  beside : others (drive_at s.turn.core i) ≡ others (drive_at c i)

count_waits : (w : World) (i : ℕ) (e : List ℕ) (what : What) (mine others : Drive → ℕ) → event_of e ≡ Some (Named i what) → (turn_of w e).answer ≡ Taken
    → Counted w.core i mine others (effect_of w.core w.lent (Some (Named i what))) → CountWaits w e i mine others
unfolding after turn_of
count_waits w i e what mine others q h c =
    let r = effect_by (Counted w.core i mine others) w.core w.lent e (Some (Named i what)) q (rw h) (λ _ _ _. c) in
    record { port = r.port; count = r.count; beside = r.beside }

pub underrun_waits : UnderrunWaits
unfolding pick
underrun_waits w i e q h =
    count_waits w i e Underrun underruns_of errors_of q h (record { port = refl; count = rw put_same; beside = rw put_same })

pub error_waits : ErrorWaits
unfolding pick
error_waits w i e q h =
    count_waits w i e Error errors_of underruns_of q h (record { port = refl; count = rw put_same; beside = rw put_same })

record Placed (l : Lent) (b : ℕ) (s : Stepped) : Type 0 where
  staging : s.lent.staging ≡ set l.staging 0 b
  phase : s.turn.core.port.phase ≡ Taking 1

pub first_byte_first : FirstByteFirst
unfolding after turn_of pick staged_byte
first_byte_first w b e q h r =
    let p = effect_by (Placed w.lent b) w.core w.lent e (Some (Own (Give b))) q (rw h) (λ _ _ _. record { staging = rw r; phase = rw r }) in
    record { staging = p.staging; phase = p.phase }

pub offline_rewinds_no_other : OfflineRewindsNoOther
unfolding after
offline_rewinds_no_other w i r k e q n = other_drives_stay w.core w.lent e i r k n (rw q)

-- ---- one mark

-- after a WRITE FILE MARK that is taken the mark stands and the drive is Idle
record Marked (c : Core) (l : Lent) (s : Stepped) : Type 0 where
  tape : tape_at s.lent c.port.selected ≡ recorded (tape_at l c.port.selected) (drive_at c c.port.selected).head mark_record
  selected : s.turn.core.port.selected ≡ c.port.selected
  mode : (drive_at s.turn.core c.port.selected).mode ≡ Idle

landed_marks : (c : Core) (l : Lent) (f : Result (Unit {0}) Fault) → (landed c l (commanded (seat_of c l) (Some WriteMark) f)).turn.answer ≡ Taken
    → Marked c l (landed c l (commanded (seat_of c l) (Some WriteMark) f))
unfolding pick
landed_marks c l (Ok u) h = record { tape = rw put_same; selected = refl; mode = rw put_same }
landed_marks c l (Err Illegal) h = record { tape = cc; selected = cc; mode = cc }
landed_marks c l (Err Empty) h = record { tape = cc; selected = cc; mode = cc }
landed_marks c l (Err Plugged) h = record { tape = cc; selected = cc; mode = cc }
landed_marks c l (Err Full) h = record { tape = cc; selected = cc; mode = cc }

marks : (c : Core) (l : Lent) → (effect_of c l (Some (Own (Command 96)))).turn.answer ≡ Taken → Marked c l (effect_of c l (Some (Own (Command 96))))
marks c l =
    subst (λ (o : Option Order). (landed c l (commanded (seat_of c l) o (fault_of (seat_of c l) o))).turn.answer ≡ Taken
    → Marked c l (landed c l (commanded (seat_of c l) o (fault_of (seat_of c l) o))))
    (sym orders.mark) (landed_marks c l (fault_of (seat_of c l) (Some WriteMark)))

-- an Idle drive records nothing when ONLINE drops
idle_keeps : (g : List ℕ) (s : Seat) (m : Acted) → Acts.Does g s Offline m → s.drive.mode ≡ Idle → m.tape ≡ s.tape
idle_keeps g s m Acts.goes_down i = refl
idle_keeps g s m Acts.goes_idle i = refl
idle_keeps g s m Acts.goes_home i = refl
idle_keeps g s m (Acts.leaves_mark u x w r) i = cc
idle_keeps g s m Acts.has_no_room i = refl

idle_drop : (c : Core) (l : Lent) (event : List ℕ) → Whole l → event_of event ≡ Some (Own Offline) → (drive_at c c.port.selected).mode ≡ Idle
    → tape_at (step_of c l event).lent c.port.selected ≡ tape_at l c.port.selected
idle_drop c l event k q i =
    step_sound (λ s. tape_at s.lent c.port.selected ≡ tape_at l c.port.selected) c l event k (λ _ _. refl) (go (event_of event) q)
  where
    go : (e : Option Event) → e ≡ Some (Own Offline) → Sound c l → refusal_in c e ≡ Taken → tape_at (effect_of c l e).lent c.port.selected ≡ tape_at l
        c.port.selected
    go e z s h =
        subst (λ (x : Option Event). refusal_in c x ≡ Taken → tape_at (effect_of c l x).lent c.port.selected ≡ tape_at l c.port.selected) (sym z)
        (λ r. rw put_same (idle_keeps l.staging (seat_of c l) _ (own_does c l Offline s r) i)) h

pub one_mark_only : OneMarkOnly
unfolding after turn_of
one_mark_only w k e f q h p =
    let m = effect_by (λ s. s.turn.answer ≡ Taken → Marked w.core w.lent s) w.core w.lent e (Some (Own (Command 96))) q (rw h)
    (λ _ _ _. marks w.core w.lent) h in
    let n = w.core.port.selected in
    let x = after w e in
    subst (λ (j : ℕ). tape_at (after x f).lent j ≡ tape_at x.lent j) m.selected
    (idle_drop x.core x.lent f (staging_stays_whole w.core w.lent e k) p
    (subst (λ (j : ℕ). (drive_at x.core j).mode ≡ Idle) (sym m.selected) m.mode))
    ∙ m.tape
