-- A block given and a block taken, from a world at Rest; small laws of events and turns.
use Prim.Native.Nat.{ℕ, zero, suc, ◌+◌, ◌≤◌}
use mathlib.Core.Path.{◌≡◌, refl, sym, ap, subst, ◌∙◌}
use mathlib.Core.Bool.{Bool, true, false}
use mathlib.Core.List.{List, [], ◌∷◌, ◌++◌}
use Rattle.std.specs.Prelude.{Option, None, Some}
use Rattle.std.specs.List.{cons_option}
use native.Mathlib.Omega.{arith}
use native.Mathlib.Nat.{zero-add, suc-add}
use lib.ListN.{length, length-append}
use borrow.Author.Tests.{le-leb}
use Rattle.basis.specs.Choice.{pick}
use Rattle.tape.specs.Record.{block_record}
use Rattle.tape.specs.Recording.{recorded}
use Rattle.tape.specs.Held.{body_at}
use Rattle.tape.proofs.Recorded.{recorded_length}
use Rattle.tape.proofs.Holding.{holds_before, found_holds}
use Rattle.rules.specs.declared.drive.Drive.{Drive}
use Rattle.rules.specs.declared.drive.Mode.TheVariants.{Idle}
use Rattle.rules.specs.declared.unit.Port.{Port}
use Rattle.rules.specs.declared.phase.Phase.{Phase}
use Rattle.rules.specs.declared.phase.Phase.TheVariants.{Rest}
use Rattle.rules.specs.declared.answer.Turn.{Turn}
use Rattle.rules.specs.Drive.{is_writing, made}
use Rattle.rules.specs.Late.{goes_on}
use Rattle.rules.specs.Unit.{tape_at, at_phase}
use Rattle.rules.specs.Effect.{Seat, seat, leaves}
use Rattle.rules.specs.Bytes.{after_block, stored}
use Rattle.rules.specs.Run.{World, after, turns, given_each, taken_times}
use Rattle.rules.specs.Reach.{only_if}
use Rattle.rules.specs.Promises.Strike.{drive_of, tape_of, Works, Ready, strike, handed_out, AllTaken, RaisedLast, then, BlockGiven, BlockHanded, StaysBefore}
use Rattle.rules.proofs.Changes.{stored_there, before_the_head}
use Rattle.rules.proofs.Seated.{Sits, sits_here}
use Rattle.rules.proofs.Giving.{stored_here, block_given}
use Rattle.rules.proofs.Handing.{block_handed}
use Rattle.rules.proofs.Ways.{Fit}
use Rattle.rules.proofs.Rooms.{none_less, none_outside}

pub given_append : (bs cs : List ℕ) → given_each (bs ++ cs) ≡ given_each bs ++ given_each cs
given_append [] cs = refl
given_append (b ∷ bs) cs = ap (λ (x : List (List ℕ)). (2 ∷ b ∷ []) ∷ x) (given_append bs cs)

pub taken_add : (n m : ℕ) → taken_times (n + m) ≡ taken_times n ++ taken_times m
taken_add zero m = rw zero-add
taken_add (suc n) m = rw suc-add (ap (λ (x : List (List ℕ)). (3 ∷ []) ∷ x) (taken_add n m))

pub only_append : {A : Type 0} (b : Bool) (x : A) (l m : List A) → only_if b x (l ++ m) ≡ only_if b x l ++ m
only_append true x l m = refl
only_append false x l m = refl

pub cons_append : {A : Type 0} (o : Option A) (l m : List A) → cons_option o (l ++ m) ≡ cons_option o l ++ m
cons_append None l m = refl
cons_append (Some x) l m = refl

pub handed_append : (rs ss : List Turn) → handed_out (rs ++ ss) ≡ handed_out rs ++ handed_out ss
handed_append [] ss = refl
handed_append (r ∷ rs) ss =
    ap (cons_option r.byte) (handed_append rs ss) ∙ cons_append r.byte (handed_out rs) (handed_out ss)

pub taken_append : (rs ss : List Turn) → AllTaken rs → AllTaken ss → AllTaken (rs ++ ss)
taken_append [] ss p q = q
taken_append (r ∷ rs) ss (a, p) q = (a, taken_append rs ss p q)

pub last_append : (rs ss : List Turn) → AllTaken rs → RaisedLast ss → RaisedLast (rs ++ ss)
last_append [] ss p q = q
last_append (r ∷ rs) ss (a, p) q = then a (last_append rs ss p q)

pub strike_size : (b : List ℕ) (bs : List (List ℕ)) → length b ≡ 512 → length (strike (b ∷ bs)) ≡ 513 + length (strike bs)
strike_size b bs e = rw (length-append b (strike bs), e) (omega arith)

-- ---- a seat at Rest

-- a port whose phase is Rest is put to Rest by nothing
pub rest_seat : {w : World} {g : List ℕ} (p : Port) (d : Drive) (t : List ℕ) → p.phase ≡ Rest → Sits w g (seat p d t) → Sits w g (seat (at_phase Rest p) d t)
rest_seat {w} {g} p d t e k = subst (λ (ph : Phase). Sits w g (seat (at_phase ph p) d t)) e k

pub here_at_rest : (w : World) → Works w → w.core.port.phase ≡ Rest
    → Sits w w.lent.staging (seat (at_phase Rest w.core.port) (drive_of w) (tape_of w))
here_at_rest w k e = rest_seat w.core.port (drive_of w) (tape_of w) e (sits_here w k)

pub ready_fit : (w : World) → Ready w → Fit w.core.port (drive_of w) Idle
ready_fit w r = record { online = r.online; loaded = r.loaded; calm = r.calm; mode = r.idle }

-- a drive that is ready allows no late block
pub ready_none : (w : World) → Ready w → (drive_of w).late ≡ 0
ready_none w r =
    none_outside (drive_of w).mode (drive_of w).late (ap is_writing r.idle) ((sits_here w r.works).sound.fit w.core.port.selected).late

-- ---- a block

-- with room, and room left behind it
pub stored_on : (b : List ℕ) (p : Port) (d : Drive) (t : List ℕ) → length b ≡ 512 → d.late ≡ 0 → d.head + 513 + 1541 ≤ length t
    → stored b p d t ≡ leaves false p (made (d.head + 513) d) (recorded t d.head (block_record b))
unfolding stored after_block goes_on pick
stored_on b p d t e n r =
    let fits : d.head + length (block_record b) ≤ length t = omega (arith, e, r) in
    rw (
      none_less (made (d.head + 513) d) n,
      n,
      le-leb (d.head + 1541) (length t) (omega (arith, r)),
      recorded_length t (block_record b) d.head fits,
      le-leb (d.head + 513 + 1541) (length t) r,
    )

-- the tape of the drive that is still selected
seat_tape : {w : World} {g : List ℕ} {s : Seat} (n : ℕ) → Sits w g s → s.port.selected ≡ n → tape_at w.lent n ≡ s.tape
seat_tape {w} {g} {s} n k e =
    subst (λ (x : ℕ). tape_at w.lent x ≡ s.tape) (ap (λ (x : Seat). x.port.selected) k.seat ∙ e) (ap (λ (x : Seat). x.tape) k.seat)

pub block_is_given : BlockGiven
block_is_given w b k rest may room e =
    let p = at_phase Rest w.core.port in
    let g = block_given w.core.port (drive_of w) (tape_of w) may w w.lent.staging b e (here_at_rest w k rest) in
    seat_tape w.core.port.selected g.next (stored_here b p (drive_of w) (tape_of w)) ∙ stored_there b p (drive_of w) (tape_of w) room

pub block_is_handed : BlockHanded
block_is_handed w k rest may found =
    let held = found_holds (tape_of w) (drive_of w).head found in
    let body = body_at (tape_of w) (drive_of w).head in
    let out = block_handed w.core.port (drive_of w) (tape_of w) w.lent.staging may found w body held.0 held.1 (here_at_rest w k rest) in
    ap (λ (n : ℕ). handed_out (turns w (taken_times n))) (sym held.0) ∙ out.bytes

pub stays_before : StaysBefore
unfolding after
stays_before w event bytes k whole n far h =
    holds_before (tape_of w) (tape_at (after w event).lent w.core.port.selected) bytes k (drive_of w).head far
    (before_the_head w.core w.lent event whole n) h
