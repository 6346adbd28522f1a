-- A strike recorded: what its events leave of tape, record and port.
use Prim.Native.Nat.{ℕ, ◌+◌, ◌*◌, ◌≤◌}
use mathlib.Core.Path.{◌≡◌, refl, sym, ap, subst, ◌∙◌}
use mathlib.Core.Bool.{true, false}
use mathlib.Core.List.{List, [], ◌∷◌, ◌++◌, append_assoc}
use native.Mathlib.Omega.{arith}
use lib.ListN.{length}
use Rattle.basis.specs.Choice.{pick}
use Rattle.tape.specs.Record.{block_record}
use Rattle.tape.specs.Recording.{recorded}
use Rattle.tape.proofs.Recorded.{recorded_length, recorded_before}
use Rattle.tape.proofs.Holding.{recorded_on, holds_before}
use Rattle.rules.specs.declared.drive.Drive.{Drive}
use Rattle.rules.specs.declared.drive.Mode.{Mode}
use Rattle.rules.specs.declared.drive.Mode.TheVariants.{Idle, Writing}
use Rattle.rules.specs.declared.unit.Port.{Port}
use Rattle.rules.specs.declared.phase.Phase.{Phase}
use Rattle.rules.specs.declared.phase.Phase.TheVariants.{Rest}
use Rattle.rules.specs.Drive.{set_head, in_mode, allowing, made, writes}
use Rattle.rules.specs.Unit.{at_phase}
use Rattle.rules.specs.Effect.{Seat, seat, Acted}
use Rattle.rules.specs.Run.{World, after, run, turns, given_each}
use Rattle.rules.specs.Promises.Runs.{command}
use Rattle.rules.specs.Promises.Events.{joined}
use Rattle.rules.specs.Promises.Strike.{drive_of, tape_of, MayRecord, AllWhole, strike, AllTaken, StrikeRecorded, FirstStrikeStays}
use Rattle.rules.proofs.Ran.{run_append, turns_append}
use Rattle.rules.proofs.Seated.{Sits, sits_works, left}
use Rattle.rules.proofs.Giving.{block_given}
use Rattle.rules.proofs.Ways.{Fit, write_moves, mark_moves}
use Rattle.rules.proofs.Blocks.{given_append, taken_append, strike_size, here_at_rest, ready_fit, ready_none, stored_on}

record Struck (p : Port) (d : Drive) (t : List ℕ) (bs : List (List ℕ)) (w : World) : Type 0 where
  staging : List ℕ
  next : Sits (run w (given_each (joined bs) ++ command 96)) staging
      (seat (at_phase Rest p) (in_mode Idle (set_head (d.head + length (strike bs)) d)) (recorded t d.head (strike bs)))
  answers : AllTaken (turns w (given_each (joined bs) ++ command 96))

fit_writes : (p : Port) (d : Drive) → Fit p d Writing → writes d ≡ true
fit_writes p d f = rw (f.mode, f.calm)

struck : (p : Port) (bs : List (List ℕ)) (d : Drive) (t g : List ℕ) (w : World) → AllWhole bs → Fit p d Writing → d.late ≡ 0 → d.protected ≡ false
    → d.head + length bs * 513 + 1541 ≤ length t → Sits w g (seat (at_phase Rest p) d t) → Struck p d t bs w
unfolding pick
struck p [] d t g w a f n o r k =
    let m = mark_moves p d t w g k f o (omega (arith, r)) in record { staging = g; next = m.next; answers = (m.answer, tt) }
struck p (b ∷ bs) d t g w (e, a) f n o r k =
    let far : d.head + 513 + length bs * 513 + 1541 ≤ length t = omega (arith, r) in
    let given = block_given p d t (fit_writes p d f) w g b e k in
    let on = stored_on b (at_phase Rest p) d t e n (omega (arith, far)) in
    let fits : d.head + length (block_record b) ≤ length t = omega (arith, e, far) in
    let sits = subst (λ (m : Acted). Sits (run w (given_each b)) b (left m)) on given.next in
    let f' : Fit p (made (d.head + 513) d) Writing = record { online = f.online; loaded = f.loaded; calm = f.calm; mode = f.mode } in
    let size = recorded_length t (block_record b) d.head fits in
    let rest = struck p bs (made (d.head + 513) d) (recorded t d.head (block_record b)) b (run w (given_each b)) a f' n o (rw size far) sits in
    let events : given_each (b ++ joined bs) ++ command 96 ≡ given_each b ++ (given_each (joined bs) ++ command 96) =
    ap (λ (x : List (List ℕ)). x ++ command 96) (given_append b (joined bs)) ∙ append_assoc (given_each b) (given_each (joined bs)) (command 96) in
    let head : d.head + 513 + length (strike bs) ≡ d.head + length (strike (b ∷ bs)) = omega (arith, strike_size b bs e) in
    let at : d.head + 513 ≡ d.head + length (block_record b) = omega (arith, e) in
    let tape : recorded (recorded t d.head (block_record b)) (d.head + 513) (strike bs) ≡ recorded t d.head (strike (b ∷ bs)) =
    ap (λ (x : ℕ). recorded (recorded t d.head (block_record b)) x (strike bs)) at ∙ recorded_on t (block_record b) (strike bs) d.head fits in
    record {
      staging = rest.staging;
      next =
          subst (λ (x : List (List ℕ)). Sits (run w x) rest.staging
          (seat (at_phase Rest p) (in_mode Idle (set_head (d.head + length (strike (b ∷ bs))) d)) (recorded t d.head (strike (b ∷ bs)))))
          (sym events) (rw (run_append w (given_each b) (given_each (joined bs) ++ command 96), ← head, ← tape) rest.next);
      answers =
          rw (events, turns_append w (given_each b) (given_each (joined bs) ++ command 96))
          (taken_append (turns w (given_each b)) (turns (run w (given_each b)) (given_each (joined bs) ++ command 96))
          (given.answers (ap (λ (m : Acted). m.moved.raised) on)) rest.answers);
    }

-- ---- from a world that is ready

idle_again : (d : Drive) (x : ℕ) (m : Mode) → d.mode ≡ Idle → d.late ≡ 0 → in_mode Idle (set_head x (in_mode m d)) ≡ set_head x d
idle_again d x m e n = ap (λ (y : Mode). in_mode y (set_head x d)) (sym e) ∙ ap (λ (y : ℕ). allowing y (set_head x d)) (sym n)

rest_again : (p : Port) → p.phase ≡ Rest → at_phase Rest p ≡ p
rest_again p e = ap (λ (y : Phase). at_phase y p) (sym e)

pub strike_recorded : StrikeRecorded
unfolding pick
strike_recorded w bs a m =
    let r = m.ready in
    let p = w.core.port in
    let d = drive_of w in
    let f = ready_fit w r in
    let f' : Fit p (in_mode Writing d) Writing = record { online = f.online; loaded = f.loaded; calm = f.calm; mode = refl } in
    let begun =
    write_moves p d (tape_of w) w w.lent.staging (here_at_rest w r.works r.rest) f m.unplugged (omega (arith, m.room)) in
    let made = struck p bs (in_mode Writing d) (tape_of w) w.lent.staging (after w (1 ∷ 64 ∷ [])) a f' refl m.unplugged m.room begun.next in
    let seen = made.next.seat in (
      (begun.answer, made.answers),
      record {
        tape = ap (λ (s : Seat). s.tape) seen;
        drive = ap (λ (s : Seat). s.drive) seen ∙ idle_again d (d.head + length (strike bs)) Writing r.idle (ready_none w r);
        port = ap (λ (s : Seat). s.port) seen ∙ rest_again p r.rest;
        works = sits_works made.next;
      },
    )

pub strike_length : (bs : List (List ℕ)) → AllWhole bs → length (strike bs) ≡ length bs * 513 + 1
strike_length [] a = refl
strike_length (b ∷ bs) (e, a) = omega (arith, strike_size b bs e, strike_length bs a)

pub strike_fits : (w : World) (bs : List (List ℕ)) → AllWhole bs → MayRecord w (length bs) → (drive_of w).head + length (strike bs) ≤ length (tape_of w)
strike_fits w bs a m = omega (arith, strike_length bs a, m.room)

pub first_strike_stays : FirstStrikeStays
first_strike_stays w bs cs k a m far h =
    let rec = (strike_recorded w cs a m).1 in
    rw rec.tape (holds_before (tape_of w) (recorded (tape_of w) (drive_of w).head (strike cs)) (strike bs) k (drive_of w).head far
    (recorded_before (tape_of w) (strike cs) (drive_of w).head (strike_fits w cs a m)) h)
