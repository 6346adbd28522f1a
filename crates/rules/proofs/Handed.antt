-- A strike handed out: block by block, and then FIL.
use Prim.Native.Nat.{ℕ, ◌+◌, ◌*◌}
use mathlib.Core.Path.{◌≡◌, sym, ap, subst, ◌∙◌}
use mathlib.Core.Bool.{true, false}
use mathlib.Core.List.{List, [], ◌∷◌, ◌++◌, append-nil}
use native.Mathlib.Omega.{arith}
use lib.ListN.{length}
use Rattle.basis.specs.Choice.{pick}
use Rattle.std.specs.Prelude.{Ok}
use Rattle.tape.specs.declared.found.Kind.TheVariants.{Block, Mark}
use Rattle.tape.specs.Record.{found_at, mark_record, block_record}
use Rattle.tape.specs.Held.{Holds}
use Rattle.tape.proofs.Holding.{holds_parts, held_block, held_mark}
use Rattle.rules.specs.declared.drive.Drive.{Drive}
use Rattle.rules.specs.declared.drive.Mode.TheVariants.{Reading}
use Rattle.rules.specs.declared.drive.Bit.TheVariants.{Fil}
use Rattle.rules.specs.declared.unit.Port.{Port}
use Rattle.rules.specs.declared.phase.Phase.TheVariants.{Rest}
use Rattle.rules.specs.declared.order.Checked.{Checked}
use Rattle.rules.specs.declared.answer.Turn.{Turn}
use Rattle.rules.specs.Drive.{set_head, in_mode, stopping, passed_to, reads}
use Rattle.rules.specs.Unit.{at_phase}
use Rattle.rules.specs.Edge.{checked}
use Rattle.rules.specs.Effect.{Seat, seat}
use Rattle.rules.specs.Run.{World, after, run, turns, taken_times}
use Rattle.rules.specs.Promises.Events.{joined}
use Rattle.rules.specs.Promises.Strike.{drive_of, tape_of, AllWhole, strike, handed_out, RaisedLast, last, then, StrikeHandedOut}
use Rattle.rules.proofs.Ran.{run_append, turns_append}
use Rattle.rules.proofs.Seated.{Sits}
use Rattle.rules.proofs.Handing.{block_handed}
use Rattle.rules.proofs.Ways.{read_at_block, read_at_mark}
use Rattle.rules.proofs.Blocks.{taken_add, handed_append, last_append, strike_size, here_at_rest, ready_fit}

record Read (p : Port) (d : Drive) (t g : List ℕ) (bs : List (List ℕ)) (w : World) (n : ℕ) : Type 0 where
  next : Sits (run w (taken_times n)) g (seat (at_phase Rest p) (stopping Fil (set_head (d.head + length (strike bs)) d)) t)
  bytes : handed_out (turns w (taken_times n)) ≡ joined bs
  answers : RaisedLast (turns w (taken_times n))

at_block : (t : List ℕ) (d : Drive) → found_at t d.head ≡ Ok Block → checked t d ≡ record { raised = false; drive = d }
unfolding checked
at_block t d e = rw e

at_mark : (t : List ℕ) (d : Drive) → found_at t d.head ≡ Ok Mark → checked t d ≡ record { raised = true; drive = stopping Fil (passed_to (d.head + 1) d) }
unfolding checked
at_mark t d e = rw e

taken_in_two : (w : World) (n m k : ℕ) → k ≡ n + m → (P : World → List Turn → Type 0)
    → P (run (run w (taken_times n)) (taken_times m)) (turns w (taken_times n) ++ turns (run w (taken_times n)) (taken_times m))
    → P (run w (taken_times k)) (turns w (taken_times k))
taken_in_two w n m k e P h =
    rw (e, taken_add n m, run_append w (taken_times n) (taken_times m), turns_append w (taken_times n) (taken_times m)) h

read : (p : Port) (bs : List (List ℕ)) (b : List ℕ) (d : Drive) (t g : List ℕ) (w : World) → AllWhole (b ∷ bs) → reads d ≡ true
    → Holds t d.head (strike (b ∷ bs)) → Sits w g (seat (at_phase Rest p) d t) → Read p d t g (b ∷ bs) w (length (b ∷ bs) * 512)
read p [] b d t g w (e, a) may h k =
    let parts = holds_parts t (block_record b) mark_record d.head h in
    let at : d.head + length (block_record b) ≡ d.head + 513 = omega (arith, e) in
    let found = held_block t b d.head e parts.0 in
    let out = block_handed p d t g may found w b e parts.0 k in
    let edge = at_mark t (passed_to (d.head + 513) d) (held_mark t (d.head + 513) (subst (λ (x : ℕ). Holds t x mark_record) at parts.1)) in
    let size : d.head + 513 + 1 ≡ d.head + length (strike (b ∷ [])) = omega (arith, strike_size b [] e) in
    let count : length b ≡ length (b ∷ []) * 512 = omega (arith, e) in
    subst (Read p d t g (b ∷ []) w) count
    (record {
      next =
          subst (λ (x : ℕ). Sits (run w (taken_times (length b))) g (seat (at_phase Rest p) (stopping Fil (set_head x d)) t)) size
          (subst (λ (c : Checked). Sits (run w (taken_times (length b))) g (seat (at_phase Rest p) c.drive t)) edge out.next);
      bytes = out.bytes ∙ sym (append-nil b);
      answers = out.raised (ap (λ (c : Checked). c.raised) edge);
    })
read p (c ∷ bs) b d t g w (e, a) may h k =
    let parts = holds_parts t (block_record b) (strike (c ∷ bs)) d.head h in
    let at : d.head + length (block_record b) ≡ d.head + 513 = omega (arith, e) in
    let behind = subst (λ (x : ℕ). Holds t x (strike (c ∷ bs))) at parts.1 in
    let d' = passed_to (d.head + 513) d in
    let found = held_block t b d.head e parts.0 in
    let out = block_handed p d t g may found w b e parts.0 k in
    let edge = at_block t d' (held_block t c (d.head + 513) a.0 (holds_parts t (block_record c) (strike bs) (d.head + 513) behind).0) in
    let sits = subst (λ (x : Checked). Sits (run w (taken_times (length b))) g (seat (at_phase Rest p) x.drive t)) edge out.next in
    let rest = read p bs c d' t g (run w (taken_times (length b))) a may behind sits in
    let size : d.head + 513 + length (strike (c ∷ bs)) ≡ d.head + length (strike (b ∷ c ∷ bs)) = omega (arith, strike_size b (c ∷ bs) e) in
    let count : length (b ∷ c ∷ bs) * 512 ≡ length b + length (c ∷ bs) * 512 = omega (arith, e) in
    let first = turns w (taken_times (length b)) in
    let others = turns (run w (taken_times (length b))) (taken_times (length (c ∷ bs) * 512)) in
    record {
      next =
          taken_in_two w (length b) (length (c ∷ bs) * 512) (length (b ∷ c ∷ bs) * 512) count
          (λ v rs. Sits v g (seat (at_phase Rest p) (stopping Fil (set_head (d.head + length (strike (b ∷ c ∷ bs))) d)) t))
          (subst (λ (x : ℕ). Sits (run (run w (taken_times (length b))) (taken_times (length (c ∷ bs) * 512))) g
          (seat (at_phase Rest p) (stopping Fil (set_head x d)) t)) size rest.next);
      bytes =
          taken_in_two w (length b) (length (c ∷ bs) * 512) (length (b ∷ c ∷ bs) * 512) count
          (λ v rs. handed_out rs ≡ joined (b ∷ c ∷ bs)) (handed_append first others ∙ rw (out.bytes, rest.bytes));
      answers =
          taken_in_two w (length b) (length (c ∷ bs) * 512) (length (b ∷ c ∷ bs) * 512) count (λ v rs. RaisedLast rs)
          (last_append first others (out.quiet (ap (λ (x : Checked). x.raised) edge)) rest.answers);
    }

-- ---- from a world that is ready

pub strike_handed_out : StrikeHandedOut
unfolding pick
strike_handed_out w [] a r h =
    let p = w.core.port in
    let d = drive_of w in
    let m = read_at_mark p d (tape_of w) w w.lent.staging (here_at_rest w r.works r.rest) (ready_fit w r) (held_mark (tape_of w) d.head h) in
    record {
      bytes = rw m.byte;
      answers = last m.answer;
      drive = ap (λ (s : Seat). s.drive) m.next.seat;
      tape = ap (λ (s : Seat). s.tape) m.next.seat;
    }
strike_handed_out w (b ∷ bs) a r h =
    let p = w.core.port in
    let d = drive_of w in
    let t = tape_of w in
    let found = held_block t b d.head a.0 (holds_parts t (block_record b) (strike bs) d.head h).0 in
    let f = ready_fit w r in
    let m = read_at_block p d t w w.lent.staging (here_at_rest w r.works r.rest) f found in
    let may : reads (in_mode Reading d) ≡ true = rw f.calm in
    let out = read p bs b (in_mode Reading d) t w.lent.staging (after w (1 ∷ 128 ∷ [])) a may h m.next in
    record {
      bytes = rw m.byte out.bytes;
      answers = then m.answer out.answers;
      drive = ap (λ (s : Seat). s.drive) out.next.seat;
      tape = ap (λ (s : Seat). s.tape) out.next.seat;
    }
