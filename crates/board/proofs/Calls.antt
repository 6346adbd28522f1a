-- Calls over bytes are steps of the unit.
use Prim.Native.Nat.{ℕ, ◌≤◌}
use mathlib.Core.Path.{◌≡◌, refl, sym, ap, ap₂, subst, ◌∙◌}
use mathlib.Core.Bool.{Bool, true, false≢true}
use mathlib.Core.List.{List, [], ◌∷◌}
use Rattle.std.specs.Prelude.{Option, None, Some, is_some, unwrap_or}
use native.Mathlib.Omega.{arith}
use lib.ListN.{length}
use Rattle.rules.specs.declared.answer.Answer.{Answer}
use Rattle.rules.specs.declared.answer.Answer.TheVariants.{Taken, Raised, OutOfStep, WrongSlot, Malformed, Impossible, TooLong}
use Rattle.rules.specs.declared.answer.Turn.{Turn}
use Rattle.rules.specs.declared.unit.Core.{Core}
use Rattle.rules.specs.declared.unit.Unit.{Unit}
use Rattle.basis.specs.Choice.{pick}
use Rattle.rules.specs.Unit.{Lent, one_of, fresh_unit}
use Rattle.rules.specs.Refusal.{possible, possible_drive, possible_phase}
use Rattle.rules.specs.Answer.{row_of}
use Rattle.rules.specs.Run.{World, world, given_each, taken_times}
use Rattle.rules.specs.Ran.{Ran, no_events, next}
use Rattle.unit.specs.declared.many.Handed.{Handed}
use Rattle.unit.specs.Handover.{up_to, turns_up_to, went_in, went_out, over, handover, Took, taken_over}
use Rattle.unit.proofs.Demands.{demands_hold}
use Rattle.unit.proofs.Handover.{handover_ran}
use Rattle.layout.specs.Number.{byte_at}
use Rattle.layout.specs.Written.{flag, unit, Sized, unit_bytes}
use Rattle.layout.specs.Read.{is_record, core_of, staging_of, unit_of}
use Rattle.board.specs.Serve.{Tapes, lent_with, result_bytes, no_record, Serves, Gives, Takes, holds}
use Rattle.board.specs.Laws.{FreshHeld, RefusedKeeps, NoByteIsZero, NoByteOfManyIsZero, no_call, next_call, world_of, CallsRun, RunUpTo, GivesRun, TakesRun}
use Rattle.layout.proofs.Back.{read_back}
use Rattle.layout.proofs.Form.{one_form}
use Rattle.board.proofs.Outcomes.{tapes_in}

fresh_possible : possible fresh_unit.core ≡ true
unfolding possible possible_drive possible_phase one_of pick
fresh_possible = refl

pub fresh_held : FreshHeld
unfolding holds pick
fresh_held l l' r so p =
    let left : l' ≡ unit_bytes fresh_unit = p.left ∙ rw (so) refl in
    let back = read_back fresh_unit (record { octets = refl; staging = refl }) in
    let is : unit_of l' ≡ fresh_unit = ap unit_of left ∙ back.1 in
    (rw (left, back.0, ap (λ (u : Unit). u.core) back.1) fresh_possible, is)

refuses : (a : Answer) → 2 ≤ (row_of a).number → (row_of a).refuses ≡ true
refuses Taken h = absurd (omega (arith, h))
refuses Raised h = absurd (omega (arith, h))
refuses OutOfStep h = refl
refuses WrongSlot h = refl
refuses Malformed h = refl
refuses Impossible h = refl
refuses TooLong h = refl

pub refused_keeps : RefusedKeeps
refused_keeps l t event out l' t' small (Serves.of_none none p) h = (p.left, p.tapes)
refused_keeps l t event out l' t' small (Serves.of_record so p) h =
    let number : 2 ≤ (row_of p.turn.answer).number = subst (λ (x : List ℕ). 2 ≤ byte_at x 0) p.result h in
    let found = (demands_hold.answered (core_of l) (lent_with (staging_of l) t) event p.turn (lent_with p.staging t') p.steps).refused
    (refuses p.turn.answer number) in
    (p.left ∙ ap₂ (λ c (g : Lent). unit_bytes (unit c g.staging)) found.core found.lent ∙ one_form l small so, ap tapes_in found.lent)

-- a turn's result that says that no byte was given, and that of no record
unsaid : (r : Turn) (out : List ℕ) → out ≡ result_bytes r → byte_at out 1 ≡ 0 → byte_at out 2 ≡ 0
unsaid r out e h = ap (λ (x : List ℕ). byte_at x 2) e ∙ go r.byte (sym (ap (λ (x : List ℕ). byte_at x 1) e) ∙ h)
  where
    go : (o : Option ℕ) → flag (is_some o) ≡ 0 → unwrap_or o 0 ≡ 0
    go None e = refl
    go (Some b) e = absurd (omega (arith, e))

none_said : (out : List ℕ) → out ≡ no_record → byte_at out 2 ≡ 0
none_said out e = ap (λ (x : List ℕ). byte_at x 2) e

pub no_byte_is_zero : NoByteIsZero
no_byte_is_zero l t event out l' t' (Serves.of_none none p) h = none_said out p.result
no_byte_is_zero l t event out l' t' (Serves.of_record so p) h = unsaid p.turn out p.result h

pub no_byte_of_many_is_zero : NoByteOfManyIsZero
no_byte_of_many_is_zero l t bytes r out l' t' h = (given, taken)
  where
    given : Gives l t bytes r out l' t' → byte_at out 2 ≡ 0
    given (Gives.of_none none p z) = none_said out p.result
    given (Gives.of_record so p) = unsaid p.handed.last out p.result h

    taken : (bytes' : List ℕ) → Takes l t bytes r out l' t' bytes' → byte_at out 2 ≡ 0
    taken bytes' (Takes.of_none none p z same) = none_said out p.result
    taken bytes' (Takes.of_record so p) = unsaid p.handed.last out p.result h

-- a record that was written, read again, is what was written
left_again : (l' : List ℕ) (t' : Tapes) (c : Core) (g : List ℕ) → l' ≡ unit_bytes (unit c g) → Sized (unit c g)
    → (is_record l' ≡ true) × (world_of l' t' ≡ world c (lent_with g t'))
left_again l' t' c g left sized =
    let back = read_back (unit c g) sized in
    let is : unit_of l' ≡ unit c g = ap unit_of left ∙ back.1 in
    (ap is_record left ∙ back.0, ap (λ (u : Unit). world u.core (lent_with u.staging t')) is)

pub calls_run : CallsRun
calls_run l l' t t' [] [] so no_call = record { turns = []; ran = no_events; results = refl; still = so }
calls_run l l' t t' [] (out ∷ outs) so none = elim none [ ]
calls_run l l' t t' (event ∷ events) [] so none = elim none [ ]
calls_run l l' t t' (event ∷ events) (out ∷ outs) so (next_call {l' = l₁} {t' = t₁} (Serves.of_none none p) rest) = absurd (false≢true (sym none ∙ so))
calls_run l l' t t' (event ∷ events) (out ∷ outs) so (next_call {l' = l₁} {t' = t₁} (Serves.of_record is p) rest) =
    let again = left_again l₁ t₁ p.turn.core p.staging p.left p.sized in
    let more = calls_run l₁ l' t₁ t' events outs again.0 rest in
    record {
      turns = p.turn ∷ more.turns;
      ran = next p.steps (subst (λ (w : World). Ran w events more.turns (world_of l' t')) again.1 more.ran);
      results = ap₂ (λ (x : List ℕ) (y : List (List ℕ)). x ∷ y) p.result more.results;
      still = more.still;
    }

-- from what a call handed back, and left written
run_up_to : (went : Turn → Bool) (l l' : List ℕ) (t t' : Tapes) (events : List (List ℕ)) (h : Handed) (g : List ℕ)
    → over h (lent_with g t') ≡ handover went (world_of l t) events → l' ≡ unit_bytes (unit h.last.core g) → Sized (unit h.last.core g)
    → RunUpTo l t events l' t'
run_up_to went l l' t t' events h g is left sized =
    let again = left_again l' t' h.last.core g left sized in
    record {
      ran =
          subst (Ran (world_of l t) (up_to (world_of l t) events) (turns_up_to (world_of l t) events)) (sym again.1)
          (handover_ran went (world_of l t) events h (lent_with g t') is);
      still = again.0;
    }

pub gives_run : GivesRun
gives_run l l' t t' bytes r out so (Gives.of_none none p z) = absurd (false≢true (sym none ∙ so))
gives_run l l' t t' bytes r out so (Gives.of_record is p) =
    run_up_to went_in l l' t t' (given_each bytes) p.handed p.staging p.is p.left p.sized

pub takes_run : TakesRun
unfolding taken_over
takes_run l l' t t' bytes r out bytes' so (Takes.of_none none p z b) = absurd (false≢true (sym none ∙ so))
takes_run l l' t t' bytes r out bytes' so (Takes.of_record is p) =
    run_up_to went_out l l' t t' (taken_times (length bytes)) p.handed p.staging (ap (λ (x : Took). x.over) p.is) p.left p.sized
