-- Two legs, the second of one event that is the last: together they are a whole call.
use Prim.Native.Nat.{ℕ, ◌+◌, ◌-◌, ◌≤◌}
use mathlib.Core.Path.{◌≡◌, refl, sym, ap, subst}
use mathlib.Core.Bool.{Bool, true, false}
use mathlib.Core.List.{List, []}
use native.Mathlib.Omega.{arith}
use native.Mathlib.Nat.{zero-add}
use lib.ListN.{length, drop}
use Rattle.basis.specs.Placed.{placed}
use Rattle.basis.proofs.Placing.{placed_none}
use Rattle.rules.specs.declared.unit.Core.{Core}
use Rattle.rules.specs.declared.answer.Turn.{Turn}
use Rattle.rules.specs.Unit.{Lent}
use Rattle.rules.specs.Run.{given_each, taken_times}
use Rattle.rules.specs.Promises.Strike.{handed_out}
use Rattle.unit.specs.declared.many.Handed.{Handed}
use Rattle.unit.specs.Handover.{is_zero, went_in, went_out, no_event, GivesOver, TakesOver}
use Rattle.unit.specs.Ahead.{GivesSome, TakesSome}
use Rattle.unit.proofs.Handover.{Standing, Sizes, begins, all_sizes}
use Rattle.unit.proofs.Legs.{given_on, given_stops, given_ends, taken_on, taken_stops, taken_ends}

module _ (c : Core) (l l' l'' : Lent) (r s : Handed) (so : is_zero r.last ≡ true) (kept : Sizes l' l) (kept' : Sizes l'' l') where
  pub given_completed : (bytes : List ℕ) → GivesSome c l bytes r l' → GivesSome r.last.core l' (drop r.count bytes) s l''
      → length bytes ≤ r.count + 1 → GivesOver c l bytes (record { count = r.count + s.count; last = s.last }) l''
  given_completed bytes first second all = go (is_zero s.last) refl
    where
      So : ℕ → Turn → Lent → Type 0
      So m x k = Standing went_in c l (given_each bytes) m x k (given_each (drop m bytes)) (λ rs. Prim.Unit)

      begin : So 0 (no_event c) l
      begin = record { rs = []; at = begins went_in c l (given_each bytes) (given_each bytes) refl; sizes = all_sizes l; more = tt }

      at : So r.count r.last l'
      at = subst (λ (m : ℕ). So m r.last l') (zero-add r.count) (given_on c l bytes 0 (no_event c) l r l' begin first kept so)

      go : (b : Bool) → is_zero s.last ≡ b → GivesOver c l bytes (record { count = r.count + s.count; last = s.last }) l''
      go true e =
          given_ends c l bytes (r.count + s.count) s.last l'' (given_on c l bytes r.count r.last l' s l'' at second kept' e)
          (omega (arith, all, second.leg.moves e))
      go false e = given_stops c l bytes r.count r.last l' s l'' at second e

  pub taken_completed : (out out' out'' : List ℕ) → length out' ≡ length out → TakesSome c l out 0 r l' out'
      → TakesSome r.last.core l' out' r.count s l'' out'' → length out ≤ r.count + 1
      → TakesOver c l out (record { count = r.count + s.count; last = s.last }) l'' out''
  taken_completed out out' out'' size first second all = go (is_zero s.last) refl
    where
      So : ℕ → Turn → Lent → List ℕ → Type 0
      So m x k o = Standing went_out c l (taken_times (length out)) m x k (taken_times (length out - m)) (λ rs. o ≡ placed out 0 (handed_out rs))

      whole : length out ≡ length out - 0
      whole = omega arith

      begin : So 0 (no_event c) l out
      begin =
          record { rs = []; at = begins went_out c l (taken_times (length out)) (taken_times (length out - 0)) (ap taken_times whole); sizes = all_sizes l; more = sym (placed_none out 0) }

      at : So r.count r.last l' out'
      at = subst (λ (m : ℕ). So m r.last l' out') (zero-add r.count) (taken_on c l out 0 (no_event c) l out r l' out' refl begin first kept so)

      go : (b : Bool) → is_zero s.last ≡ b → TakesOver c l out (record { count = r.count + s.count; last = s.last }) l'' out''
      go true e =
          taken_ends c l out (r.count + s.count) s.last l'' out'' (taken_on c l out r.count r.last l' out' s l'' out'' size at second kept' e)
          (omega (arith, all, second.leg.moves e))
      go false e = taken_stops c l out r.count r.last l' out' s l'' out'' size at second e
