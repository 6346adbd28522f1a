-- The call from where the run ended.
use Prim.Native.Nat.{ℕ}
use mathlib.Core.Path.{refl}
use mathlib.Core.List.{List}
use borrow.Author.Rules.{rules}
use Rattle.rules.specs.declared.unit.Core.{Core}
use Rattle.rules.specs.Unit.{Lent, lent}
use Rattle.unit.specs.declared.many.Handed.{Handed}
use Rattle.unit.specs.Handover.{GivesOver}
use Rattle.unit.proofs.Lending.{left_as}
use Rattle.pace.specs.Pairs.{after}
use Rattle.pace.proofs.Turns.{then_called}
use Rattle.pace.proofs.pace_give.Goals as goal

pub returns : goal.returns
returns c =
    let a = c.args in
    let at = after a.tape0.now a.tape1.now a.tape2.now a.tape3.now a.pairs.now in
    record {
      handed = c.give_bytes-handed.result;
      staging = c.give_bytes-handed.new.staging;
      is =
          left_as
          (λ (x y z w : List ℕ). GivesOver at.core at.lent a.bytes.now c.give_bytes-handed.result (lent c.give_bytes-handed.new.staging x y z w))
          (search rules) (search rules) (search rules) (search rules)
          (then_called (λ (k : Core) (l : Lent) (h : Handed) (l' : Lent). GivesOver k l a.bytes.now h l') _ _ _ _ _ c.run_core-after.ensures.runs c.give_bytes-handed.ensures.gives);
      selected = refl;
    }
