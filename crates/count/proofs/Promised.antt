-- What is promised of a move f of the drive record: by value, of a record that is lent, and of a core with one drive moved in it.
use mathlib.Core.Path.{◌≡◌}
use Prim.Native.Nat.{ℕ}
use mathlib.Core.List.{[], ◌∷◌}
use seplogic.Ra.Ura.{Ura}
use base.Logic.{emp}
use types.Logic.{Logic}
use contract.Monad.{fact}
use denote.Builtin.{u8, unit, RefMutOf}
use denote.Exit.{yes}
use denote.Signature.{plain}
use denote.Triple.Clauses.{Ended, Clauses, closing}
use denote.Triple.Spec.{triple_of}
use denote.Triple.Statement.{Contract}
use Rattle.rules.specs.declared.drive.Drive.{Drive}
use Rattle.rules.specs.declared.unit.Core.{Core}
use Rattle.rules.specs.Unit.{drive_at, put_drive}
use Rattle.rules.specs.contracts.drive.Drive as T
use Rattle.rules.specs.contracts.unit.Core as K

-- The record goes in and comes back.
abbrev pub ByValue : Ended
ByValue =
    record {
      signature = record { lifetimes = 0; outlives = []; params = plain (λ _. T.the_row) ∷ []; result = plain (λ _. T.the_row) };
      kept = (yes, tt);
    }

-- The record is lent, and nothing comes back.
abbrev pub OnLoan : Ended
OnLoan =
    record {
      signature =
          record {
            lifetimes = 1;
            outlives = [];
            params = RefMutOf (0 ∷ []) tt (plain (λ _. T.the_row)) (λ _. tt) ∷ [];
            result = plain (λ _. unit);
          };
      kept = (yes, tt);
    }

-- The core goes in with the number of a drive, and comes back.
abbrev pub OfCore : Ended
OfCore =
    record {
      signature =
          record { lifetimes = 0; outlives = []; params = plain (λ _. K.the_row) ∷ plain (λ _. u8) ∷ []; result = plain (λ _. K.the_row) };
      kept = (yes, (yes, tt));
    }

-- All is as it was, but for drive n.
abbrev pub moved_at : (Drive → Drive) → ℕ → Core → Core
moved_at f n c = put_drive c c.port n (f (drive_at c n))

module _ {M : Type 1} (𝓤 : Ura M) (f : Drive → Drive) where
  abbrev pub returned : Clauses 𝓤 ByValue
  returned κs a = record { ghost = Unit {0}; requires = λ _. emp 𝓤; ensures = λ _ r _. fact 𝓤 (r ≡ f a.0) }

  abbrev pub left : Clauses 𝓤 OnLoan
  left κs a = record { ghost = Unit {0}; requires = λ _. emp 𝓤; ensures = λ _ _ e. fact 𝓤 (e.0.now ≡ f a.0.now) }

  abbrev pub handed : Clauses 𝓤 OfCore
  handed κs a = record { ghost = Unit {0}; requires = λ _. emp 𝓤; ensures = λ _ r _. fact 𝓤 (r ≡ moved_at f a.1.0 a.0) }

  module _ (𝓛 : Logic 𝓤) where
    abbrev pub Returns : Contract 𝓤
    Returns = triple_of 𝓛 ByValue.signature (closing 𝓛 ByValue returned)

    abbrev pub Leaves : Contract 𝓤
    Leaves = triple_of 𝓛 OnLoan.signature (closing 𝓛 OnLoan left)

    abbrev pub Hands : Contract 𝓤
    Hands = triple_of 𝓛 OfCore.signature (closing 𝓛 OfCore handed)
