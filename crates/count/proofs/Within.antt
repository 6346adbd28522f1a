-- A drive's record within the core: which field it is, where it lies, and how it is cut out of the core's memory and put back.
use mathlib.Core.Path.{◌≡◌, refl, sym, subst}
use mathlib.Core.Option.{some}
use Prim.Native.Nat.{ℕ, zero, suc, ◌+◌, ◌*◌}
use seplogic.Ra.Ura.{Ura}
use base.Fraction.{full_share}
use base.Logic.{ent, sep}
use prog.Memory.{field_at, field_of}
use types.Logic.{Logic, sem}
use types.Kit.{mean}
use denote.RattleType.{mirs}
use denote.Memory.{lone, part_at}
use denote.Struct.At.{FieldAt, get_at}
use denote.Struct.Field.{Field, rows}
use denote.Struct.Struct.{to_tys}
use borrow.Rule.LendAt.{KeptOf, Fills}
use borrow.Struct.Lend.{own_same, kept_record_as, put_record_as, record_fill_as, record_apart_as}
use borrow.Table.OneValue.{One}
use Rattle.basis.specs.Choice.{pick}
use Rattle.rules.specs.declared.drive.Drive.{Drive}
use Rattle.rules.specs.declared.unit.Core.{Core}
use Rattle.rules.specs.Unit.{one_of, put_at, put_last, drive_at, put_drive}
use Rattle.rules.proofs.Places.{last_lands}
use Rattle.rules.specs.contracts.drive.Drive as T
use Rattle.rules.proofs.drive.Drive.TheLaws as T'
use Rattle.rules.specs.contracts.unit.Core as K
use Rattle.rules.proofs.unit.Core.TheLaws as K'
use Rattle.rules.proofs.unit.Port.TheLaws as P'
use denote.Struct.Loose.{Looses}

-- Drive n is field k, d bytes in: what a walk that lends it has to know. `kept` is what is left of the core meanwhile.
pub record Within (n k d : ℕ) : Type 2 where
  pub get : Core → Drive
  pub put : Core → Drive → Core
  pub kept : KeptOf K.the_row
  pub lies : field_of K'.mir k ≡ some (T'.mir, d)
  pub cuts : {M : Type 1} {𝓤 : Ura M} (𝓛 : Logic 𝓤) (c : Core) (b o : ℕ)
      → ent 𝓤 (sem 𝓛 (part_at K.the_row full_share c b o))
      (sep 𝓤 (sem 𝓛 (part_at T.the_row full_share (get c) b (o + d))) (mean 𝓛 (kept M 𝓤 𝓛 c b o)))
  pub fills : Fills K.the_row T.the_row d kept put
  pub moves : (f : Drive → Drive) (c : Core) → put c (f (get c)) ≡ put_drive c c.port n (f (drive_at c n))

looses : Looses (K.the_type).parts
looses = (P'.the_field_loose, (T'.the_field_loose, (T'.the_field_loose, (T'.the_field_loose, (T'.the_field_loose, tt)))))

-- Field k, d bytes in, which has a drive's record for its value and lies in memory as that does.
module _ (k d : ℕ) where
  abbrev F : Field
  F = FieldAt (K.the_type).parts k

  module _ (to : Drive → F.Value) (of : F.Value → Drive)
      (to_same : (x : Drive) (b o : ℕ) → part_at T.the_row full_share x b o ≡ part_at F.row full_share (F.into (to x)) b o)
      (of-same : (y : F.Value) (b o : ℕ) → part_at F.row full_share (F.into y) b o ≡ part_at T.the_row full_share (of y) b o) where
    abbrev the_kept : KeptOf K.the_row
    the_kept =
        kept_record_as K.the_type looses k d T.the_row to of to_same of-same (K.struct).as_values (K.struct).Ghost (K.struct).make
        (λ v. tt) (λ x. refl) (λ v g. refl)

    abbrev the_put : Core → Drive → Core
    the_put =
        put_record_as K.the_type looses k d T.the_row to of to_same of-same (K.struct).as_values (K.struct).Ghost (K.struct).make
        (λ v. tt) (λ x. refl) (λ v g. refl)

    abbrev the_get : Core → Drive
    the_get c = of (get_at (K.the_type).parts k ((K.struct).as_values c))

    within : One F.row → field_at zero (to_tys (mirs (rows (K.the_type).parts))) k ≡ some (lone F.row.mir, d)
        → field_of K'.mir k ≡ some (T'.mir, d) → (n : ℕ)
        → ((f : Drive → Drive) (c : Core) → the_put c (f (the_get c)) ≡ put_drive c c.port n (f (drive_at c n))) → Within n k d
    within one at lies n moves = record {
      get = the_get;
      put = the_put;
      kept = the_kept;
      lies = lies;
      cuts = λ 𝓛.
          record_apart_as K.the_type looses k d T.the_row to of to_same of-same (K.struct).as_values (K.struct).Ghost (K.struct).make
          (λ v. tt) (λ x. refl) (λ v g. refl) 𝓛 one at;
      fills =
          record_fill_as K.the_type looses k d T.the_row to of to_same of-same (K.struct).as_values (K.struct).Ghost (K.struct).make
          (λ v. tt) (λ x. refl) (λ v g. refl) one;
      moves = moves;
    }

-- None of three, as the last way of a choice by a number has it.
abbrev pub NoneOf : ℕ → ℕ → ℕ → ℕ → Type 0
NoneOf a b c i = ((Unit {0} × (i ≡ a → ⊥)) × (i ≡ b → ⊥)) × (i ≡ c → ⊥)

-- The bytes before field k: the drives are fields 1 to 4, 32 bytes each, after 24 of the port.
abbrev pub before : ℕ → ℕ
before zero = 0
before (suc k) = 24 + 32 * k

-- Field k is the drive that the number i means; one that is none of 0, 1 and 2 means the last.
abbrev pub Means : ℕ → ℕ → Type 0
Means zero i = ⊥
Means (suc zero) i = i ≡ 0
Means (suc (suc zero)) i = i ≡ 1
Means (suc (suc (suc zero))) i = i ≡ 2
Means (suc (suc (suc (suc zero)))) i = NoneOf 0 1 2 i
Means (suc (suc (suc (suc (suc k))))) i = ⊥

-- A choice that goes at a, b and c to the fields j, k and l, and else to m, goes at each number to the drive that it means.
pub record Finds (a b c j k l m : ℕ) : Type 0 where
  pub at_first : (i : ℕ) → i ≡ a → Means j i
  pub at_second : (i : ℕ) → i ≡ b → Means k i
  pub at_third : (i : ℕ) → i ≡ c → Means l i
  pub at_others : (i : ℕ) → NoneOf a b c i → Means m i

pub each_its_own : Finds 0 1 2 1 2 3 4
each_its_own = record { at_first = λ i e. e; at_second = λ i e. e; at_third = λ i e. e; at_others = λ i n. n }

-- In the core a record lies as it does by itself.
lies_so : (d : Drive) (b o : ℕ) → part_at (T.the_field).row full_share ((T.the_field).into d) b o ≡ part_at T.the_row full_share d b o
lies_so d b o = sym (own_same T.the_type d b o)

is_so : {n i k d : ℕ} → i ≡ n → Within n k d → Within i k d
is_so {k = k} {d = d} e = subst (λ (n : ℕ). Within n k d) (sym e)

pub drive_within : (k i : ℕ) → Means k i → Within i k (before k)
unfolding one_of put_at put_last pick
drive_within zero i never = absurd never
drive_within (suc zero) i e = is_so e (within 1 24 (λ x. x) (λ x. x) (own_same T.the_type) lies_so refl refl refl 0 (λ f c. refl))
drive_within (suc (suc zero)) i e = is_so e (within 2 56 (λ x. x) (λ x. x) (own_same T.the_type) lies_so refl refl refl 1 (λ f c. refl))
drive_within (suc (suc (suc zero))) i e = is_so e (within 3 88 (λ x. x) (λ x. x) (own_same T.the_type) lies_so refl refl refl 2 (λ f c. refl))
drive_within (suc (suc (suc (suc zero)))) i n =
    within 4 120 (λ x. x) (λ x. x) (own_same T.the_type) lies_so refl refl refl i
    (λ f c. last_lands f c i (f c.drive3) n.0.0.1 n.0.1 n.1 refl)
drive_within (suc (suc (suc (suc (suc k))))) i never = absurd never
