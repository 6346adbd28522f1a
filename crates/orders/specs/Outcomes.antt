-- Each public contract leaves one outcome: any two that it allows are equal.
use Rattle.std.specs.Prelude.{ℕ, ◌≡◌, Bool, Result, Option}
use Rattle.rules.specs.declared.drive.Drive.{Drive}
use Rattle.rules.specs.declared.order.Fault.{Fault}
use Rattle.rules.specs.declared.order.Needs.{Needs}
use Rattle.rules.specs.declared.order.Order.{Order}
use Rattle.rules.specs.Late.{spare_of, allowed_at, goes_on}
use Rattle.rules.specs.Order.{order_of, needs_of, fault_by}

pub record OneOutcome : Type 0 where
  pub order_of : (c : ℕ) (r r' : Option Order) → r ≡ order_of c → r' ≡ order_of c → r ≡ r'
  pub needs_of : (o : Option Order) (r r' : Option Needs) → r ≡ needs_of o → r' ≡ needs_of o → r ≡ r'
  pub fault_of : (online : Bool) (d : Drive) (l : ℕ) (n : Option Needs) (r r' : Result (Unit {0}) Fault)
      → r ≡ fault_by online d l n → r' ≡ fault_by online d l n → r ≡ r'
  pub spare_of : (late r r' : ℕ) → r ≡ spare_of late → r' ≡ spare_of late → r ≡ r'
  pub allowed_at : (h l r r' : ℕ) → r ≡ allowed_at h l → r' ≡ allowed_at h l → r ≡ r'
  pub goes_on : (late h l : ℕ) (r r' : Bool) → r ≡ goes_on late h l → r' ≡ goes_on late h l → r ≡ r'
