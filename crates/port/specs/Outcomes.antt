-- Each public contract leaves one outcome: any two that it allows are equal.
use Rattle.std.specs.Prelude.{ℕ, ◌≡◌, Bool, true, List, Result}
use Rattle.tape.specs.declared.found.Kind.{Kind}
use Rattle.tape.specs.declared.found.Why.{Why}
use Rattle.rules.specs.declared.drive.Drive.{Drive}
use Rattle.rules.specs.declared.event.Act.{Act}
use Rattle.rules.specs.declared.order.Checked.{Checked}
use Rattle.rules.specs.declared.unit.Moved.{Moved}
use Rattle.rules.specs.declared.phase.Phase.{Phase}
use Rattle.rules.specs.declared.unit.Port.{Port}
use Rattle.rules.specs.Order.{order_of}
use Rattle.rules.specs.Edge.{is_block, checked}
use Rattle.rules.specs.Effect.{Acted, seat, acted, fault_of, commanded}
use Rattle.rules.specs.Phase.{given_before}
use Rattle.rules.specs.Bytes.{byte_given, byte_taken}
use Rattle.rules.specs.Online.{levelled, dropped}
use Rattle.rules.specs.Step.{staged, act}

-- Two outcomes of an act that are each the book's: what is handed back and the tape as it is left.
abbrev pub OneAct : Acted → Type 0
OneAct x = (r r' : Moved) (t' t'' : List ℕ) → acted r t' ≡ x → acted r' t'' ≡ x → (r ≡ r') × (t' ≡ t'')

pub record OneOutcome : Type 0 where
  pub is_block : (f : Result Kind Why) (r r' : Bool) → r ≡ is_block f → r' ≡ is_block f → r ≡ r'
  pub check : (d : Drive) (t : List ℕ) (r r' : Checked) → r ≡ checked t d → r' ≡ checked t d → r ≡ r'
  pub stage : (ph : Phase) (a : Act) (g g' g'' : List ℕ) → g' ≡ staged ph a g → g'' ≡ staged ph a g → g' ≡ g''
  pub command : (p : Port) (d : Drive) (t : List ℕ) (c : ℕ) → OneAct (commanded (seat p d t) (order_of c) (fault_of (seat p d t) (order_of c)))
  pub give : (p : Port) (g : List ℕ) (d : Drive) (t : List ℕ) → OneAct (byte_given g (seat p d t) (given_before p.phase))
  pub take : (p : Port) (d : Drive) (t : List ℕ) (r r' : Moved) → acted r t ≡ byte_taken (seat p d t) p.phase
      → acted r' t ≡ byte_taken (seat p d t) p.phase → r ≡ r'
  pub raise_online : (p : Port) (d : Drive) (r r' : Moved)
      → ((t : List ℕ) → acted r t ≡ levelled true (seat p d t)) → ((t : List ℕ) → acted r' t ≡ levelled true (seat p d t)) → r ≡ r'
  pub drop_online : (p : Port) (d : Drive) (t : List ℕ) → OneAct (dropped (seat p d t))
  pub act : (p : Port) (g : List ℕ) (d : Drive) (t : List ℕ) (a : Act) → OneAct (act g (seat p d t) a)
