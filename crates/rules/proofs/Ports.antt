-- What an act does to the number of the selected drive and to the level of ONLINE.
use Prim.Native.Nat.{ℕ}
use mathlib.Core.Path.{◌≡◌, refl}
use mathlib.Core.Bool.{Bool, true, false, ◌&&◌}
use mathlib.Core.List.{List}
use Rattle.std.specs.Prelude.{Result, Ok, Err, Option, None, Some}
use Rattle.basis.specs.Choice.{pick}
use Rattle.rules.specs.declared.event.Act.TheVariants.{Give, Take, Online, Offline}
use Rattle.rules.specs.declared.order.Order.{Order}
use Rattle.rules.specs.declared.order.Order.TheVariants.{Select, Bot, Erase, Initialize, Write, WriteMark, Read, ReadMark, ReadStatus}
use Rattle.rules.specs.declared.order.Fault.{Fault}
use Rattle.rules.specs.declared.order.Fault.TheVariants.{Illegal, Empty, Plugged, Full}
use Rattle.rules.specs.declared.answer.Answer.TheVariants.{Taken, Raised}
use Rattle.rules.specs.Drive.{chosen}
use Rattle.rules.specs.Unit.{at_drive}
use Rattle.rules.specs.Effect.{Seat, Acted, leaves, ordered, commanded}
use Rattle.rules.specs.Reach.{is_select_of, accepted}
use Rattle.rules.proofs.Acts

pub data Ported (s : Seat) (o : Option Order) (m : Acted) : Type 0 where
  kept : m.moved.port.selected ≡ s.port.selected → m.moved.port.online ≡ s.port.online
      → ((d : ℕ) → (accepted (pick m.moved.raised Raised Taken) && is_select_of d o) ≡ false) → Ported s o m
  turned : (j : ℕ) → o ≡ Some (Select j) → m ≡ leaves false (at_drive j s.port) (chosen s.drive) s.tape → Ported s o m

and_false : (b : Bool) → (b && false) ≡ false
and_false true = refl
and_false false = refl

-- an order that is no SELECT
plain : (s : Seat) (o : Option Order) (m : Acted) → ((d : ℕ) → is_select_of d o ≡ false) → m.moved.port.selected ≡ s.port.selected
    → m.moved.port.online ≡ s.port.online → Ported s o m
plain s o m f p q = kept p q (λ d. rw (f d) (and_false (accepted (pick m.moved.raised Raised Taken))))

ordered_ported : (s : Seat) (o : Option Order) → Ported s o (ordered s o)
ordered_ported s None = plain s _ _ (λ d. refl) refl refl
ordered_ported s (Some (Select n)) = turned n refl refl
ordered_ported s (Some Bot) = plain s _ _ (λ d. refl) refl refl
ordered_ported s (Some Erase) = plain s _ _ (λ d. refl) refl refl
ordered_ported s (Some Initialize) = plain s _ _ (λ d. refl) refl refl
ordered_ported s (Some Write) = plain s _ _ (λ d. refl) refl refl
ordered_ported s (Some WriteMark) = plain s _ _ (λ d. refl) refl refl
ordered_ported s (Some Read) = plain s _ _ (λ d. refl) refl refl
ordered_ported s (Some ReadMark) = plain s _ _ (λ d. refl) refl refl
ordered_ported s (Some ReadStatus) = plain s _ _ (λ d. refl) refl refl

pub commanded_ported : (s : Seat) (o : Option Order) (f : Result (Unit {0}) Fault) → Ported s o (commanded s o f)
unfolding pick
commanded_ported s o (Ok u) = ordered_ported s o
commanded_ported s o (Err Illegal) = kept refl refl (λ d. refl)
commanded_ported s o (Err Empty) = kept refl refl (λ d. refl)
commanded_ported s o (Err Plugged) = kept refl refl (λ d. refl)
commanded_ported s o (Err Full) = kept refl refl (λ d. refl)

pub give_ported : (g : List ℕ) (s : Seat) (b : ℕ) (m : Acted) → Acts.Does g s (Give b) m → (m.moved.port.selected ≡ s.port.selected)
    × (m.moved.port.online ≡ s.port.online)
give_ported g s b m (Acts.stages x n l w) = (refl, refl)
give_ported g s b m (Acts.records_block x q w r n) = (refl, refl)
give_ported g s b m (Acts.records_last x q w r) = (refl, refl)
give_ported g s b m (Acts.drops_block x) = (refl, refl)

pub take_ported : (g : List ℕ) (s : Seat) (m : Acted) → Acts.Does g s Take m → (m.moved.port.selected ≡ s.port.selected)
    × (m.moved.port.online ≡ s.port.online)
take_ported g s m (Acts.hands_octet k e) = (refl, refl)
take_ported g s m (Acts.hands_byte n l w e) = (refl, refl)
take_ported g s m (Acts.hands_last q w e) = (refl, refl)
take_ported g s m (Acts.meets_edge q r) = (refl, refl)
take_ported g s m (Acts.finds_no_block k q n) = (refl, refl)

pub online_ported : (g : List ℕ) (s : Seat) (m : Acted) → Acts.Does g s Online m → (m.moved.port.selected ≡ s.port.selected)
    × (m.moved.port.online ≡ true)
online_ported g s m Acts.goes_up = (refl, refl)

pub offline_ported : (g : List ℕ) (s : Seat) (m : Acted) → Acts.Does g s Offline m → (m.moved.port.selected ≡ s.port.selected)
    × (m.moved.port.online ≡ false)
offline_ported g s m Acts.goes_down = (refl, refl)
offline_ported g s m Acts.goes_idle = (refl, refl)
offline_ported g s m Acts.goes_home = (refl, refl)
offline_ported g s m (Acts.leaves_mark u x w r) = (refl, refl)
offline_ported g s m Acts.has_no_room = (refl, refl)
