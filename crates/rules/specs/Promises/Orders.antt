-- Demand 2: an order is stopped by the first test that fits, it is illegal exactly by the first four, and then changes no tape.
use Rattle.std.specs.Prelude.{ℕ, ◌+◌, ◌≤◌, ◌≡◌, Bool, true, false, not, ◌&&◌, ◌||◌, List, [], ◌∷◌, ◌++◌, leb, eqb, length, Result, Ok, Err, Some}
use Rattle.basis.specs.Choice.{pick}
use Rattle.rules.specs.declared.drive.Drive.{Drive}
use Rattle.rules.specs.declared.drive.Mode.{Mode}
use Rattle.rules.specs.declared.drive.Mode.TheVariants.{Idle, Writing, Reading}
use Rattle.rules.specs.declared.unit.Core.{Core}
use Rattle.rules.specs.declared.event.Act.TheVariants.{Command}
use Rattle.rules.specs.declared.event.Event.TheVariants.{Own}
use Rattle.rules.specs.declared.order.Order.TheVariants.{ReadStatus}
use Rattle.rules.specs.declared.order.Fault.{Fault}
use Rattle.rules.specs.declared.order.Fault.TheVariants.{Illegal, Empty, Plugged, Full}
use Rattle.rules.specs.declared.answer.Answer.TheVariants.{Raised}
use Rattle.rules.specs.Unit.{Lent, Whole, drive_at}
use Rattle.rules.specs.Event.{event_of}
use Rattle.rules.specs.Answer.{row_of}
use Rattle.rules.specs.Order.{order_of}
use Rattle.rules.specs.Effect.{Seat, fault_of}
use Rattle.rules.specs.Step.{Stepped, step_of}

-- ---- The tests, by the codes that document 01 names for each (in decimal, as they stand on the cable)

abbrev pub among : ℕ → List ℕ → Bool
among k [] = false
among k (x ∷ xs) = eqb k x || among k xs

-- SELECT; BOT, ERASE, INITIALIZATION; WRITE, WRITE FILE MARK, READ, READ FILE MARK; READ STATUS.
abbrev pub selecting : List ℕ
selecting = 1 ∷ 2 ∷ 4 ∷ 8 ∷ []

abbrev pub moving : List ℕ
moving = 33 ∷ 34 ∷ 36 ∷ []

abbrev pub taping : List ℕ
taping = 64 ∷ 96 ∷ 128 ∷ 160 ∷ []

abbrev pub telling : List ℕ
telling = 192 ∷ []

-- 1. EXCEPTION up, and not READ STATUS. 2. Unknown code.
abbrev pub fits1 : Drive → ℕ → Bool
fits1 d k = d.exception && not (among k telling)

abbrev pub fits2 : ℕ → Bool
fits2 k = not (among k (selecting ++ (moving ++ (taping ++ telling))))

-- 3. Idle takes all, Writing takes WRITE FILE MARK and READ STATUS, Reading takes READ FILE MARK and READ STATUS.
abbrev pub fits3 : Mode → ℕ → Bool
fits3 Idle k = false
fits3 Writing k = not (among k (96 ∷ 192 ∷ []))
fits3 Reading k = not (among k (160 ∷ 192 ∷ []))

-- 4. ONLINE low, for WRITE, READ and both file mark commands. 5. No cartridge, for all but SELECT and READ STATUS.
abbrev pub fits4 : Bool → ℕ → Bool
fits4 online k = among k taping && not online

abbrev pub fits5 : Drive → ℕ → Bool
fits5 d k = among k (moving ++ taping) && not d.loaded

-- 6. Protected, for ERASE, WRITE, WRITE FILE MARK. 7. Room: WRITE asks for 514 bytes from the head on, WRITE FILE MARK for one.
abbrev pub fits6 : Drive → ℕ → Bool
fits6 d k = among k (34 ∷ 64 ∷ 96 ∷ []) && d.protected

abbrev pub room_asked : ℕ → ℕ
room_asked k = pick (eqb k 64) 514 (pick (eqb k 96) 1 0)

abbrev pub fits7 : Drive → ℕ → ℕ → Bool
fits7 d size k = among k (64 ∷ 96 ∷ []) && not (leb (d.head + room_asked k) size)

-- One of the first four fits; the first of all seven decides.
abbrev pub first_four : Bool → Drive → ℕ → Bool
first_four online d k = fits1 d k || (fits2 k || (fits3 d.mode k || fits4 online k))

abbrev pub decided : Seat → ℕ → Result (Unit {0}) Fault
decided s k =
    pick (first_four s.port.online s.drive k) (Err Illegal)
    (pick (fits5 s.drive k) (Err Empty)
    (pick (fits6 s.drive k) (Err Plugged)
    (pick (fits7 s.drive (length s.tape) k) (Err Full) (Ok tt))))

abbrev pub FirstTestDecides : Type 0
FirstTestDecides = (s : Seat) (k : ℕ) → fault_of s (order_of k) ≡ decided s k

-- READ STATUS passes all seven tests in every record.
abbrev pub StatusPasses : Type 0
StatusPasses = (s : Seat) → fault_of s (Some ReadStatus) ≡ Ok tt

-- ---- Of one event: an order that is taken up, of any content, in any record

-- None of the four tapes, no head and no mode is changed; ILL is latched with EXCEPTION up, answer 1.
pub record OnlyIll (c : Core) (l : Lent) (s : Stepped) : Type 0 where
  pub answer : s.turn.answer ≡ Raised
  pub lent : s.lent ≡ l
  pub heads : (i : ℕ) → i ≤ 3 → (drive_at s.turn.core i).head ≡ (drive_at c i).head
  pub modes : (i : ℕ) → i ≤ 3 → (drive_at s.turn.core i).mode ≡ (drive_at c i).mode
  pub exception : (drive_at s.turn.core c.port.selected).exception ≡ true
  pub ill : (drive_at s.turn.core c.port.selected).latched.ill ≡ true

-- It is illegal exactly by the first four: then that alone happens, and else no ILL is latched that was not.
pub record IllegalRules (c : Core) (l : Lent) (k : ℕ) (s : Stepped) : Type 0 where
  pub illegal : first_four c.port.online (drive_at c c.port.selected) k ≡ true → OnlyIll c l s
  pub legal : first_four c.port.online (drive_at c c.port.selected) k ≡ false
      → (drive_at s.turn.core c.port.selected).latched.ill ≡ true
      → (drive_at c c.port.selected).latched.ill ≡ true

abbrev pub IllegalExactly : Type 0
IllegalExactly =
    (c : Core) (l : Lent) (event : List ℕ) (k : ℕ) → Whole l → event_of event ≡ Some (Own (Command k))
    → (row_of (step_of c l event).turn.answer).refuses ≡ false → IllegalRules c l k (step_of c l event)
