-- The rule between the operator and the desk: the plug on the cartridge, then the cable.
use Rattle.std.specs.Prelude.{ℕ, ◌≤◌, ◌≡◌, Bool, true, false, List, eqb, Option, None, Some}
use Rattle.rules.specs.declared.unit.Core.{Core}
use Rattle.rules.specs.declared.event.Event.{Event}
use Rattle.rules.specs.declared.event.Event.TheVariants.{Reset, Named, Own}
use Rattle.rules.specs.Unit.{Lent, Whole, drive_at, tape_at}
use Rattle.rules.specs.Event.{event_of}
use Rattle.rules.specs.Step.{step_of}
use Rattle.rules.specs.Promises.Status.{drive_after}

abbrev pub tape_after : Core → Lent → List ℕ → ℕ → List ℕ
tape_after c l event i = tape_at (step_of c l event).lent i

-- Plug set to protect: no event changes one byte of that tape, in any record.
abbrev pub ProtectedKeeps : Type 0
ProtectedKeeps =
    (c : Core) (l : Lent) (event : List ℕ) (i : ℕ) → i ≤ 3 → Whole l → (drive_at c i).protected ≡ true → tape_after c l event i ≡ tape_at l i

-- An event reaches the selected drive and no other: no tape but its own changes,
abbrev pub OtherTapesStay : Type 0
OtherTapesStay =
    (c : Core) (l : Lent) (event : List ℕ) (i : ℕ) → i ≤ 3 → Whole l → (c.port.selected ≡ i → ⊥) → tape_after c l event i ≡ tape_at l i

-- and no record but its own, save by RESET and by 07 to 0A that name the drive.
abbrev pub means_drive : Option Event → ℕ → Bool
means_drive None i = false
means_drive (Some Reset) i = true
means_drive (Some (Named j w)) i = eqb j i
means_drive (Some (Own a)) i = false

abbrev pub OtherDrivesStay : Type 0
OtherDrivesStay =
    (c : Core) (l : Lent) (event : List ℕ) (i : ℕ) → i ≤ 3 → Whole l → (c.port.selected ≡ i → ⊥) → means_drive (event_of event) i ≡ false
    → drive_after c l event i ≡ drive_at c i

-- RESET and what happens at a slot change no byte of any tape, nor of the staging block.
abbrev pub acts_on_no_tape : Option Event → Bool
acts_on_no_tape None = true
acts_on_no_tape (Some Reset) = true
acts_on_no_tape (Some (Named i w)) = true
acts_on_no_tape (Some (Own a)) = false

abbrev pub OnlyActsChangeTapes : Type 0
OnlyActsChangeTapes = (c : Core) (l : Lent) (event : List ℕ) → acts_on_no_tape (event_of event) ≡ true → (step_of c l event).lent ≡ l

-- No cartridge: no event changes one byte of the tape that is lent for that drive.
abbrev pub EmptyKeeps : Type 0
EmptyKeeps =
    (c : Core) (l : Lent) (event : List ℕ) (i : ℕ) → i ≤ 3 → Whole l → (drive_at c i).loaded ≡ false → tape_after c l event i ≡ tape_at l i
