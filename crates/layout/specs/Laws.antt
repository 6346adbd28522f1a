-- A record and its bytes.
use Rattle.std.specs.Prelude.{ℕ, ◌<◌, ◌≡◌, true, List, ◌++◌, length, take}
use Rattle.basis.specs.Placed.{placed}
use Rattle.tape.specs.Record.{body_size}
use Rattle.rules.specs.declared.phase.Phase.{Phase}
use Rattle.rules.specs.declared.unit.Unit.{Unit}
use Rattle.rules.specs.Unit.{moved_to}
use Rattle.layout.specs.Number.{byte_at}
use Rattle.layout.specs.Written.{record_size, phase_at, phase_bytes, unit, Sized, unit_bytes}
use Rattle.layout.specs.Read.{is_record, core_of, staging_of, unit_of}

-- Every record, possible or not, is given back by its bytes.
abbrev pub ReadBack : Type 0
ReadBack = (u : Unit) → Sized u → (is_record (unit_bytes u) ≡ true) × (unit_of (unit_bytes u) ≡ u)

-- What a list has at every place is a byte; behind its end 0 is read.
abbrev pub Octets : List ℕ → Type 0
Octets l = (i : ℕ) → byte_at l i < 256

-- Bytes that are a record are the bytes of the unit that they say: no record has two forms.
abbrev pub OneForm : Type 0
OneForm = (l : List ℕ) → Octets l → is_record l ≡ true → unit_bytes (unit_of l) ≡ l

-- The last 512 bytes of a buffer, lent: as the call left them, they are the staging block.
abbrev pub StagingLent : Type 0
StagingLent = (l g : List ℕ) → length l ≡ record_size → length g ≡ body_size → staging_of (take 146 l ++ g) ≡ g

-- A record with another phase written into it, and another staging block, is that record with nothing else changed.
abbrev pub PhaseMoved : Type 0
PhaseMoved =
    (l g : List ℕ) (ph : Phase) → Octets l → is_record l ≡ true → length g ≡ body_size
    → placed (take 146 l ++ g) phase_at (phase_bytes ph) ≡ unit_bytes (unit (moved_to (core_of l) ph) g)
