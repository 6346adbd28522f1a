-- A record whose staging block is another one, and whose phase is written where it stands.
use Prim.Native.Nat.{ℕ, ◌+◌}
use mathlib.Core.Path.{◌≡◌, refl, sym, ap, ◌∙◌}
use mathlib.Core.Bool.{true}
use mathlib.Core.List.{List, ◌++◌, append_assoc}
use native.Mathlib.Omega.{arith}
use lib.ListN.{length, take, drop}
use lib.Seq.{length-take-le, take_at}
use Rattle.basis.specs.Placed.{placed}
use Rattle.tape.specs.Record.{body_size}
use Rattle.rules.specs.declared.phase.Phase.{Phase}
use Rattle.rules.specs.declared.unit.Core.{Core}
use Rattle.rules.specs.Phase.{report_size}
use Rattle.layout.specs.Written.{record_size, phase_at, phase_bytes, port_bytes, unit, unit_bytes}
use Rattle.layout.specs.Read.{is_record, port_of, core_of, staging_of}
use Rattle.rules.specs.Unit.{moved_to}
use Rattle.layout.specs.Laws.{Octets, StagingLent, PhaseMoved}
use Rattle.layout.proofs.Stretch.{stretch_end, skip, here}
use Rattle.layout.proofs.Parts.{core_bytes, core_long, core_then}
use Rattle.layout.proofs.Form.{one_form}

-- the staging block is what was lent, or put, at its offset
before : (l : List ℕ) → length l ≡ record_size → length (take 146 l) ≡ 146
before l size = length-take-le 146 l (omega (arith, size))

pub staging_lent : StagingLent
unfolding staging_of
staging_lent l g size long = skip (take 146 l) g 146 0 512 (before l size) ∙ stretch_end g 0 512 long

pub staging_put : (l g : List ℕ) → length l ≡ record_size → length g ≡ body_size → staging_of (placed l 146 g) ≡ g
unfolding staging_of placed
staging_put l g size long =
    let rest = drop (146 + length g) l in
    ap staging_of (append_assoc (take 146 l) g rest) ∙ skip (take 146 l) (g ++ rest) 146 0 512 (before l size) ∙ here g rest 512 long

-- a phase put into a record's bytes is the phase of the record
phase_put : (c : Core) (g : List ℕ) (ph : Phase) → placed (unit_bytes (unit c g)) phase_at (phase_bytes ph) ≡ unit_bytes (unit (moved_to c ph) g)
unfolding placed unit_bytes port_bytes
phase_put c g ph = refl

-- bytes that are a record, with another staging block
octets_long : (l : List ℕ) → length (core_of l).port.octets ≡ report_size
unfolding core_of port_of
octets_long l = refl

other_staging : (l g : List ℕ) → Octets l → is_record l ≡ true → take 146 l ++ g ≡ unit_bytes (unit (core_of l) g)
other_staging l g small so =
    let c = core_of l in
    let form : core_bytes c ++ staging_of l ≡ l = core_then c (staging_of l) ∙ one_form l small so in
    let front : take 146 l ≡ core_bytes c = ap (take 146) (sym form) ∙ take_at (core_bytes c) (staging_of l) 146 (core_long c (octets_long l)) in
    ap (λ (x : List ℕ). x ++ g) front ∙ core_then c g

pub phase_moved : PhaseMoved
phase_moved l g ph small so long =
    ap (λ (x : List ℕ). placed x phase_at (phase_bytes ph)) (other_staging l g small so) ∙ phase_put (core_of l) g ph
