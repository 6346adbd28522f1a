-- Each public contract leaves one outcome: any two that it allows are equal.
use Rattle.std.specs.Prelude.{ℕ, ◌≡◌, List, get_or}
use Rattle.rules.specs.declared.drive.Drive.{Drive}
use Rattle.rules.specs.declared.phase.Phase.{Phase}
use Rattle.rules.specs.declared.unit.Port.{Port}
use Rattle.rules.specs.Octets.{octets_of}
use Rattle.rules.specs.Bytes.{octet_place, after_octet}

pub record OneOutcome : Type 0 where
  pub octets : (d : Drive) (r r' : List ℕ) → r ≡ octets_of d → r' ≡ octets_of d → r ≡ r'
  pub next_octet : (p : Port) (k r r' : ℕ) → r ≡ get_or p.octets (octet_place k) 0 → r' ≡ get_or p.octets (octet_place k) 0 → r ≡ r'
  pub after_octet : (k : ℕ) (r r' : Phase) → r ≡ after_octet k → r' ≡ after_octet k → r ≡ r'
