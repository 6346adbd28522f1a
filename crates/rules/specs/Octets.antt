-- Octets: the six octets of a report, made from a drive's record.
use Rattle.std.specs.Prelude.{ℕ, ◌+◌, ◌/◌, ◌%◌, Bool, true, false, not, ◌&&◌, ◌||◌, List, [], ◌∷◌, eqb, get_or}
use Rattle.rules.specs.declared.drive.Drive.{Drive}
use Rattle.rules.specs.declared.drive.Errors.{Errors}
use Rattle.rules.specs.declared.drive.Underruns.{Underruns}

-- The places of the bits in an octet, by their weights.
abbrev pub bit0 : ℕ
bit0 = 1

abbrev pub bit1 : ℕ
bit1 = 2

abbrev pub bit2 : ℕ
bit2 = 4

abbrev pub bit3 : ℕ
bit3 = 8

abbrev pub bit4 : ℕ
bit4 = 16

abbrev pub bit5 : ℕ
bit5 = 32

abbrev pub bit6 : ℕ
bit6 = 64

abbrev pub bit7 : ℕ
bit7 = 128

-- The weight of a bit that stands.
abbrev pub bit : ℕ → Bool → ℕ
bit weight true = weight
bit weight false = 0

-- The halves of a counter's number, then of each counter; the errors come before the underruns, high half first.
abbrev pub high : ℕ → ℕ
high n = n / 256

abbrev pub low : ℕ → ℕ
low n = n % 256

abbrev pub errors_high : Errors → ℕ
errors_high e = high e.0

abbrev pub errors_low : Errors → ℕ
errors_low e = low e.0

abbrev pub underruns_high : Underruns → ℕ
underruns_high n = high n.0

abbrev pub underruns_low : Underruns → ℕ
underruns_low n = low n.0

-- Octets 1 and 0 as section 5 of QIC-02 Rev D lists them, a line for each bit from bit 0 to bit 7: its name, its place, where it comes from.
-- A name of document 01 that differs stands behind the standard's: RES is ERM and BPE, UDA is UDE. A bit that is never set comes from `false`.
unfoldable pub octets_of : Drive → List ℕ
octets_of drive =
    let latched = drive.latched in
    let rewound = eqb drive.head 0 in
    -- octet 1
    let por = bit bit0 latched.por in
    let res-erm = bit bit1 false in
    let res-bpe = bit bit2 false in
    let bom = bit bit3 (drive.loaded && rewound) in
    let mbd = bit bit4 false in
    let ndt = bit bit5 latched.ndt in
    let ill = bit bit6 latched.ill in
    let st1 = bit bit7 (not (eqb (por + res-erm + res-bpe + bom + mbd + ndt + ill) 0)) in
    let octet1 = por + res-erm + res-bpe + bom + mbd + ndt + ill + st1 in
    -- octet 0
    let fil = bit bit0 latched.fil in
    let bnl = bit bit1 latched.bnl in
    let uda-ude = bit bit2 latched.ude in
    let eom = bit bit3 latched.eom in
    let wrp = bit bit4 drive.protected in
    let usl = bit bit5 false in
    let cni = bit bit6 (latched.cni || not drive.loaded) in
    let st0 = bit bit7 (not (eqb (fil + bnl + uda-ude + eom + wrp + usl + cni) 0)) in
    let octet0 = fil + bnl + uda-ude + eom + wrp + usl + cni + st0 in
    octet0
    ∷ octet1
    ∷ errors_high drive.errors
    ∷ errors_low drive.errors
    ∷ underruns_high drive.underruns
    ∷ underruns_low drive.underruns
    ∷ []

-- Octet 0 by itself, and the place of CNI in it.
abbrev pub octet0 : Drive → ℕ
octet0 d = get_or (octets_of d) 0 0

abbrev pub cni : ℕ
cni = bit6
