-- What is there at the start and at the end of a run: records and tapes written out, and none of the moves that the rules use.
use Rattle.std.specs.Prelude.{ℕ, zero, suc, ◌+◌, ◌%◌, Bool, true, false, not, ◌||◌, List, [], ◌∷◌, eqb}
use Rattle.basis.specs.Choice.{pick}
use Rattle.rules.specs.declared.drive.Drive.{Drive}
use Rattle.rules.specs.declared.drive.Latched.{Latched}
use Rattle.rules.specs.declared.drive.Mode.{Mode}
use Rattle.rules.specs.declared.drive.Mode.TheVariants.{Idle, Writing, Reading}
use Rattle.rules.specs.declared.phase.Phase.{Phase}
use Rattle.rules.specs.declared.unit.Port.{Port}
use Rattle.rules.specs.Unit.{Lent}
use Rattle.rules.specs.Run.{World}

-- The levels of ONLINE.
abbrev pub up : Bool
up = true

abbrev pub low : Bool
low = false

-- Latched bits: none, all, each alone, those of two together, and all but some.
abbrev pub latched : Bool → Bool → Bool → Bool → Bool → Bool → Bool → Bool → Latched
latched c e u b f i n p = record { cni = c; eom = e; ude = u; bnl = b; fil = f; ill = i; ndt = n; por = p }

abbrev pub none : Latched
none = latched false false false false false false false false

abbrev pub all : Latched
all = latched true true true true true true true true

abbrev pub cni : Latched
cni = latched true false false false false false false false

abbrev pub eom : Latched
eom = latched false true false false false false false false

abbrev pub ude : Latched
ude = latched false false true false false false false false

abbrev pub bnl : Latched
bnl = latched false false false true false false false false

abbrev pub fil : Latched
fil = latched false false false false true false false false

abbrev pub ill : Latched
ill = latched false false false false false true false false

abbrev pub ndt : Latched
ndt = latched false false false false false false true false

abbrev pub por : Latched
por = latched false false false false false false false true

abbrev pub also : Latched → Latched → Latched
also a b =
    latched (a.cni || b.cni) (a.eom || b.eom) (a.ude || b.ude) (a.bnl || b.bnl) (a.fil || b.fil) (a.ill || b.ill) (a.ndt || b.ndt)
    (a.por || b.por)

abbrev pub all_but : Latched → Latched
all_but b = latched (not b.cni) (not b.eom) (not b.ude) (not b.bnl) (not b.fil) (not b.ill) (not b.ndt) (not b.por)

-- A slot without a cartridge, with an open one, with a protected one.
pub data Slot : Type 0 where
  gone : Slot
  free : Slot
  plugged : Slot

abbrev pub is_in : Slot → Bool
is_in gone = false
is_in free = true
is_in plugged = true

abbrev pub is_plugged : Slot → Bool
is_plugged gone = false
is_plugged free = false
is_plugged plugged = true

-- A drive's record in full; with no late block; with both counters above 255; without EXCEPTION and without a bit; with EXCEPTION.
abbrev pub record_of : Slot → ℕ → Mode → ℕ → Bool → Latched → ℕ → ℕ → Drive
record_of s h m n e k a b =
    record {
      head = h;
      errors = record { 0 = a };
      underruns = record { 0 = b };
      loaded = is_in s;
      protected = is_plugged s;
      mode = m;
      late = n;
      exception = e;
      latched = k;
    }

abbrev pub full : Slot → ℕ → Mode → Bool → Latched → ℕ → ℕ → Drive
full s h m e k a b = record_of s h m 0 e k a b

abbrev pub quiet : Slot → ℕ → Mode → Drive
quiet s h m = full s h m false none 258 515

abbrev pub loud : Slot → ℕ → Mode → Latched → Drive
loud s h m k = full s h m true k 258 515

-- In this mode with so many late blocks allowed; in a late WRITE, without EXCEPTION and with it.
abbrev pub allows : Mode → ℕ → Drive
allows m n = record_of free 5 m n false none 258 515

abbrev pub late : ℕ → ℕ → Drive
late n h = record_of free h Writing n false none 258 515

abbrev pub loud_late : ℕ → ℕ → Latched → Drive
loud_late n h k = record_of free h Writing n true k 258 515

-- n bytes that count up from k, none like its neighbours; a block of such bytes.
abbrev pub ramp : ℕ → ℕ → List ℕ
ramp zero k = []
ramp (suc n) k = let r = ramp n (k + 1) in k % 251 ∷ r

abbrev pub block : ℕ → List ℕ
block k = 1 ∷ ramp 512 k

-- A short tape of unequal bytes, and the five bytes in front of whatever stands at head 5.
abbrev pub odd : List ℕ
odd = 9 ∷ 8 ∷ 7 ∷ 6 ∷ 5 ∷ 4 ∷ 3 ∷ 2 ∷ 1 ∷ []

abbrev pub lead : List ℕ
lead = 9 ∷ 8 ∷ 7 ∷ 6 ∷ 5 ∷ []

-- The neighbours: what the other drives and tapes are, each unlike the rest.
abbrev pub near0 : Drive
near0 = full free 7 Reading false none 1 2

abbrev pub near1 : Drive
near1 = full plugged 4 Idle true por 3 4

abbrev pub near2 : Drive
near2 = full free 2 Writing true eom 5 6

abbrev pub near3 : Drive
near3 = full gone 0 Idle false none 7 8

abbrev pub tape0 : List ℕ
tape0 = 31 ∷ 32 ∷ []

abbrev pub tape1 : List ℕ
tape1 = 33 ∷ 34 ∷ 35 ∷ []

abbrev pub tape2 : List ℕ
tape2 = 36 ∷ []

abbrev pub tape3 : List ℕ
tape3 = 37 ∷ 38 ∷ 39 ∷ 40 ∷ []

-- The octets and the staging block as they were left by what came before.
abbrev pub old_octets : List ℕ
old_octets = 11 ∷ 12 ∷ 13 ∷ 14 ∷ 15 ∷ 16 ∷ []

abbrev pub old_staging : List ℕ
old_staging = ramp 512 1

abbrev pub port : ℕ → Bool → Phase → List ℕ → Port
port n level ph o = record { phase = ph; octets = o; selected = n; online = level }

abbrev pub lent_as : List ℕ → List ℕ → List ℕ → List ℕ → List ℕ → Lent
lent_as g a b c d = record { staging = g; tape0 = a; tape1 = b; tape2 = c; tape3 = d }

-- A world in which drive i is d and has the tape t, among its neighbours.
abbrev pub among : ℕ → Port → List ℕ → Drive → List ℕ → World
among i p g d t =
    record {
      core =
          record {
            port = p;
            drive0 = pick (eqb i 0) d near0;
            drive1 = pick (eqb i 1) d near1;
            drive2 = pick (eqb i 2) d near2;
            drive3 = pick (eqb i 3) d near3;
          };
      lent =
          lent_as g (pick (eqb i 0) t tape0) (pick (eqb i 1) t tape1) (pick (eqb i 2) t tape2) (pick (eqb i 3) t tape3);
    }

-- Drive i selected; and drive 2, as most rows have it: level of ONLINE, phase, its record, its tape.
abbrev pub at : ℕ → Bool → Phase → Drive → List ℕ → World
at i level ph d t = among i (port i level ph old_octets) old_staging d t

abbrev pub scene : Bool → Phase → Drive → List ℕ → World
scene level ph d t = at 2 level ph d t
