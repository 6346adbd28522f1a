-- State: the unit's record, fresh and after RESET; a drive and a tape by their number.
use Rattle.std.specs.Prelude.{ℕ, ◌≡◌, Bool, false, List, length, replicate, leb, eqb}
use Rattle.basis.specs.Choice.{pick}
use Rattle.tape.specs.Record.{body_size}
use Rattle.rules.specs.declared.drive.Drive.{Drive}
use Rattle.rules.specs.declared.phase.Phase.{Phase}
use Rattle.rules.specs.declared.phase.Phase.TheVariants.{Rest, Status}
use Rattle.rules.specs.declared.unit.Port.{Port}
use Rattle.rules.specs.declared.unit.Core.{Core}
use Rattle.rules.specs.declared.unit.Unit.{Unit}
use Rattle.rules.specs.Drive.{fresh_drive, was_reset}
use Rattle.rules.specs.Phase.{report_size}

-- What is lent to a step: the staging block, and the tape of each drive.
pub record Lent : Type 0 where
  pub staging : List ℕ
  pub tape0 : List ℕ
  pub tape1 : List ℕ
  pub tape2 : List ℕ
  pub tape3 : List ℕ

abbrev pub lent : List ℕ → List ℕ → List ℕ → List ℕ → List ℕ → Lent
lent g a b c d = record { staging = g; tape0 = a; tape1 = b; tape2 = c; tape3 = d }

-- The staging block has 512 bytes, as its type says.
abbrev pub Whole : Lent → Type 0
Whole l = length l.staging ≡ body_size

-- One of four, by its number; and the k-th of four after x was put at i. A number above 3 means the last.
unfoldable pub one_of : {A : Type 0} → ℕ → A → A → A → A → A
one_of i a b c d = pick (eqb i 0) a (pick (eqb i 1) b (pick (eqb i 2) c d))

unfoldable pub put_at : {A : Type 0} → ℕ → ℕ → A → A → A
put_at k i x old = pick (eqb i k) x old

unfoldable pub put_last : {A : Type 0} → ℕ → A → A → A
put_last i x old = pick (leb 3 i) x old

abbrev pub drive_at : Core → ℕ → Drive
drive_at c i = one_of i c.drive0 c.drive1 c.drive2 c.drive3

abbrev pub put_drive : Core → Port → ℕ → Drive → Core
put_drive c p i d =
    record {
      port = p;
      drive0 = put_at 0 i d c.drive0;
      drive1 = put_at 1 i d c.drive1;
      drive2 = put_at 2 i d c.drive2;
      drive3 = put_last i d c.drive3;
    }

abbrev pub tape_at : Lent → ℕ → List ℕ
tape_at l i = one_of i l.tape0 l.tape1 l.tape2 l.tape3

abbrev pub put_tape : Lent → ℕ → List ℕ → Lent
put_tape l i t = lent l.staging (put_at 0 i t l.tape0) (put_at 1 i t l.tape1) (put_at 2 i t l.tape2) (put_last i t l.tape3)

abbrev pub put_staging : Lent → List ℕ → Lent
put_staging l g = lent g l.tape0 l.tape1 l.tape2 l.tape3

-- The port: another phase; and, at Rest, another level of ONLINE, another drive selected, six octets to hand out.
abbrev pub at_phase : Phase → Port → Port
at_phase ph p = record { selected = p.selected; online = p.online; phase = ph; octets = p.octets }

abbrev pub at_level : Bool → Port → Port
at_level level p = record { selected = p.selected; online = level; phase = Rest; octets = p.octets }

abbrev pub at_drive : ℕ → Port → Port
at_drive n p = record { selected = n; online = p.online; phase = Rest; octets = p.octets }

abbrev pub showing : List ℕ → Port → Port
showing octets p = record { selected = p.selected; online = p.online; phase = Status report_size; octets = octets }

-- A core in another phase, with nothing else changed.
abbrev pub moved_to : Core → Phase → Core
moved_to c ph = record { port = at_phase ph c.port; drive0 = c.drive0; drive1 = c.drive1; drive2 = c.drive2; drive3 = c.drive3 }

-- Fresh: nothing selected but drive 0, the line low, nothing under way, all bytes 0.
abbrev pub fresh_port : Port
fresh_port = record { selected = 0; online = false; phase = Rest; octets = replicate report_size 0 }

abbrev pub fresh_core : Core
fresh_core = record { port = fresh_port; drive0 = fresh_drive; drive1 = fresh_drive; drive2 = fresh_drive; drive3 = fresh_drive }

abbrev pub fresh_unit : Unit
fresh_unit = record { core = fresh_core; staging = replicate body_size 0 }

-- RESET: drive 0 selected, Rest, each drive reset; the level of ONLINE, the octets and the staging block stay.
abbrev pub reset_port : Port → Port
reset_port p = at_drive 0 p

abbrev pub reset_core : Core → Core
reset_core c =
    record {
      port = reset_port c.port;
      drive0 = was_reset c.drive0;
      drive1 = was_reset c.drive1;
      drive2 = was_reset c.drive2;
      drive3 = was_reset c.drive3;
    }
