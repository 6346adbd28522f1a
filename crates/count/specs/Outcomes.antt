-- Each public contract leaves one outcome: any two that it allows are equal, whichever counter it is of, by its move f.
-- What a routine is lent is the record as it stands at exit.
use Rattle.std.specs.Prelude.{ℕ, ◌≡◌}
use Rattle.rules.specs.declared.drive.Drive.{Drive}
use Rattle.rules.specs.declared.unit.Core.{Core}
use Rattle.rules.specs.Unit.{drive_at, put_drive}

pub record OneOutcome : Type 0 where
  pub raise : (f : Drive → Drive) (d d' d'' : Drive) → d' ≡ f d → d'' ≡ f d → d' ≡ d''
  pub count_in : (f : Drive → Drive) (i : ℕ) (c r r' : Core) → r ≡ put_drive c c.port i (f (drive_at c i))
      → r' ≡ put_drive c c.port i (f (drive_at c i)) → r ≡ r'
