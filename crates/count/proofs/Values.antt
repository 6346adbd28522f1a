-- The drive record and the core as the machine has them: each one value, which owns nothing beside itself.
use mathlib.Core.List.{List}
use seplogic.Ra.Ura.{Ura}
use mir.Val.{Val}
use types.Logic.{Logic}
use denote.Laws.{Is, Typed, Tells, Makes}
use denote.Struct.Laws as LL
use Rattle.rules.specs.declared.drive.Drive.{Drive}
use Rattle.rules.specs.declared.unit.Core.{Core}
use Rattle.rules.specs.contracts.drive.Drive as T
use Rattle.rules.proofs.drive.Drive.TheLaws as T'
use Rattle.rules.specs.contracts.unit.Core as K
use Rattle.rules.proofs.unit.Core.TheLaws as K'

-- A record's values, and what stands for a record: its own values.
abbrev pub vals : Drive → List Val
vals = LL.vals T.the_type T'.the_laws

abbrev pub Stands : Drive → List Val → Type 0
Stands = Is T.the_row

abbrev pub tells : Tells T.the_row Stands vals
tells = LL.tells T.the_type T'.the_laws

-- The same of the core: its one value, and that as a list.
abbrev pub core_val : Core → Val
core_val = LL.val K.the_type K'.the_laws

abbrev pub core_vals : Core → List Val
core_vals = LL.vals K.the_type K'.the_laws

abbrev pub CoreStands : Core → List Val → Type 0
CoreStands = Is K.the_row

abbrev pub core_tells : Tells K.the_row CoreStands core_vals
core_tells = LL.tells K.the_type K'.the_laws

module _ {M : Type 1} {𝓤 : Ura M} (𝓛 : Logic 𝓤) where
  -- Each is of its type, and the core is owned for nothing.
  abbrev pub fits : (d : Drive) (vs : List Val) → Stands d vs → Typed (T.the_row).mir vs
  fits = (LL.lawful T.the_type T'.the_laws 𝓛).typed

  abbrev pub core_fits : (c : Core) (vs : List Val) → CoreStands c vs → Typed (K.the_row).mir vs
  core_fits = (LL.lawful K.the_type K'.the_laws 𝓛).typed

  abbrev pub core_makes : Makes 𝓛 K.the_row CoreStands
  core_makes = LL.makes K.the_type K'.the_plain 𝓛
