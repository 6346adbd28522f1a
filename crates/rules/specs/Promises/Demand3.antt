-- Demand 3: what one drive gives and holds depends on what reaches it, and on nothing else.
use Rattle.std.specs.Prelude.{ℕ, ◌≤◌, ◌≡◌, true, List, [], ◌++◌, eqb, take, Option, None, Some}
use Rattle.basis.specs.Choice.{pick}
use Rattle.rules.specs.declared.phase.Phase.{Phase}
use Rattle.rules.specs.declared.phase.Phase.TheVariants.{Rest, Taking, Giving, Status}
use Rattle.rules.specs.Unit.{drive_at, tape_at}
use Rattle.rules.specs.Refusal.{short}
use Rattle.rules.specs.Phase.{given_before}
use Rattle.rules.specs.Run.{World, run, fresh_world}
use Rattle.rules.specs.Reach.{Change, real_change, any_level, reached, given}

-- What a selected drive still has to give or take: the phase, the part block given, and the octets while they go out.
pub record Pending : Type 0 where
  pub phase : Phase
  pub part : List ℕ
  pub octets : List ℕ

abbrev pub octets_in : Phase → List ℕ → List ℕ
octets_in Rest o = []
octets_in (Taking n) o = []
octets_in (Giving n) o = []
octets_in (Status k) o = o

abbrev pub pending : ℕ → World → Option Pending
pending d w =
    pick (eqb w.core.port.selected d)
    (Some (record {
      phase = w.core.port.phase;
      part = take (given_before w.core.port.phase) w.lent.staging;
      octets = octets_in w.core.port.phase w.core.port.octets;
    }))
    None

-- Two worlds in which drive d ends the same:
-- its whole record (head, both counts, latched bits, EXCEPTION, mode, cartridge, plug), its tape, and what it still has to give.
pub record Alike (d : ℕ) (w w' : World) : Type 0 where
  pub drive : drive_at w.core d ≡ drive_at w'.core d
  pub tape : tape_at w.lent d ≡ tape_at w'.lent d
  pub still : pending d w ≡ pending d w'

-- One drive, two runs from a fresh unit with any tapes of allowed length that agree on that drive's, any events:
-- where the same events reach the drive in the same order,
-- it ends the same and gave the same.
pub record SameFate (r : Change) (d : ℕ) (w w' : World) (es es' : List (List ℕ)) : Type 0 where
  pub ends : Alike d (run w es) (run w' es')
  pub gives : given r d w es ≡ given r d w' es'

abbrev pub Demand3For : Change → Type 0
Demand3For r =
    (d : ℕ) → d ≤ 3 → (a b c e a' b' c' e' : List ℕ)
    → short (fresh_world a b c e).lent ≡ true → short (fresh_world a' b' c' e').lent ≡ true
    → tape_at (fresh_world a b c e).lent d ≡ tape_at (fresh_world a' b' c' e').lent d
    → (es es' : List (List ℕ)) → reached r d (fresh_world a b c e) es ≡ reached r d (fresh_world a' b' c' e') es'
    → SameFate r d (fresh_world a b c e) (fresh_world a' b' c' e') es es'

-- An ONLINE change is a real change of the level: the stronger theorem.
abbrev pub Demand3 : Type 0
Demand3 = Demand3For real_change

-- The other reading, in which a level repeated counts too.
abbrev pub Demand3AnyLevel : Type 0
Demand3AnyLevel = Demand3For any_level

-- What a buyer asks: events put in between, for the other drives, that leave alone what reaches drive d,
-- change not one byte of what it reports or holds.
abbrev pub OthersDoNotMatter : Type 0
OthersDoNotMatter =
    (d : ℕ) → d ≤ 3 → (a b c e : List ℕ) → short (fresh_world a b c e).lent ≡ true
    → (before between after : List (List ℕ))
    → reached real_change d (fresh_world a b c e) (before ++ (between ++ after)) ≡ reached real_change d (fresh_world a b c e) (before ++ after)
    → SameFate real_change d (fresh_world a b c e) (fresh_world a b c e) (before ++ (between ++ after)) (before ++ after)
