-- Counters: what each of the two in a drive's record keeps.
use Rattle.std.specs.Prelude.{ℕ, ◌≤◌, ◌≡◌}
use Rattle.rules.specs.declared.drive.Drive.{Drive}
use Rattle.rules.specs.Drive.{highest, counted}

-- Of a counter by its number, the one that a record holds, a record with another in its place, and a record with one more counted:
-- the number is one more, up to the highest count; with the counter put back as it was, the whole record is as it was.
pub record CounterLaws {C : Type 0} (number : C → ℕ) (held : Drive → C) (put : C → Drive → Drive) (raised : Drive → Drive) : Type 0 where
  pub one_more : (d : Drive) → number (held (raised d)) ≡ counted (number (held d))
  pub rest_stays : (d : Drive) → put (held d) (raised d) ≡ d

-- Counting takes a counter no further than the highest count.
abbrev pub NeverAbove : {C : Type 0} → (C → ℕ) → (Drive → C) → (Drive → Drive) → Type 0
NeverAbove number held raised = (d : Drive) → number (held d) ≤ highest → number (held (raised d)) ≤ highest
