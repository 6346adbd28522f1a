-- ONLINE dropped: which of its rules two tests choose.
use mathlib.Core.Path.{◌≡◌, refl, ◌∙◌}
use mathlib.Core.Bool.{Bool, true, false, ◌&&◌}
use Rattle.basis.specs.Choice.{pick}

-- the level up with EXCEPTION; up with a cartridge; and neither
by_two_tests : {A : Type 0} (online exception loaded : Bool) (idle left level : A)
    → pick online (pick exception idle (pick loaded left level)) level ≡ pick (online && exception) idle (pick (online && loaded) left level)
unfolding pick
by_two_tests true true loaded idle left level = refl
by_two_tests true false true idle left level = refl
by_two_tests true false false idle left level = refl
by_two_tests false exception loaded idle left level = refl

module _ {A : Type 0} (online exception loaded : Bool) (idle left level : A) where
  abbrev chosen : A
  chosen = pick online (pick exception idle (pick loaded left level)) level

  pub with_exception : (online && exception) ≡ true → chosen ≡ idle
  unfolding pick
  with_exception h = by_two_tests online exception loaded idle left level ∙ rw h

  pub with_cartridge : (online && exception) ≡ false → (online && loaded) ≡ true → chosen ≡ left
  unfolding pick
  with_cartridge h k = by_two_tests online exception loaded idle left level ∙ rw (h, k)

  pub with_neither : (online && exception) ≡ false → (online && loaded) ≡ false → chosen ≡ level
  unfolding pick
  with_neither h k = by_two_tests online exception loaded idle left level ∙ rw (h, k)
