-- Events as bytes, by what they are: what the promises about runs are written in.
use Rattle.std.specs.Prelude.{ℕ, List, [], ◌∷◌, ◌++◌}

-- A command, a byte given, a byte taken, ONLINE raised and dropped, RESET.
abbrev pub command : ℕ → List ℕ
command c = 1 ∷ c ∷ []

abbrev pub give : ℕ → List ℕ
give b = 2 ∷ b ∷ []

abbrev pub fetch : List ℕ
fetch = 3 ∷ []

abbrev pub rise : List ℕ
rise = 4 ∷ []

abbrev pub fall : List ℕ
fall = 5 ∷ []

abbrev pub restart : List ℕ
restart = 6 ∷ []

-- At a slot: a cartridge in and out, an error, an underrun. The body of 07 is the drive's number, and 128 more for a protected cartridge.
abbrev pub cartridge : ℕ → List ℕ
cartridge b = 7 ∷ b ∷ []

abbrev pub pull : ℕ → List ℕ
pull i = 8 ∷ i ∷ []

abbrev pub error : ℕ → List ℕ
error i = 9 ∷ i ∷ []

abbrev pub underrun : ℕ → List ℕ
underrun i = 10 ∷ i ∷ []

-- Several lists as one.
abbrev pub joined : {A : Type 0} → List (List A) → List A
joined [] = []
joined (l ∷ ls) = l ++ joined ls
