-- Document 01's sample: what is told of its bytes, from a fresh unit with four tapes of 16,384 zeros.
use Rattle.std.specs.Prelude.{ℕ, ◌≡◌, true, false, List, [], ◌∷◌, replicate}
use Rattle.rules.specs.Run.{World, fresh_world}
use Rattle.trace.specs.Cut.{events_of}
use Rattle.trace.specs.Pieces.{tell}

abbrev pub blank_tape : List ℕ
blank_tape = replicate 16384 0

abbrev pub blank_world : World
blank_world = fresh_world blank_tape blank_tape blank_tape blank_tape

-- 01 C0 03 03 03 03 03 03 01 00
abbrev pub sample : List ℕ
sample = 1 ∷ 192 ∷ 3 ∷ 3 ∷ 3 ∷ 3 ∷ 3 ∷ 3 ∷ 1 ∷ 0 ∷ []

-- A row for each line: `1 0 R-D --`, `2 0 R-D C0`, `3 0 R-D 81`, `4 0 R-D 00`, `5 0 R-D 00`, `6 0 R-D 00`, `7 0 R-- 00`, `8 1 -E- --`.
abbrev pub sample_text : List ℕ
sample_text =
    49 ∷ 32 ∷ 48 ∷ 32 ∷ 82 ∷ 45 ∷ 68 ∷ 32 ∷ 45 ∷ 45 ∷ 10
    ∷ 50 ∷ 32 ∷ 48 ∷ 32 ∷ 82 ∷ 45 ∷ 68 ∷ 32 ∷ 67 ∷ 48 ∷ 10
    ∷ 51 ∷ 32 ∷ 48 ∷ 32 ∷ 82 ∷ 45 ∷ 68 ∷ 32 ∷ 56 ∷ 49 ∷ 10
    ∷ 52 ∷ 32 ∷ 48 ∷ 32 ∷ 82 ∷ 45 ∷ 68 ∷ 32 ∷ 48 ∷ 48 ∷ 10
    ∷ 53 ∷ 32 ∷ 48 ∷ 32 ∷ 82 ∷ 45 ∷ 68 ∷ 32 ∷ 48 ∷ 48 ∷ 10
    ∷ 54 ∷ 32 ∷ 48 ∷ 32 ∷ 82 ∷ 45 ∷ 68 ∷ 32 ∷ 48 ∷ 48 ∷ 10
    ∷ 55 ∷ 32 ∷ 48 ∷ 32 ∷ 82 ∷ 45 ∷ 45 ∷ 32 ∷ 48 ∷ 48 ∷ 10
    ∷ 56 ∷ 32 ∷ 49 ∷ 32 ∷ 45 ∷ 69 ∷ 45 ∷ 32 ∷ 45 ∷ 45 ∷ 10
    ∷ []

pub record SampleTold : Type 0 where
  pub text : (tell blank_world 0 (events_of true sample)).text ≡ sample_text
  pub count : (tell blank_world 0 (events_of true sample)).count ≡ 8
  pub stopped : (tell blank_world 0 (events_of true sample)).stopped ≡ false
