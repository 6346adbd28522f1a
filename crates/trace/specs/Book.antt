-- A run answers the first of its events as the book's run does:
-- the world, the count, the bytes used and the lines are those of exactly these events, in their order.
use Rattle.std.specs.Prelude.{ℕ, ◌+◌, ◌≡◌, List, [], ◌∷◌, ◌++◌, length, take}
use Rattle.rules.specs.declared.answer.Turn.{Turn}
use Rattle.rules.specs.Run.{World, run, turns}
use Rattle.trace.specs.Line.{line_of}
use Rattle.trace.specs.Play.{Run, play}

-- The lines of answers that are numbered from n on.
abbrev pub lines_from : ℕ → List Turn → List ℕ
lines_from n [] = []
lines_from n (t ∷ ts) = line_of n t.answer t.lines t.byte ++ lines_from (n + 1) ts

abbrev pub bytes_of : List (List ℕ) → ℕ
bytes_of [] = 0
bytes_of (e ∷ es) = length e + bytes_of es

-- The first events, as many as were answered.
pub record FirstOf (w : World) (n : ℕ) (es : List (List ℕ)) (r : Run) : Type 0 where
  pub answered : ℕ
  pub count : r.count ≡ n + answered
  pub used : r.used ≡ bytes_of (take answered es)
  pub world : r.world ≡ run w (take answered es)
  pub text : r.text ≡ lines_from (n + 1) (turns w (take answered es))

abbrev pub ByTheBook : Type 0
ByTheBook = (room full : ℕ) (w : World) (n : ℕ) (es : List (List ℕ)) → FirstOf w n es (play room full w n es)
