-- What is left of a buffer of input after a run: moved to the front, so that more can be read behind it.
use Rattle.std.specs.Prelude.{ℕ, ◌-◌, ◌≤◌, ◌≡◌, ◌&&◌, List, ◌++◌, length, take, drop, leb}
use Rattle.basis.specs.Choice.{pick}

-- The first n bytes from an offset on, put at the front of the buffer, and nothing else changed.
unfoldable pub moved_front : List ℕ → ℕ → ℕ → List ℕ
moved_front b from n = take n (drop from b) ++ drop n b

-- How many bytes were kept, and the buffer as it is left.
pub record Rest : Type 0 where
  pub size : ℕ
  pub buffer : List ℕ

abbrev pub rest : ℕ → List ℕ → Rest
rest n b = record { size = n; buffer = b }

-- The bytes from `from` up to `to`, if they lie inside the buffer; else nothing is kept.
unfoldable pub rest_of : List ℕ → ℕ → ℕ → Rest
rest_of b from to = pick (leb from to && leb to (length b)) (rest (to - from) (moved_front b from (to - from))) (rest 0 b)

-- THE CONTRACT of keeping the rest: how much is kept, every byte of the buffer, and that it stays inside it.
pub record Keeps (b : List ℕ) (from to n : ℕ) (b' : List ℕ) : Type 0 where
  pub is : rest n b' ≡ rest_of b from to
  pub inside : n ≤ length b
