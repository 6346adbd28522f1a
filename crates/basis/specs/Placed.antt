-- Bytes put into a buffer.
use Rattle.std.specs.Prelude.{ℕ, ◌+◌, List, ◌++◌, length, take, drop}

-- A buffer with these bytes put at an offset: what was before and behind them stays.
unfoldable pub placed : List ℕ → ℕ → List ℕ → List ℕ
placed o at l = take at o ++ l ++ drop (at + length l) o
