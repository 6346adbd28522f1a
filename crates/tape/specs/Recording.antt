-- Recording puts the record at the head and one 00 after it, if that offset is inside the tape. No other byte changes.
use Rattle.std.specs.Prelude.{ℕ, ◌+◌, List, [], ◌∷◌, ◌++◌, length, take, drop, replicate, leb, Option, Some, None}
use Rattle.basis.specs.Choice.{pick}
use Rattle.tape.specs.Record.{end_kind, mark_size, block_size, mark_record, block_record}

-- What comes after a record: one 00 at its front, if there is a byte.
abbrev pub ended : List ℕ → List ℕ
ended [] = []
ended (x ∷ xs) = end_kind ∷ xs

-- One 00 at offset n of a part, if that lies inside it.
abbrev pub ended_at : List ℕ → ℕ → List ℕ
ended_at part n = take n part ++ ended (drop n part)

-- A record put at the front of a part of the tape.
abbrev pub put_in : List ℕ → List ℕ → List ℕ
put_in rec part = rec ++ ended (drop (length rec) part)

-- The tape t with a record put at offset h.
unfoldable pub recorded : List ℕ → ℕ → List ℕ → List ℕ
recorded t h rec = take h t ++ put_in rec (drop h t)

-- What an order to record hands back: the answer, the offset just past the record if there was room, and the tape as it is left.
pub record Written : Type 0 where
  pub made : Option ℕ
  pub tape : List ℕ

abbrev pub written : Option ℕ → List ℕ → Written
written m t = record { made = m; tape = t }

-- A record of n bytes at offset h, if it and `spare` bytes behind it have room; else the tape as found.
unfoldable pub written_at : List ℕ → ℕ → ℕ → ℕ → List ℕ → Written
written_at t h n spare rec =
    pick (leb (h + (n + spare)) (length t)) (written (Some (h + n)) (recorded t h rec)) (written None t)

abbrev pub mark_written : List ℕ → ℕ → Written
mark_written t h = written_at t h mark_size 0 mark_record

abbrev pub block_written : List ℕ → ℕ → List ℕ → ℕ → Written
block_written t h body spare = written_at t h block_size spare (block_record body)

-- Every byte 0.
abbrev pub erased : List ℕ → List ℕ
erased t = replicate (length t) 0
