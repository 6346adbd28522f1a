-- The one walk over records, and what is read off it by whoever passes records.
use Rattle.std.specs.Prelude.{ℕ, zero, suc, ◌+◌, List, length, Result, Ok, Err}
use Rattle.tape.specs.declared.found.Kind.TheVariants.{Block, Mark}
use Rattle.tape.specs.declared.found.Why.{Why}
use Rattle.tape.specs.declared.found.Why.TheVariants.{Bad}
use Rattle.tape.specs.declared.pass.Stopped.{Stopped}
use Rattle.tape.specs.declared.pass.Way.{Way}
use Rattle.tape.specs.Record.{found_at, mark_size, block_size}

-- The records from an offset on, each with its offset, and where and why there is no next one.
pub data Trail : Type 0 where
  block : ℕ → Trail → Trail
  mark : ℕ → Trail → Trail
  stop : ℕ → Why → Trail

-- At most n records from offset h on.
unfoldable pub walk : List ℕ → ℕ → ℕ → Trail
walk t zero h = stop h Bad
walk t (suc n) h =
    elim (found_at t h) [ Ok Block ↦ block h (walk t n (h + block_size)) | Ok Mark ↦ mark h (walk t n (h + mark_size)) | Err w ↦ stop h w ]

-- All of them: a record is a byte or more, so a tape holds fewer of them than its length and one.
unfoldable pub trail : List ℕ → ℕ → Trail
trail t h = walk t (suc (length t)) h

-- The offset that a trail starts from.
abbrev pub start_of : Trail → ℕ
start_of (block h r) = h
start_of (mark h r) = h
start_of (stop h w) = h

-- Past the next n marks, or where and why there were no more.
abbrev pub past_marks : ℕ → Trail → Result ℕ Stopped
past_marks zero r = Ok (start_of r)
past_marks (suc n) (block h r) = past_marks (suc n) r
past_marks (suc n) (mark h r) = past_marks n r
past_marks (suc n) (stop h w) = Err (record { at = h; why = w })

-- How many marks, and how many records, are passed on that way.
abbrev pub marks_past : ℕ → Trail → ℕ
marks_past zero r = 0
marks_past (suc n) (block h r) = marks_past (suc n) r
marks_past (suc n) (mark h r) = suc (marks_past n r)
marks_past (suc n) (stop h w) = 0

abbrev pub records_past : ℕ → Trail → ℕ
records_past zero r = 0
records_past (suc n) (block h r) = suc (records_past (suc n) r)
records_past (suc n) (mark h r) = suc (records_past n r)
records_past (suc n) (stop h w) = 0

-- From offset h to just past the next mark, or to the end of data, or to a bad record.
abbrev pub passed : List ℕ → ℕ → Result ℕ Stopped
passed t h = past_marks 1 (trail t h)

-- The offset where passing ended.
abbrev pub end_of : Result ℕ Stopped → ℕ
end_of (Ok at) = at
end_of (Err s) = s.at

-- THE WAY from offset h past the next n marks: where it ended, and the marks and the records that it passed.
abbrev pub way_past : List ℕ → ℕ → ℕ → Way
way_past t h n = record { end = past_marks n (trail t h); marks = marks_past n (trail t h); records = records_past n (trail t h) }
