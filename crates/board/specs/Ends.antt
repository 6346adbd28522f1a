-- Bytes that end with the last of a block.
use Rattle.std.specs.Prelude.{ℕ, ◌-◌, Bool, false, ◌||◌, eqb, ltb}
use Rattle.basis.specs.Choice.{pick}
use Rattle.tape.specs.Record.{body_size}
use Rattle.rules.specs.Phase.{last_place}

-- So many bytes, two or more, are the rest of a block in which n went over; at Rest a block begins.
unfoldable pub ends_block : Bool → ℕ → ℕ → Bool
ends_block rest n count = pick (rest || ltb 0 n) (pick (ltb n last_place) (eqb count (body_size - n)) false) false
