-- What a tape holds: records, each one byte of kind and then a body whose length the kind fixes.
use Rattle.std.specs.Prelude.{ℕ, ◌+◌, List, [], ◌∷◌, Bool, length, get_or, ltb, leb, eqb, Result, Ok, Err}
use Rattle.tape.specs.declared.found.Kind.{Kind}
use Rattle.tape.specs.declared.found.Kind.TheVariants.{Block, Mark}
use Rattle.tape.specs.declared.found.Why.{Why}
use Rattle.tape.specs.declared.found.Why.TheVariants.{End, Unknown, Bad}
use Rattle.basis.specs.Choice.{pick}

-- The longest tape.
abbrev pub longest : ℕ
longest = 16777216

-- Kind 00, no body: end of data.
abbrev pub end_kind : ℕ
end_kind = 0

-- Kind 01, 512 bytes: a block.
abbrev pub block_kind : ℕ
block_kind = 1

-- Kind 02, no body: a file mark.
abbrev pub mark_kind : ℕ
mark_kind = 2

-- The body of a block. A mark is its kind; a block is its kind and its body.
abbrev pub body_size : ℕ
body_size = 512

abbrev pub mark_size : ℕ
mark_size = 1

abbrev pub block_size : ℕ
block_size = 513

abbrev pub mark_record : List ℕ
mark_record = mark_kind ∷ []

abbrev pub block_record : List ℕ → List ℕ
block_record body = block_kind ∷ body

-- What the kind k says, where `whole` tells whether a block that starts here ends inside the tape.
unfoldable pub of_kind : ℕ → Bool → Result Kind Why
of_kind k whole =
    pick (eqb k end_kind) (Err End)
    (pick (eqb k block_kind) (pick whole (Ok Block) (Err Bad))
    (pick (eqb k mark_kind) (Ok Mark) (Err Unknown)))

-- What stands at offset h of the tape t. The tape's end also ends the data; an offset above it is no place on the tape.
unfoldable pub found_at : List ℕ → ℕ → Result Kind Why
found_at t h =
    pick (ltb h (length t)) (of_kind (get_or t h 0) (leb (h + block_size) (length t)))
    (pick (eqb h (length t)) (Err End) (Err Bad))
