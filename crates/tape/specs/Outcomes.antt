-- Each public contract leaves one outcome: any two that it allows are equal.
use Rattle.std.specs.Prelude.{ℕ, ◌+◌, ◌≡◌, List, Bool, leb, Option, Result}
use Rattle.tape.specs.declared.found.Kind.{Kind}
use Rattle.tape.specs.declared.found.Why.{Why}
use Rattle.tape.specs.declared.pass.Stopped.{Stopped}
use Rattle.tape.specs.declared.pass.Way.{Way}
use Rattle.tape.specs.Record.{found_at}
use Rattle.tape.specs.Recording.{written, mark_written, block_written, erased}
use Rattle.tape.specs.Walk.{passed, way_past}

pub record OneOutcome : Type 0 where
  pub found_at : (t : List ℕ) (h : ℕ) (r r' : Result Kind Why) → r ≡ found_at t h → r' ≡ found_at t h → r ≡ r'
  pub has_room : (h n l : ℕ) (r r' : Bool) → r ≡ leb (h + n) l → r' ≡ leb (h + n) l → r ≡ r'
  pub record_mark : (t : List ℕ) (h : ℕ) (r r' : Option ℕ) (t' t'' : List ℕ)
      → written r t' ≡ mark_written t h → written r' t'' ≡ mark_written t h → (r ≡ r') × (t' ≡ t'')
  pub record_block : (t : List ℕ) (h : ℕ) (body : List ℕ) (spare : ℕ) (r r' : Option ℕ) (t' t'' : List ℕ)
      → written r t' ≡ block_written t h body spare → written r' t'' ≡ block_written t h body spare → (r ≡ r') × (t' ≡ t'')
  pub pass_marks : (t : List ℕ) (h n : ℕ) (r r' : Way) → r ≡ way_past t h n → r' ≡ way_past t h n → r ≡ r'
  pub pass_to_mark : (t : List ℕ) (h : ℕ) (r r' : Result ℕ Stopped) → r ≡ passed t h → r' ≡ passed t h → r ≡ r'
  pub erase : (t t' t'' : List ℕ) → t' ≡ erased t → t'' ≡ erased t → t' ≡ t''
