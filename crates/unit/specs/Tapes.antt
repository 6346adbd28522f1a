-- The four lent tapes.
use Rattle.std.specs.Prelude.{ℕ, ◌≡◌, List, length}
use Rattle.rules.specs.Unit.{Lent, lent, one_of}
use Rattle.unit.specs.declared.tapes.Tapes.{Tapes}

-- What a step is lent: a staging block beside the four tapes.
abbrev pub lent_on : List ℕ → Tapes → Lent
lent_on g t = lent g t.tape0.now t.tape1.now t.tape2.now t.tape3.now

-- The tape of a drive by its number.
abbrev pub tape_of : Tapes → ℕ → List ℕ
tape_of t i = one_of i t.tape0.now t.tape1.now t.tape2.now t.tape3.now

-- The same four buffers, each as long as it was, whatever stands in them.
pub record Same (t t' : Tapes) : Type 0 where
  pub same0 : t'.tape0.ghost_name ≡ t.tape0.ghost_name
  pub same1 : t'.tape1.ghost_name ≡ t.tape1.ghost_name
  pub same2 : t'.tape2.ghost_name ≡ t.tape2.ghost_name
  pub same3 : t'.tape3.ghost_name ≡ t.tape3.ghost_name
  pub size0 : length t'.tape0.now ≡ length t.tape0.now
  pub size1 : length t'.tape1.now ≡ length t.tape1.now
  pub size2 : length t'.tape2.now ≡ length t.tape2.now
  pub size3 : length t'.tape3.now ≡ length t.tape3.now
