-- Each public contract leaves one outcome: any two that it allows are equal.
use Rattle.std.specs.Prelude.{ℕ, ◌≡◌, Bool, List, Option, Result}
use Rattle.rules.specs.declared.unit.Core.{Core}
use Rattle.rules.specs.declared.answer.Answer.{Answer}
use Rattle.rules.specs.declared.answer.Lines.{Lines}
use Rattle.rules.specs.Unit.{Lent}
use Rattle.trace.specs.declared.cut.Cut.{Cut}
use Rattle.trace.specs.declared.run.Played.{Played}
use Rattle.trace.specs.Cut.{kind_size, cut_of}
use Rattle.trace.specs.Line.{line_of, page, shown_at}
use Rattle.trace.specs.Play.{Plays}
use Rattle.trace.specs.Rest.{Keeps}

pub record OneOutcome : Type 0 where
  pub kind_size : (k : ℕ) (r r' : Option ℕ) → r ≡ kind_size k → r' ≡ kind_size k → r ≡ r'
  pub next_event : (l : List ℕ) (r r' : Result ℕ Cut) → r ≡ cut_of l → r' ≡ cut_of l → r ≡ r'
  pub show_line : (o : List ℕ) (at n : ℕ) (a : Answer) (l : Lines) (byte : Option ℕ) (r r' : Option ℕ) (o' o'' : List ℕ)
      → page r o' ≡ shown_at o at (line_of n a l byte) → page r' o'' ≡ shown_at o at (line_of n a l byte) → (r ≡ r') × (o' ≡ o'')
  pub play : (c : Core) (l : Lent) (input : List ℕ) (ending : Bool) (n : ℕ) (o : List ℕ) (p p' : Played) (l' l'' : Lent) (o' o'' : List ℕ)
      → Plays c l input ending n o p l' o' → Plays c l input ending n o p' l'' o'' → (p ≡ p') × (l' ≡ l'') × (o' ≡ o'')
  pub keep_rest : (b : List ℕ) (from to n n' : ℕ) (b' b'' : List ℕ) → Keeps b from to n b' → Keeps b from to n' b'' → (n ≡ n') × (b' ≡ b'')
