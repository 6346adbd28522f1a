-- What the book's step comes to, refused and taken.
use mathlib.Core.Path.{◌≡◌, refl, sym, ap, ◌∙◌}
use mathlib.Core.Bool.{Bool, true, false}
use Rattle.std.specs.Prelude.{Option, None}
use Rattle.basis.specs.Choice.{pick}
use Rattle.rules.specs.declared.unit.Core.{Core}
use Rattle.rules.specs.declared.event.Event.{Event}
use Rattle.rules.specs.declared.answer.Answer.{Answer}
use Rattle.rules.specs.declared.answer.Answer.TheVariants.{Malformed}
use Rattle.rules.specs.Answer.{row_of}
use Rattle.rules.specs.Unit.{Lent}
use Rattle.rules.specs.Refusal.{refusal_in, refusal_by}
use Rattle.rules.specs.Step.{stepped, effect_of, refused_turn}
use Rattle.answers.specs.Settled.{settled_by, Settles}

pub refusing : {b a : Answer} {v : Bool} → b ≡ a → (row_of b).refuses ≡ v → (row_of a).refuses ≡ v
refusing e so = ap (λ (x : Answer). (row_of x).refuses) (sym e) ∙ so

-- an event that is refused by b, and one that is taken because b refuses nothing
module _ (c : Core) (possible short : Bool) (e : Option Event) (b : Answer) (is : b ≡ refusal_by possible short (refusal_in c e)) where
  pub refused_by : (row_of b).refuses ≡ true → Settles c possible short e (refused_turn b c)
  unfolding pick
  refused_by so l = ap (λ (x : Answer). stepped (refused_turn x c) l) is ∙ rw (refusing is so) refl

  pub taken_by : (row_of b).refuses ≡ false → (l : Lent) → effect_of c l e ≡ settled_by c possible short l e
  unfolding pick
  taken_by so l = rw (refusing is so) refl

pub none_refused : (c : Core) (possible short : Bool) (b : Answer) → b ≡ refusal_by possible short Malformed
    → Settles c possible short None (refused_turn b c)
unfolding pick
none_refused c possible short b e = refused_by c possible short None b e (ap (λ (x : Answer). (row_of x).refuses) e ∙ go possible short)
  where
    go : (ok n : Bool) → (row_of (refusal_by ok n Malformed)).refuses ≡ true
    go true true = refl
    go true false = refl
    go false n = refl
