-- What a phase is where it is none of those looked for.
use mathlib.Core.Path.{◌≡◌, refl}
use mathlib.Core.Bool.{false, ◌||◌}
use mathlib.Core.List.{[], ◌∷◌}
use types.Run.{OneOf, miss}
use denote.Enum.Declared.{tag_of}
use Rattle.rules.specs.declared.phase.Phase.{Phase}
use Rattle.rules.specs.declared.phase.Phase.TheVariants.{Rest, Taking, Giving, Status}
use Rattle.rules.specs.Phase.{at_rest, is_status, rest_or_status, given_before, taken_before, outstanding}
use Rattle.rules.specs.contracts.phase.Phase.{the_type}

pub no_rest : (p : Phase) → OneOf (1 ∷ 2 ∷ 3 ∷ []) (tag_of the_type p) → false ≡ at_rest p
no_rest Rest o = absurd (miss (1 ∷ 2 ∷ 3 ∷ []) 0 tt o)
no_rest (Taking n) o = refl
no_rest (Giving n) o = refl
no_rest (Status k) o = refl

pub no_report : (p : Phase) → OneOf (0 ∷ 1 ∷ 2 ∷ []) (tag_of the_type p) → false ≡ is_status p
no_report Rest o = refl
no_report (Taking n) o = refl
no_report (Giving n) o = refl
no_report (Status k) o = absurd (miss (0 ∷ 1 ∷ 2 ∷ []) 3 tt o)

pub none_given : (p : Phase) → OneOf (0 ∷ 2 ∷ 3 ∷ []) (tag_of the_type p) → 0 ≡ given_before p
none_given Rest o = refl
none_given (Taking n) o = absurd (miss (0 ∷ 2 ∷ 3 ∷ []) 1 tt o)
none_given (Giving n) o = refl
none_given (Status k) o = refl

pub none_taken : (p : Phase) → OneOf (0 ∷ 1 ∷ 3 ∷ []) (tag_of the_type p) → 0 ≡ taken_before p
none_taken Rest o = refl
none_taken (Taking n) o = refl
none_taken (Giving n) o = absurd (miss (0 ∷ 1 ∷ 3 ∷ []) 2 tt o)
none_taken (Status k) o = refl

pub none_outstanding : (p : Phase) → OneOf (0 ∷ 1 ∷ 2 ∷ []) (tag_of the_type p) → 0 ≡ outstanding p
none_outstanding Rest o = refl
none_outstanding (Taking n) o = refl
none_outstanding (Giving n) o = refl
none_outstanding (Status k) o = absurd (miss (0 ∷ 1 ∷ 2 ∷ []) 3 tt o)

-- Rest or Status, by two looks.
pub either : (p : Phase) → (at_rest p || is_status p) ≡ rest_or_status p
either Rest = refl
either (Taking n) = refl
either (Giving n) = refl
either (Status k) = refl
