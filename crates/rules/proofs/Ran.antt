-- Runs of the step are the book's, and the laws of a run.
use Prim.Native.Nat.{ℕ}
use mathlib.Core.Path.{◌≡◌, refl, sym, ap, ap₂, ◌∙◌}
use mathlib.Core.List.{List, [], ◌∷◌, ◌++◌}
use Rattle.rules.specs.declared.answer.Turn.{Turn}
use Rattle.rules.specs.Unit.{Lent}
use Rattle.rules.specs.Step.{Stepped}
use Rattle.rules.specs.Run.{World, world, after, run, turn_of, turns}
use Rattle.rules.specs.Ran.{no_events, next, RunsAreTheBooks, EveryRun, StepsAreTheBooks, LoopGoesOn, SameSizes, LoopLaws, RunLaws, RanAppend}

pub steps_are_the_books : StepsAreTheBooks
unfolding after turn_of
steps_are_the_books c l event r l' p =
    record { left = ap (λ (s : Stepped). world s.turn.core s.lent) (sym p.is); answered = ap (λ (s : Stepped). s.turn) (sym p.is) }

pub loop_goes_on : LoopGoesOn
loop_goes_on c l event r l' still rest p first =
    let one = steps_are_the_books c l event r l' p in
    record {
      run_on = ap (λ (w : World). run w rest) (sym one.left) ∙ sym (ap (run (world c l)) first);
      turns_on =
          ap₂ (λ (t : Turn) (w : World). t ∷ turns w rest) (sym one.answered) (sym one.left) ∙ sym (ap (turns (world c l)) first);
    }

pub same_sizes : (l : Lent) → SameSizes l l
same_sizes l = record { size0 = refl; size1 = refl; size2 = refl; size3 = refl }

pub sizes_on : {l l' l₀ : Lent} → SameSizes l' l → SameSizes l l₀ → SameSizes l' l₀
sizes_on p q = record { size0 = p.size0 ∙ q.size0; size1 = p.size1 ∙ q.size1; size2 = p.size2 ∙ q.size2; size3 = p.size3 ∙ q.size3 }

pub loop_laws : LoopLaws
loop_laws =
    record {
      begins = λ c l whole. record { leads = refl; sizes = same_sizes l };
      goes_on = λ {c₀} {c} {l₀} {l} {l'} {whole} {still} {rest} {event} {r} at step first kept.
          record {
            leads = (loop_goes_on c l event r l' still rest step first).run_on ∙ at.leads;
            sizes = sizes_on kept at.sizes;
          };
      ends = λ {c₀} {c} {l₀} {l} {whole} {still} at none. ap (run (world c l)) (sym none) ∙ at.leads;
    }

pub runs_are_the_books : RunsAreTheBooks
runs_are_the_books w w' [] [] no_events = record { left = refl; answered = refl }
runs_are_the_books w w' [] (r ∷ rs) none = elim none [ ]
runs_are_the_books w w' (event ∷ events) [] none = elim none [ ]
runs_are_the_books w w' (event ∷ events) (r ∷ rs) (next {c} {l} {l'} p q) =
    let on = loop_goes_on c l event r l' (event ∷ events) events p refl in
    let rest = runs_are_the_books (world r.core l') w' events rs q in
    record { left = rest.left ∙ on.run_on; answered = ap (λ (ts : List Turn). r ∷ ts) rest.answered ∙ on.turns_on }

pub every_run : EveryRun
unfolding after turn_of
every_run w [] = no_events
every_run w (event ∷ events) = next (record { is = refl }) (every_run (after w event) events)

pub run_append : (w : World) (es fs : List (List ℕ)) → run w (es ++ fs) ≡ run (run w es) fs
run_append w [] fs = refl
run_append w (e ∷ es) fs = run_append (after w e) es fs

pub turns_append : (w : World) (es fs : List (List ℕ)) → turns w (es ++ fs) ≡ turns w es ++ turns (run w es) fs
turns_append w [] fs = refl
turns_append w (e ∷ es) fs = ap (λ (rs : List Turn). turn_of w e ∷ rs) (turns_append (after w e) es fs)

pub run_laws : RunLaws
run_laws =
    record {
      run_none = λ w. refl;
      run_one = λ w event. refl;
      run_append = run_append;
      turns_none = λ w. refl;
      turns_one = λ w event. refl;
      turns_append = turns_append;
    }

pub ran_append : RanAppend
ran_append w w' w'' [] fs [] ss no_events q = q
ran_append w w' w'' [] fs (r ∷ rs) ss none q = elim none [ ]
ran_append w w' w'' (e ∷ es) fs [] ss none q = elim none [ ]
ran_append w w' w'' (e ∷ es) fs (r ∷ rs) ss (next {c} {l} {l'} p more) q = next p (ran_append (world r.core l') w' w'' es fs rs ss more q)
