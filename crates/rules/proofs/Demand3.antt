-- Demand 3: a run, as drive d sees it, is a run of the events that reach it.
use Prim.Native.Nat.{ℕ, ◌≤◌}
use mathlib.Core.Path.{◌≡◌, refl, sym, ap, ap₂, subst, ◌∙◌}
use mathlib.Core.Bool.{Bool, true, false, ◌&&◌, ◌||◌, true≢false, false≢true}
use mathlib.Core.List.{List, [], ◌∷◌, ◌++◌}
use Rattle.std.specs.Prelude.{Option, None, Some}
use lib.Dec.{eqb}
use lib.ListN.{take, length-replicate}
use Rattle.basis.specs.Choice.{pick}
use Rattle.rules.specs.declared.phase.Phase.{Phase}
use Rattle.rules.specs.declared.unit.Port.{Port}
use Rattle.rules.specs.declared.answer.Answer.{Answer}
use Rattle.rules.specs.declared.event.Act.{Act}
use Rattle.rules.specs.declared.event.Act.TheVariants.{Command, Give, Take, Online, Offline}
use Rattle.rules.specs.declared.event.Event.{Event}
use Rattle.rules.specs.declared.event.Event.TheVariants.{Reset, Named, Own}
use Rattle.rules.specs.Unit.{drive_at, tape_at, fresh_core}
use Rattle.rules.specs.Event.{event_of}
use Rattle.rules.specs.Refusal.{short, refusal_in}
use Rattle.rules.specs.Phase.{given_before}
use Rattle.rules.specs.Step.{Stepped, settled, step_of}
use Rattle.rules.specs.Run.{World, after, run, turn_of, fresh_world}
use Rattle.rules.specs.Reach.{Change, real_change, any_level, changes, selects, answered, accepted, reaches_by, reaches, Shown, Gave, gave_by, gave, only_if, reached, given}
use Rattle.rules.specs.Promises.Demand3.{Pending, octets_in, pending, Alike, SameFate, Demand3For, Demand3, Demand3AnyLevel, OthersDoNotMatter}
use Rattle.rules.proofs.Sound.{Sound, sound}
use Rattle.rules.proofs.Codes.{named_real}
use Rattle.rules.proofs.StepBy.{step_is}
use Rattle.rules.proofs.Keeps.{fresh_is_possible, step_stays_sound}
use Rattle.rules.proofs.Sight.{look, seen_here, staging_here, here_same, look_drive, look_tape, look_sound, place_below, octets_twice}
use Rattle.rules.proofs.Agree.{given_seen}
use Rattle.rules.proofs.Sim
use Rattle.rules.proofs.SimOf

-- ---- one event

module _ (d : ℕ) (d3 : d ≤ 3) (w : World) (k : Sound w.core w.lent) (e : List ℕ) where
  -- it reaches d: to d it is as in the world that d sees
  follow : (r : Change) → reaches r d w e ≡ true → (look d (after w e) ≡ look d (after (look d w) e)) × (gave d w e ≡ gave d (look d w) e)
  unfolding reaches after gave turn_of
  follow r h =
      subst (λ (x : Stepped). Pair x (step_of (look d w).core (look d w).lent e)) (sym (step_is w.core w.lent e k))
      (subst (λ (y : Stepped). Pair s y) (sym (step_is (look d w).core (look d w).lent e (look_sound d w k)))
      (pair (Sim.sim w.core w.lent k d d3 r (event_of e)
      (subst (λ (x : Stepped). reaches_by r d w.core.port.selected w.core.port.online x.turn.answer (event_of e) ≡ true)
      (step_is w.core w.lent e k) h))))
    where
      s : Stepped
      s = settled w.core w.lent (event_of e) (refusal_in w.core (event_of e))

      s' : Stepped
      s' = settled (look d w).core (look d w).lent (event_of e) (refusal_in (look d w).core (event_of e))

      Pair : Stepped → Stepped → Type 0
      Pair x y =
          (SimOf.seen_in d x ≡ SimOf.seen_in d y)
          × (gave_by d w.core.port.selected (event_of e) x.turn ≡ gave_by d (look d w).core.port.selected (event_of e) y.turn)

      pair : SimOf.Sim d (event_of e) w.core (look d w).core s s' → Pair s s'
      pair m = (m.view, ap₂ (λ (x : Option Answer) (y : Option Shown). record { answer = x; shown = y }) m.answer m.shown)

  -- it does not: d sees the same world after it
  skip : reaches real_change d w e ≡ false → look d (after w e) ≡ look d w
  unfolding reaches after turn_of
  skip h =
      rw (step_is w.core w.lent e k) (Sim.still w.core w.lent k d d3 (event_of e) (named_real e)
      (subst (λ (x : Stepped). reaches_by real_change d w.core.port.selected w.core.port.online x.turn.answer (event_of e) ≡ false)
      (step_is w.core w.lent e k) h))

-- ---- a run

-- a run of the events that reach d, each in the world as d sees it
sight_run : ℕ → World → List (List ℕ) → World
sight_run d v [] = v
sight_run d v (e ∷ es) = sight_run d (look d (after v e)) es

sight_gave : ℕ → World → List (List ℕ) → List Gave
sight_gave d v [] = []
sight_gave d v (e ∷ es) = gave d v e ∷ sight_gave d (look d (after v e)) es

-- a real change counts in either reading
real_counts : (r : Change) (a : Act) (level : Bool) → changes real_change a level ≡ true → changes r a level ≡ true
real_counts real_change a level h = h
real_counts any_level (Command c) level h = h
real_counts any_level (Give b) level h = h
real_counts any_level Take level h = h
real_counts any_level Online level h = refl
real_counts any_level Offline level h = refl

fewer : (z x p q y : Bool) → (q ≡ true → p ≡ true) → (z || ((x && p) || y)) ≡ false → (z || ((x && q) || y)) ≡ false
fewer true x p q y f h = h
fewer false false p q y f h = h
fewer false true true q y f h = absurd (true≢false h)
fewer false true false true y f h = absurd (false≢true (f refl))
fewer false true false false y f h = h

-- an event that the stronger reading leaves out is left out by the other, or changes nothing that d sees
strong : (r : Change) (d : ℕ) (w : World) (e : List ℕ) → reaches r d w e ≡ false → reaches real_change d w e ≡ false
unfolding reaches
strong r d w e h = go (event_of e) h
  where
    x : Answer
    x = (turn_of w e).answer

    go : (v : Option Event) → reaches_by r d w.core.port.selected w.core.port.online (turn_of w e).answer v ≡ false
        → reaches_by real_change d w.core.port.selected w.core.port.online (turn_of w e).answer v ≡ false
    go None h = h
    go (Some Reset) h = h
    go (Some (Named i x)) h = h
    go (Some (Own a)) h =
        fewer (eqb w.core.port.selected d) (answered x) (changes r a w.core.port.online) (changes real_change a w.core.port.online)
        (accepted x && selects d a) (real_counts r a w.core.port.online) h

record Follows (r : Change) (d : ℕ) (w : World) (es : List (List ℕ)) : Type 0 where
  ends : look d (run w es) ≡ sight_run d (look d w) (reached r d w es)
  tells : given r d w es ≡ sight_gave d (look d w) (reached r d w es)

after_sound : (w : World) (e : List ℕ) → Sound w.core w.lent → Sound (after w e).core (after w e).lent
unfolding after
after_sound w e k = step_stays_sound w.core w.lent e k

follows : (r : Change) (d : ℕ) → d ≤ 3 → (es : List (List ℕ)) (w : World) → Sound w.core w.lent → Follows r d w es
unfolding sight_run sight_gave
follows r d d3 [] w k = record { ends = refl; tells = refl }
follows r d d3 (e ∷ es) w k =
    let x = go (reaches r d w e) refl (follows r d d3 es (after w e) (after_sound w e k)) in
    record { ends = x.0; tells = x.1 }
  where
    rest : List (List ℕ)
    rest = reached r d (after w e) es

    go : (b : Bool) → reaches r d w e ≡ b → Follows r d (after w e) es
        → (look d (run (after w e) es) ≡ sight_run d (look d w) (only_if b e rest))
        × (only_if b (gave d w e) (given r d (after w e) es) ≡ sight_gave d (look d w) (only_if b e rest))
    go true h ih =
        let f = follow d d3 w k e r h in (
          ih.ends ∙ ap (λ (v : World). sight_run d v rest) f.0,
          ap₂ (λ (x : Gave) (y : List Gave). x ∷ y) f.1 (ih.tells
              ∙ ap (λ (v : World). sight_gave d v rest) f.0),
        )
    go false h ih =
        let f = skip d d3 w k e (strong r d w e h) in
        (ih.ends ∙ ap (λ (v : World). sight_run d v rest) f, ih.tells ∙ ap (λ (v : World). sight_gave d v rest) f)

-- ---- two runs

-- what d sees fixes its record, its tape and what it still has to give
pending_look : (d : ℕ) (w : World) → Sound w.core w.lent → pending d w ≡ pending d (look d w)
unfolding pick
pending_look d w k = rw (here_same d w.core.port) (go (eqb w.core.port.selected d) refl)
  where
    held : World → Pending
    held v =
        record {
          phase = v.core.port.phase;
          part = take (given_before v.core.port.phase) v.lent.staging;
          octets = octets_in
              v.core.port.phase v.core.port.octets;
        }

    of : Phase → List ℕ → List ℕ → Pending
    of ph g o = record { phase = ph; part = take (given_before ph) g; octets = octets_in ph o }

    go : (b : Bool) → eqb w.core.port.selected d ≡ b → pick b (Some (held w)) None ≡ pick b (Some (held (look d w))) None
    go true e =
        let ph = w.core.port.phase in
        ap Some
        (ap₂ (λ (g : List ℕ) (o : List ℕ). record { phase = ph; part = g; octets = o })
        (given_seen ph w.lent.staging (place_below ph _ k.phase) k.whole) (sym (octets_twice ph w.core.port.octets))
        ∙ ap₂ (λ (q : Port) (g : List ℕ). of q.phase g q.octets) (sym (seen_here d w.core.port e))
        (sym (staging_here d w.core.port w.lent.staging e)))
    go false e = refl

alike : (d : ℕ) (w w' : World) → Sound w.core w.lent → Sound w'.core w'.lent → look d w ≡ look d w' → Alike d w w'
alike d w w' k k' e =
    record {
      drive = sym (look_drive d w) ∙ ap (λ (v : World). drive_at v.core d) e ∙ look_drive d w';
      tape = sym (look_tape d w) ∙ ap (λ (v : World). tape_at v.lent d) e ∙ look_tape d w';
      still = pending_look d w k ∙ ap (pending d) e ∙ sym (pending_look d w' k');
    }

run_sound : (es : List (List ℕ)) (w : World) → Sound w.core w.lent → Sound (run w es).core (run w es).lent
run_sound [] w k = k
run_sound (e ∷ es) w k = run_sound es (after w e) (after_sound w e k)

-- the general form: any two sound worlds that d sees alike
same_fate : (r : Change) (d : ℕ) → d ≤ 3 → (w w' : World) → Sound w.core w.lent → Sound w'.core w'.lent → look d w ≡ look d w'
    → (es es' : List (List ℕ))
    → reached r d w es ≡ reached r d w' es' → SameFate r d w w' es es'
same_fate r d d3 w w' k k' e es es' q =
    let f = follows r d d3 es w k in
    let f' = follows r d d3 es' w' k' in
    record {
      ends =
          alike d (run w es) (run w' es') (run_sound es w k) (run_sound es' w' k') (f.ends
          ∙ ap₂ (λ (v : World) (l : List (List ℕ)). sight_run d v l) e q ∙ sym f'.ends);
      gives = f.tells ∙ ap₂ (λ (v : World) (l : List (List ℕ)). sight_gave d v l) e q ∙ sym f'.tells;
    }

fresh_sound : (a b c e : List ℕ) → short (fresh_world a b c e).lent ≡ true → Sound (fresh_world a b c e).core (fresh_world a b c e).lent
fresh_sound a b c e h = sound fresh_core (fresh_world a b c e).lent fresh_is_possible h (length-replicate {A = ℕ} 512 0)

fresh_look : (d : ℕ) → d ≤ 3 → (a b c e a' b' c' e' : List ℕ) → tape_at (fresh_world a b c e).lent d ≡ tape_at (fresh_world a' b' c' e').lent d
    → look d (fresh_world a b c e) ≡ look d (fresh_world a' b' c' e')
fresh_look d d3 a b c e a' b' c' e' q = rw q

demand_3_for : (r : Change) → Demand3For r
demand_3_for r d d3 a b c e a' b' c' e' h h' q es es' s =
    same_fate r d d3 (fresh_world a b c e) (fresh_world a' b' c' e') (fresh_sound a b c e h) (fresh_sound a' b' c' e' h')
    (fresh_look d d3 a b c e a' b' c' e' q) es es' s

pub demand_3 : Demand3
demand_3 = demand_3_for real_change

pub demand_3_any_level : Demand3AnyLevel
demand_3_any_level = demand_3_for any_level

pub others_do_not_matter : OthersDoNotMatter
others_do_not_matter d d3 a b c e h before between after s =
    demand_3 d d3 a b c e a b c e h h refl (before ++ (between ++ after)) (before ++ after) s
