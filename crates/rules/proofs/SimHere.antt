-- An event of drive d itself in a world, and the same event in that world as the drive sees it.
use Prim.Native.Nat.{ℕ, ◌≤◌}
use mathlib.Core.Path.{◌≡◌, refl, sym, ap, ap₂, subst, ◌∙◌}
use mathlib.Core.Bool.{Bool, true, false, ◌&&◌}
use mathlib.Core.List.{List, []}
use lib.Dec.{eqb}
use borrow.Author.Tests.{eqb-true}
use Rattle.std.specs.Prelude.{Option, None, Some}
use Rattle.basis.specs.Choice.{pick}
use Rattle.rules.specs.declared.drive.Drive.{Drive}
use Rattle.rules.specs.declared.phase.Phase.TheVariants.{Rest}
use Rattle.rules.specs.declared.unit.Port.{Port}
use Rattle.rules.specs.declared.unit.Core.{Core}
use Rattle.rules.specs.declared.event.Act.{Act}
use Rattle.rules.specs.declared.event.What.{What}
use Rattle.rules.specs.declared.event.Event.{Event}
use Rattle.rules.specs.declared.event.Event.TheVariants.{Reset, Named, Own}
use Rattle.rules.specs.declared.answer.Answer.{Answer}
use Rattle.rules.specs.declared.answer.Answer.TheVariants.{Taken, Raised, OutOfStep, Malformed}
use Rattle.rules.specs.Drive.{was_reset}
use Rattle.rules.specs.Unit.{Lent, drive_at, put_drive, tape_at, at_phase, reset_port}
use Rattle.rules.specs.Answer.{row_of}
use Rattle.rules.specs.Refusal.{in_step_at, slot_answer, refusal_in}
use Rattle.rules.specs.Effect.{Seat, seat, Acted}
use Rattle.rules.specs.Slot.{befallen, is_out, phase_after}
use Rattle.rules.specs.Step.{act, staged, staged_in, seat_of, refused, effect_of, settled}
use Rattle.rules.specs.Run.{world}
use Rattle.rules.specs.Reach.{Change, reaches_by}
use Rattle.rules.proofs.Places.{put_there}
use Rattle.rules.proofs.Sound.{Sound, sound_seat}
use Rattle.rules.proofs.StepBy.{Slotted, lets, bars, slotted}
use Rattle.rules.proofs.Sight.{quiet, here_port, seen_by, staging_in, look, seen_here, staging_here, seen_level, here_same, looks_alike, away_alike, here_alike, look_drive, look_tape, look_twice, look_sound}
use Rattle.rules.proofs.Agree
use Rattle.rules.proofs.SimOf.{seen_in, Sim, sim_of, part_staging, part_port, rest_staging, reset_drive}

module _ (c : Core) (l : Lent) (k : Sound c l) (d : ℕ) (d3 : d ≤ 3) where
  abbrev cv : Core
  cv = (look d (world c l)).core

  abbrev lv : Lent
  lv = (look d (world c l)).lent

  kv : Sound cv lv
  kv = look_sound d (world c l) k

  -- ---- refused, RESET, cartridges and counts of drive d

  pub refused_sim : (e : Option Event) (a : Answer) → (row_of a).lines_down ≡ false → Sim d e c cv (refused a c l) (refused a cv lv)
  unfolding pick
  refused_sim e a n =
      sim_of d e c l (refused a c l) (refused a cv lv) (record { is = rw n }) (record { is = rw n }) (sym (look_twice d (world c l) k)) refl refl

  pub reset_sim : Sim d (Some Reset) c cv (effect_of c l (Some Reset)) (effect_of cv lv (Some Reset))
  reset_sim =
      sim_of d (Some Reset) c l (effect_of c l (Some Reset)) (effect_of cv lv (Some Reset)) (record { is = refl }) (record { is = refl })
      (looks_alike d (reset_port c.port) (reset_port cv.port) l.staging lv.staging _ _ _ _
      (ap (λ (o : Bool). seen_by d (record { selected = 0; online = o; phase = Rest; octets = [] })) (sym (seen_level d c.port)))
      (rest_staging d (reset_port c.port) l.staging refl ∙ sym (rest_staging d (reset_port cv.port) lv.staging refl))
      (reset_drive c d ∙ ap was_reset (sym (look_drive d (world c l))) ∙ sym (reset_drive cv d))
      (sym (look_tape d (world c l))))
      refl refl

  named_view : (x : What) → seen_in d (effect_of c l (Some (Named d x))) ≡ seen_in d (effect_of cv lv (Some (Named d x)))
  named_view x = go (eqb c.port.selected d) refl
    where
      after : Port → Port
      after q = at_phase (phase_after x (eqb d q.selected) q.phase) q

      drives : drive_at (put_drive c (after c.port) d (befallen x (drive_at c d))) d ≡ drive_at
          (put_drive cv (after cv.port) d (befallen x (drive_at cv d))) d
      drives =
          put_there d d (befallen x (drive_at c d)) c.drive0 c.drive1 c.drive2 c.drive3 refl
          ∙ ap (befallen x) (sym (look_drive d (world c l)))
          ∙ sym (put_there d d (befallen x (drive_at cv d)) cv.drive0 cv.drive1 cv.drive2 cv.drive3 refl)

      go : (b : Bool) → eqb c.port.selected d ≡ b → seen_in d (effect_of c l (Some (Named d x))) ≡ seen_in d (effect_of cv lv (Some (Named d x)))
      go true e =
          here_alike d (after c.port) (after cv.port) l.staging lv.staging _ _ _ _
          (part_port (is_out x && eqb d c.port.selected) c.port ∙ ap (λ (q : Port). here_port (after q)) (sym (seen_here d c.port e)))
          (part_staging (is_out x && eqb d c.port.selected) c.port.phase _ l.staging k.phase k.whole
          ∙ ap₂ (λ (q : Port) (g : List ℕ). staging_in (after q).phase g) (sym (seen_here d c.port e))
          (sym (staging_here d c.port l.staging e)))
          drives (sym (look_tape d (world c l)))
      go false e =
          away_alike d (after c.port) (after cv.port) l.staging lv.staging _ _ _ _ e (here_same d c.port
          ∙ e) (sym (seen_level d c.port)) drives (sym (look_tape d (world c l)))

  pub named_sim : (x : What) → Sim d (Some (Named d x)) c cv (settled c l (Some (Named d x)) (refusal_in c (Some (Named d x))))
      (settled cv lv (Some (Named d x)) (refusal_in cv (Some (Named d x))))
  unfolding pick
  named_sim x =
      subst (λ (y : Drive). Sim d (Some (Named d x)) c cv (settled c l (Some (Named d x)) (refusal_in c (Some (Named d x))))
      (settled cv lv (Some (Named d x)) (slot_answer y.loaded x)))
      (sym (look_drive d (world c l))) (go _ (slotted (drive_at c d).loaded x))
    where
      go : (a : Answer) → Slotted a → Sim d (Some (Named d x)) c cv (settled c l (Some (Named d x)) a) (settled cv lv (Some (Named d x)) a)
      go a lets =
          sim_of d (Some (Named d x)) c l (effect_of c l (Some (Named d x))) (effect_of cv lv (Some (Named d x))) (record { is = refl }) (record { is = refl })
          (named_view x) refl refl
      go a (bars stops calm) = rw (stops) (refused_sim (Some (Named d x)) a calm)

  -- ---- an act of drive d itself

  module _ (e : eqb c.port.selected d ≡ true) where
    here : c.port.selected ≡ d
    here = eqb-true c.port.selected d e

    -- what drive d sees of its own seat
    seat_look : seat_of cv lv ≡ Agree.seen (seat_of c l)
    seat_look =
        ap (λ (q : Port). seat q (drive_at cv q.selected) (tape_at lv q.selected)) (seen_here d c.port e)
        ∙ ap₂ (λ (x : Drive) (t : List ℕ). seat (here_port c.port) x t)
        (put_there c.port.selected d (drive_at c d) quiet quiet quiet quiet (sym here) ∙ ap (drive_at c) (sym here))
        (put_there c.port.selected d (tape_at l d) [] [] [] [] (sym here) ∙ ap (tape_at l) (sym here))

    step_look : (a : Act) → in_step_at cv.port.phase (drive_at cv cv.port.selected) a ≡ in_step_at c.port.phase
        (drive_at c c.port.selected) a
    step_look a = ap (λ (s : Seat). in_step_at s.port.phase s.drive a) seat_look

    -- the act as it is done there
    act_look : (a : Act) → act (staged_in cv a lv).staging (seat_of cv lv) a ≡ act
        (staged c.port.phase a (staging_in c.port.phase l.staging)) (Agree.seen (seat_of c l)) a
    act_look a =
        ap₂ (λ (g : List ℕ) (s : Seat). act g s a)
        (ap₂ (λ (q : Port) (g : List ℕ). staged q.phase a g) (seen_here d c.port e) (staging_here d c.port l.staging e)) seat_look

    own_here : (a : Act) → in_step_at c.port.phase (drive_at c c.port.selected) a ≡ true
        → Sim d (Some (Own a)) c cv (effect_of c l (Some (Own a))) (effect_of cv lv (Some (Own a)))
    own_here a h =
        sim_of d (Some (Own a)) c l (effect_of c l (Some (Own a))) (effect_of cv lv (Some (Own a))) (record { is = refl }) (record { is = refl }) view
        (ap (λ (r : Bool). pick r Raised Taken) (r.raised ∙ ap (λ (x : Acted). x.moved.raised) m'))
        (r.byte ∙ ap (λ (x : Acted). x.moved.byte) m')
      where
        m : Acted
        m = act (staged_in c a l).staging (seat_of c l) a

        n : Acted
        n = act (staged c.port.phase a (staging_in c.port.phase l.staging)) (Agree.seen (seat_of c l)) a

        r : Agree.Agree (staged_in c a l).staging (staged c.port.phase a (staging_in c.port.phase l.staging)) m n
        r = Agree.act_agree (seat_of c l) (sound_seat c l k) l.staging k.whole a h

        m' : n ≡ act (staged_in cv a lv).staging (seat_of cv lv) a
        m' = sym (act_look a)

        there : cv.port.selected ≡ d
        there = ap (λ (q : Port). q.selected) (seen_here d c.port e) ∙ here

        view : seen_in d (effect_of c l (Some (Own a))) ≡ seen_in d (effect_of cv lv (Some (Own a)))
        view =
            here_alike d _ _ _ _ _ _ _ _ (r.port ∙ ap (λ (x : Acted). here_port x.moved.port) m')
            (r.block
            ∙ ap₂ (λ (x : Acted) (g : List ℕ). staging_in x.moved.port.phase g) m'
            (ap₂ (λ (q : Port) (g : List ℕ). staged q.phase a g) (sym (seen_here d c.port e)) (sym (staging_here d c.port l.staging e))))
            (put_there d c.port.selected m.moved.drive c.drive0 c.drive1 c.drive2 c.drive3 here
            ∙ (r.drive ∙ ap (λ (x : Acted). x.moved.drive) m')
            ∙ sym (put_there d cv.port.selected (act (staged_in cv a lv).staging (seat_of cv lv) a).moved.drive cv.drive0 cv.drive1
            cv.drive2 cv.drive3 there))
            (put_there d c.port.selected m.tape l.tape0 l.tape1 l.tape2 l.tape3 here
            ∙ (r.tape ∙ ap (λ (x : Acted). x.tape) m')
            ∙ sym (put_there d cv.port.selected (act (staged_in cv a lv).staging (seat_of cv lv) a).tape lv.tape0 lv.tape1 lv.tape2
            lv.tape3 there))

    -- every event while d is selected, but 07 to 0A for another drive
    pub sim_here : (r : Change) (v : Option Event) (x : Answer) → reaches_by r d c.port.selected c.port.online x v ≡ true
        → Sim d v c cv (settled c l v (refusal_in c v)) (settled cv lv v (refusal_in cv v))
    unfolding pick
    sim_here r None x h = refused_sim None Malformed refl
    sim_here r (Some Reset) x h = reset_sim
    sim_here r (Some (Named i y)) x h =
        subst (λ (j : ℕ). Sim d (Some (Named j y)) c cv (settled c l (Some (Named j y)) (refusal_in c (Some (Named j y))))
        (settled cv lv (Some (Named j y)) (refusal_in cv (Some (Named j y))))) (sym (eqb-true i d h)) (named_sim y)
    sim_here r (Some (Own a)) x h =
        subst (λ (b : Bool). Sim d (Some (Own a)) c cv (settled c l (Some (Own a)) (refusal_in c (Some (Own a)))) (settled cv lv (Some (Own a)) (pick b Taken OutOfStep)))
        (sym (step_look a))
        (go (in_step_at c.port.phase (drive_at c c.port.selected) a) refl)
      where
        go : (b : Bool) → in_step_at c.port.phase (drive_at c c.port.selected) a ≡ b
            → Sim d (Some (Own a)) c cv (settled c l (Some (Own a)) (pick b Taken OutOfStep)) (settled cv lv (Some (Own a)) (pick b Taken OutOfStep))
        go true q = own_here a q
        go false q = refused_sim (Some (Own a)) OutOfStep refl
