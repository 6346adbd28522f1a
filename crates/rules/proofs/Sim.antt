-- One event in a world, and the same event in that world as drive d sees it: of the drive itself, of another that reaches it, and of one that does not.
use Prim.Native.Nat.{ℕ, ◌≤◌}
use mathlib.Core.Path.{◌≡◌, refl, sym, ap, ap₂, subst, ◌∙◌}
use mathlib.Core.Bool.{Bool, true, false, ◌&&◌, ◌||◌, true≢false, false≢true}
use mathlib.Core.List.{List, []}
use Rattle.std.specs.Prelude.{Option, None, Some}
use lib.Dec.{eqb}
use borrow.Author.Tests.{eqb-true, eqb-false}
use Rattle.basis.specs.Choice.{pick}
use Rattle.rules.specs.declared.drive.Drive.{Drive}
use Rattle.rules.specs.declared.phase.Phase.{Phase}
use Rattle.rules.specs.declared.unit.Port.{Port}
use Rattle.rules.specs.declared.unit.Core.{Core}
use Rattle.rules.specs.declared.event.Act.{Act}
use Rattle.rules.specs.declared.event.Act.TheVariants.{Command, Give, Take, Online, Offline}
use Rattle.rules.specs.declared.event.What.{What}
use Rattle.rules.specs.declared.event.Event.{Event}
use Rattle.rules.specs.declared.event.Event.TheVariants.{Reset, Named, Own}
use Rattle.rules.specs.declared.order.Order.{Order}
use Rattle.rules.specs.declared.order.Order.TheVariants.{Select}
use Rattle.rules.specs.declared.answer.Answer.{Answer}
use Rattle.rules.specs.declared.answer.Answer.TheVariants.{Taken, Raised, OutOfStep}
use Rattle.rules.specs.Drive.{chosen}
use Rattle.rules.specs.Unit.{Lent, drive_at, put_drive, tape_at, put_staging, at_phase, at_drive}
use Rattle.rules.specs.Refusal.{in_step_at, refusal_in}
use Rattle.rules.specs.Order.{order_of, illegal, fault_by}
use Rattle.rules.specs.Effect.{Seat, seat, Acted, leaves, fault_of, commanded}
use Rattle.rules.specs.Slot.{befallen, is_out, phase_after}
use Rattle.rules.specs.Step.{Stepped, act, staged_in, seat_of, landed, effect_of, settled}
use Rattle.rules.specs.Run.{world}
use Rattle.rules.specs.Reach.{Change, real_change, is_select_of, answered, accepted, reaches_by, is_level}
use Rattle.basis.proofs.Choosing.{both, not_not}
use Rattle.rules.proofs.Places.{put_away}
use Rattle.rules.proofs.Sound.{Sound}
use Rattle.rules.proofs.StepBy.{Slotted, lets, bars, slotted, own_does}
use Rattle.rules.proofs.Sight.{quiet, elsewhere, here_port, away_port, staging_in, look, elsewhere_not, elsewhere_real, seen_away, here_same, away_alike, here_alike, look_drive, look_tape, look_sound}
use Rattle.rules.proofs.Ports
use Rattle.rules.proofs.SimOf.{seen_in, shown_in, answer_in, Sim, sim_of, one_same, at_rest_only, in_rest, and_none, second, no_choice, no_change, answered_done, reason, not_by, rest_reach, taken_step}
use Rattle.rules.proofs.SimHere.{reset_sim, named_sim, sim_here}

module _ (c : Core) (l : Lent) (k : Sound c l) (d : ℕ) (d3 : d ≤ 3) where
  abbrev cv : Core
  cv = (look d (world c l)).core

  abbrev lv : Lent
  lv = (look d (world c l)).lent

  kv : Sound cv lv
  kv = look_sound d (world c l) k

  -- ---- acts of another drive that reach d: a change of the level, and a SELECT of d

  module _ (f : eqb c.port.selected d ≡ false) where
    far : c.port.selected ≡ d → ⊥
    far = eqb-false c.port.selected d f

    far' : cv.port.selected ≡ d → ⊥
    far' = eqb-false cv.port.selected d (here_same d c.port ∙ f)

    -- seen from d, a quiet drive is selected
    seat_away : seat_of cv lv ≡ seat (away_port d c.port.online) quiet []
    seat_away =
        ap (λ (q : Port). seat q (drive_at cv q.selected) (tape_at lv q.selected)) (seen_away d c.port f)
        ∙ ap₂ (λ (x : Drive) (t : List ℕ). seat (away_port d c.port.online) x t)
        (put_away (elsewhere d) d (drive_at c d) quiet quiet quiet quiet (elsewhere_real d) d3 other ∙ one_same (elsewhere d) quiet)
        (put_away (elsewhere d) d (tape_at l d) [] [] [] [] (elsewhere_real d) d3 other ∙ one_same {A = List ℕ} (elsewhere d) [])
      where
        other : d ≡ elsewhere d → ⊥
        other q = eqb-false (elsewhere d) d (elsewhere_not d) (sym q)

    ready : (a : Act) → at_rest_only a ≡ true → refusal_in cv (Some (Own a)) ≡ Taken
    unfolding pick
    ready a h = rw (ap (λ (s : Seat). in_step_at s.port.phase s.drive a) seat_away, in_rest a h)

    -- the look is away in both, at the same level
    away_view : (g g' : List ℕ) (m m' : Acted) → eqb m.moved.port.selected d ≡ false → eqb m'.moved.port.selected d ≡ false
        → m.moved.port.online ≡ m'.moved.port.online
        → seen_in d (landed c (put_staging l g) m) ≡ seen_in d (landed cv (put_staging lv g') m')
    away_view g g' m m' x x' o =
        away_alike d m.moved.port m'.moved.port g g' _ _ _ _ x x' o
        (put_away d c.port.selected m.moved.drive c.drive0 c.drive1 c.drive2 c.drive3 d3 k.sel far
        ∙ sym (look_drive d (world c l))
        ∙ sym (put_away d cv.port.selected m'.moved.drive cv.drive0 cv.drive1 cv.drive2 cv.drive3 d3 kv.sel far'))
        (put_away d c.port.selected m.tape l.tape0 l.tape1 l.tape2 l.tape3 d3 k.sel far
        ∙ sym (look_tape d (world c l))
        ∙ sym (put_away d cv.port.selected m'.tape lv.tape0 lv.tape1 lv.tape2 lv.tape3 d3 kv.sel far'))

    level_sim : (a : Act) → is_level a ≡ true → (o : Bool) (m m' : Acted)
        → (m.moved.port.selected ≡ c.port.selected) × (m.moved.port.online ≡ o) → (m'.moved.port.selected ≡ cv.port.selected)
        × (m'.moved.port.online ≡ o)
        → Sim d (Some (Own a)) c cv (landed c (staged_in c a l) m) (landed cv (staged_in cv a lv) m')
    unfolding pick
    level_sim a h o m m' (p, q) (p', q') =
        let x : eqb m.moved.port.selected d ≡ false = rw p f in
        let x' : eqb m'.moved.port.selected d ≡ false = rw p' (here_same d c.port ∙ f) in
        record {
          view = away_view _ _ m m' x x' (q ∙ sym q');
          answer = untold c.port.selected s f ∙ sym (untold cv.port.selected s' (here_same d c.port ∙ f));
          shown = unshown s x ∙ sym (unshown s' x');
        }
      where
        s : Stepped
        s = landed c (staged_in c a l) m

        s' : Stepped
        s' = landed cv (staged_in cv a lv) m'

        untold : (n : ℕ) (s : Stepped) → eqb n d ≡ false → answer_in d n (Some (Own a)) s ≡ None
        untold n s z = rw (z, h)

        unshown : (s : Stepped) → eqb s.turn.core.port.selected d ≡ false → shown_in d s ≡ None
        unshown s z = rw z

    -- the act of the quiet drive
    select_quiet : (c0 : ℕ) → order_of c0 ≡ Some (Select d) → act (staged_in cv (Command c0) lv).staging (seat_of cv lv) (Command c0) ≡ leaves false
        (at_drive d (away_port d c.port.online)) quiet []
    unfolding fault_of fault_by illegal pick
    select_quiet c0 q =
        ap (λ (s : Seat). commanded s (order_of c0) (fault_of s (order_of c0))) seat_away
        ∙ ap (λ (o : Option Order). commanded (seat (away_port d c.port.online) quiet []) o (fault_of (seat (away_port d c.port.online) quiet []) o)) q

    select_sim : (c0 : ℕ) → order_of c0 ≡ Some (Select d) → (m : Acted) → m ≡ leaves false (at_drive d c.port) (chosen (drive_at c c.port.selected))
        (tape_at l c.port.selected)
        → Sim d (Some (Own (Command c0))) c cv (landed c (staged_in c (Command c0) l) m) (effect_of cv lv (Some (Own (Command c0))))
    select_sim c0 q m z =
        subst (λ (x : Acted). Sim d (Some (Own (Command c0))) c cv (landed c (staged_in c (Command c0) l) x) (effect_of cv lv (Some (Own (Command c0))))) (sym z)
        (subst (λ (y : Acted). Sim d (Some (Own (Command c0))) c cv (landed c (staged_in c (Command c0) l) real)
        (landed cv (staged_in cv (Command c0) lv) y)) (sym (select_quiet c0 q))
        (sim_of d (Some (Own (Command c0))) c l (landed c (staged_in c (Command c0) l) real) (landed cv (staged_in cv (Command c0) lv) seen)
        (record { is = refl }) (record { is = refl }) view refl refl))
      where
        real : Acted
        real = leaves false (at_drive d c.port) (chosen (drive_at c c.port.selected)) (tape_at l c.port.selected)

        seen : Acted
        seen = leaves false (at_drive d (away_port d c.port.online)) quiet []

        view : seen_in d (landed c (staged_in c (Command c0) l) real) ≡ seen_in d (landed cv (staged_in cv (Command c0) lv) seen)
        view =
            here_alike d (at_drive d c.port) (at_drive d (away_port d c.port.online)) l.staging lv.staging _ _ _ _ refl refl
            (put_away d c.port.selected real.moved.drive c.drive0 c.drive1 c.drive2 c.drive3 d3 k.sel far
            ∙ sym (look_drive d (world c l))
            ∙ sym (put_away d cv.port.selected quiet cv.drive0 cv.drive1 cv.drive2 cv.drive3 d3 kv.sel far'))
            (put_away d c.port.selected real.tape l.tape0 l.tape1 l.tape2 l.tape3 d3 k.sel far
            ∙ sym (look_tape d (world c l))
            ∙ sym (put_away {A = List ℕ} d cv.port.selected [] lv.tape0 lv.tape1 lv.tape2 lv.tape3 d3 kv.sel far'))

    -- an act of the selected drive that reaches d
    own_away : (r : Change) (a : Act) → in_step_at c.port.phase (drive_at c c.port.selected) a ≡ true
        → reason r d c.port.online a (effect_of c l (Some (Own a))).turn.answer ≡ true
        → Sim d (Some (Own a)) c cv (effect_of c l (Some (Own a))) (effect_of cv lv (Some (Own a)))
    own_away r (Command c0) q h = by_port (Ports.commanded_ported (seat_of c l) (order_of c0) (fault_of (seat_of c l) (order_of c0)))
      where
        m : Acted
        m = commanded (seat_of c l) (order_of c0) (fault_of (seat_of c l) (order_of c0))

        chose : (accepted (pick m.moved.raised Raised Taken) && is_select_of d (order_of c0)) ≡ true
        chose = second (answered (pick m.moved.raised Raised Taken)) _ h

        by_port : Ports.Ported (seat_of c l) (order_of c0) m → Sim d (Some (Own (Command c0))) c cv (landed c (staged_in c (Command c0) l) m)
            (effect_of cv lv (Some (Own (Command c0))))
        by_port (Ports.kept p o n) = absurd (false≢true (sym (n d) ∙ chose))
        by_port (Ports.turned j p z) =
            let i : j ≡ d = eqb-true j d (rw p at (both (accepted (pick m.moved.raised Raised Taken)) (is_select_of d (order_of c0)) chose).1) in
            select_sim c0 (p ∙ ap (λ (n : ℕ). Some (Select n)) i) m (z
            ∙ ap (λ (n : ℕ). leaves false (at_drive n c.port) (chosen (drive_at c c.port.selected)) (tape_at l c.port.selected)) i)
    own_away r (Give b) q h = absurd (not_by r d c.port.online (Give b) refl (effect_of c l (Some (Own (Give b)))).turn.answer h)
    own_away r Take q h = absurd (not_by r d c.port.online Take refl (effect_of c l (Some (Own Take))).turn.answer h)
    own_away r Online q h =
        level_sim Online refl true _ _ (Ports.online_ported _ (seat_of c l) _ (own_does c l Online k (taken_step c Online q)))
        (Ports.online_ported _ (seat_of cv lv) _ (own_does cv lv Online kv (ready Online refl)))
    own_away r Offline q h =
        level_sim Offline refl false _ _ (Ports.offline_ported _ (seat_of c l) _ (own_does c l Offline k (taken_step c Offline q)))
        (Ports.offline_ported _ (seat_of cv lv) _ (own_does cv lv Offline kv (ready Offline refl)))

    -- RESET, 07 to 0A that name d, and the acts above
    pub sim_away : (r : Change) (v : Option Event) → reaches_by r d c.port.selected c.port.online (settled c l v (refusal_in c v)).turn.answer
        v ≡ true
        → Sim d v c cv (settled c l v (refusal_in c v)) (settled cv lv v (refusal_in cv v))
    unfolding pick
    sim_away r None h = absurd (false≢true (sym f ∙ h))
    sim_away r (Some Reset) h = reset_sim c l k d d3
    sim_away r (Some (Named i y)) h =
        subst (λ (j : ℕ). Sim d (Some (Named j y)) c cv (settled c l (Some (Named j y)) (refusal_in c (Some (Named j y))))
        (settled cv lv (Some (Named j y)) (refusal_in cv (Some (Named j y))))) (sym (eqb-true i d h)) (named_sim c l k d d3 y)
    sim_away r (Some (Own a)) h = go (in_step_at c.port.phase (drive_at c c.port.selected) a) refl (rw f at h)
      where
        go : (b : Bool) → in_step_at c.port.phase (drive_at c c.port.selected) a ≡ b
            → reason r d c.port.online a (settled c l (Some (Own a)) (pick b Taken OutOfStep)).turn.answer ≡ true
            → Sim d (Some (Own a)) c cv (settled c l (Some (Own a)) (pick b Taken OutOfStep)) (settled cv lv (Some (Own a)) (refusal_in cv (Some (Own a))))
        go true q h =
            subst (λ (x : Answer). Sim d (Some (Own a)) c cv (effect_of c l (Some (Own a))) (settled cv lv (Some (Own a)) x))
            (sym (ready a (rest_reach r d c.port.online a (effect_of c l (Some (Own a))).turn.answer h))) (own_away r a q h)
        go false q h = absurd (false≢true h)

    -- ---- an act of another drive that does not reach d leaves what d sees

    still_view : (g : List ℕ) (m : Acted) → eqb m.moved.port.selected d ≡ false → m.moved.port.online ≡ c.port.online
        → seen_in d (landed c (put_staging l g) m) ≡ look d (world c l)
    still_view g m x o =
        away_alike d m.moved.port c.port g l.staging _ _ _ _ x f o
        (put_away d c.port.selected m.moved.drive c.drive0 c.drive1 c.drive2 c.drive3 d3 k.sel far)
        (put_away d c.port.selected m.tape l.tape0 l.tape1 l.tape2 l.tape3 d3 k.sel far)

    own_still : (a : Act) → in_step_at c.port.phase (drive_at c c.port.selected) a ≡ true
        → reason real_change d c.port.online a (effect_of c l (Some (Own a))).turn.answer ≡ false
        → seen_in d (effect_of c l (Some (Own a))) ≡ look d (world c l)
    unfolding pick
    own_still (Command c0) q h = by_port (Ports.commanded_ported (seat_of c l) (order_of c0) (fault_of (seat_of c l) (order_of c0)))
      where
        m : Acted
        m = commanded (seat_of c l) (order_of c0) (fault_of (seat_of c l) (order_of c0))

        by_port : Ports.Ported (seat_of c l) (order_of c0) m → seen_in d (landed c (staged_in c (Command c0) l) m) ≡ look d (world c l)
        by_port (Ports.kept p o n) = still_view _ m (rw p f) o
        by_port (Ports.turned j p z) =
            still_view _ m (ap (λ (x : Acted). eqb x.moved.port.selected d) z ∙ unchosen j p z) (ap (λ (x : Acted). x.moved.port.online) z)
          where
            unchosen : (j : ℕ) → order_of c0 ≡ Some (Select j) → m ≡ leaves false (at_drive j c.port) (chosen (drive_at c c.port.selected))
                (tape_at l c.port.selected) → eqb j d ≡ false
            unchosen j p z =
                rw p at (no_choice (answered (pick m.moved.raised Raised Taken)) _ _ h
                (ap (λ (x : Acted). accepted (pick x.moved.raised Raised Taken)) z))
    own_still (Give b) q h =
        let p = Ports.give_ported _ (seat_of c l) b _ (own_does c l (Give b) k (taken_step c (Give b) q)) in
        still_view _ (act (staged_in c (Give b) l).staging (seat_of c l) (Give b)) (rw p.0 f) p.1
    own_still Take q h =
        let p = Ports.take_ported _ (seat_of c l) _ (own_does c l Take k (taken_step c Take q)) in
        still_view _ (act (staged_in c Take l).staging (seat_of c l) Take) (rw p.0 f) p.1
    own_still Online q h =
        let z : c.port.online ≡ true = not_not c.port.online
        (no_change (answered (effect_of c l (Some (Own Online))).turn.answer) _ _
        (answered_done (act (staged_in c Online l).staging (seat_of c l) Online).moved.raised) h) in
        let p = Ports.online_ported _ (seat_of c l) _ (own_does c l Online k (taken_step c Online q)) in
        still_view _ (act (staged_in c Online l).staging (seat_of c l) Online) (rw p.0 f) (p.1 ∙ sym z)
    own_still Offline q h =
        let z : c.port.online ≡ false = no_change (answered (effect_of c l (Some (Own Offline))).turn.answer) _ _
        (answered_done (act (staged_in c Offline l).staging (seat_of c l) Offline).moved.raised) h in
        let p = Ports.offline_ported _ (seat_of c l) _ (own_does c l Offline k (taken_step c Offline q)) in
        still_view _ (act (staged_in c Offline l).staging (seat_of c l) Offline) (rw p.0 f) (p.1 ∙ sym z)

  -- ---- an event that does not reach d leaves what d sees

  named_still : (i : ℕ) (x : What) → i ≤ 3 → eqb i d ≡ false → seen_in d (effect_of c l (Some (Named i x))) ≡ look d (world c l)
  unfolding pick
  named_still i x r n = go (eqb c.port.selected d) refl
    where
      p : Port
      p = at_phase (phase_after x (eqb i c.port.selected) c.port.phase) c.port

      drives : drive_at (put_drive c p i (befallen x (drive_at c i))) d ≡ drive_at c d
      drives = put_away d i (befallen x (drive_at c i)) c.drive0 c.drive1 c.drive2 c.drive3 d3 r (eqb-false i d n)

      go : (b : Bool) → eqb c.port.selected d ≡ b → seen_in d (effect_of c l (Some (Named i x))) ≡ look d (world c l)
      go true e =
          let z : eqb i c.port.selected ≡ false = ap (eqb i) (eqb-true c.port.selected d e) ∙ n in
          let ph : phase_after x (eqb i c.port.selected) c.port.phase ≡ c.port.phase = rw (z, and_none (is_out x)) in
          here_alike d p c.port l.staging l.staging _ _ _ _ (ap (λ (q : Phase). here_port (at_phase q c.port)) ph)
          (ap (λ (q : Phase). staging_in q l.staging) ph) drives refl
      go false e = away_alike d p c.port l.staging l.staging _ _ _ _ e e refl drives refl

  pub still : (v : Option Event) → ((i : ℕ) (x : What) → v ≡ Some (Named i x) → i ≤ 3) → reaches_by real_change d c.port.selected c.port.online
      (settled c l v (refusal_in c v)).turn.answer v ≡ false
      → seen_in d (settled c l v (refusal_in c v)) ≡ look d (world c l)
  unfolding pick
  still None r h = refl
  still (Some Reset) r h = absurd (true≢false h)
  still (Some (Named i x)) r h = by_slot _ (slotted (drive_at c i).loaded x)
    where
      by_slot : (a : Answer) → Slotted a → seen_in d (settled c l (Some (Named i x)) a) ≡ look d (world c l)
      by_slot a lets = named_still i x (r i x refl) h
      by_slot a (bars stops calm) = rw (stops) refl
  still (Some (Own a)) r h = by_sel (eqb c.port.selected d) refl h
    where
      by_sel : (s : Bool) → eqb c.port.selected d ≡ s
          → (s || reason real_change d c.port.online a (settled c l (Some (Own a)) (refusal_in c (Some (Own a)))).turn.answer) ≡ false
          → seen_in d (settled c l (Some (Own a)) (refusal_in c (Some (Own a)))) ≡ look d (world c l)
      by_sel true e z = absurd (true≢false z)
      by_sel false e z = by_step (in_step_at c.port.phase (drive_at c c.port.selected) a) refl z
        where
          by_step : (b : Bool) → in_step_at c.port.phase (drive_at c c.port.selected) a ≡ b
              → reason real_change d c.port.online a (settled c l (Some (Own a)) (pick b Taken OutOfStep)).turn.answer ≡ false
              → seen_in d (settled c l (Some (Own a)) (pick b Taken OutOfStep)) ≡ look d (world c l)
          by_step true q y = own_still e a q y
          by_step false q y = refl

  -- every event that reaches d, in either reading, is to d as in the world that it sees
  pub sim : (r : Change) (v : Option Event) → reaches_by r d c.port.selected c.port.online (settled c l v (refusal_in c v)).turn.answer v ≡ true
      → Sim d v c cv (settled c l v (refusal_in c v)) (settled cv lv v (refusal_in cv v))
  sim r v h = go (eqb c.port.selected d) refl
    where
      go : (s : Bool) → eqb c.port.selected d ≡ s → Sim d v c cv (settled c l v (refusal_in c v)) (settled cv lv v (refusal_in cv v))
      go true e = sim_here c l k d d3 e r v (settled c l v (refusal_in c v)).turn.answer h
      go false e = sim_away e r v h
