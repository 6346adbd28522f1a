-- A strike among other events: what reaches a drive decides what it hands out, and the strike's bytes come last.
use Prim.Native.Nat.{ℕ, zero, suc, ◌*◌}
use mathlib.Core.Path.{◌≡◌, refl, sym, ap, subst, ◌∙◌}
use mathlib.Core.Bool.{true}
use mathlib.Core.List.{List, [], ◌∷◌, ◌++◌}
use Rattle.std.specs.Prelude.{Result, Ok, Err, Option, None, Some}
use Rattle.std.specs.List.{cons_option}
use lib.ListN.{length}
use borrow.Author.Tests.{eq-eqb}
use Rattle.basis.specs.Choice.{pick}
use Rattle.rules.specs.declared.unit.Port.{Port}
use Rattle.rules.specs.declared.event.Act.{Act}
use Rattle.rules.specs.declared.event.Act.TheVariants.{Command, Take}
use Rattle.rules.specs.declared.event.Event.{Event}
use Rattle.rules.specs.declared.event.Event.TheVariants.{Own}
use Rattle.rules.specs.declared.order.Order.TheVariants.{Read}
use Rattle.rules.specs.declared.order.Fault.{Fault}
use Rattle.rules.specs.declared.order.Fault.TheVariants.{Illegal, Empty, Plugged, Full}
use Rattle.rules.specs.declared.answer.Answer.TheVariants.{Taken}
use Rattle.rules.specs.Event.{event_of}
use Rattle.rules.specs.Refusal.{refusal_in}
use Rattle.rules.specs.Effect.{Seat, commanded, fault_of}
use Rattle.rules.specs.Step.{seat_of, effect_of}
use Rattle.rules.specs.Run.{World, after, run, turn_of, turns, taken_times, fresh_world}
use Rattle.rules.specs.Reach.{real_change, Shown, Gave, only_if, reaches, gave, given}
use Rattle.rules.specs.Promises.Strike.{Works, handed_out, reading, passing, recording, byte_of, bytes_of, handed_by, StrikeAmongOthers}
use Rattle.rules.proofs.Sound.{Sound, sound}
use Rattle.rules.proofs.StepBy.{sound_step, own_does}
use Rattle.rules.proofs.Keeps.{step_stays_sound}
use Rattle.rules.proofs.Codes.{orders, command_event}
use Rattle.rules.proofs.Ports.{take_ported}
use Rattle.rules.proofs.Demand3.{demand_3}
use Rattle.rules.proofs.Ran.{run_append}
use Rattle.rules.proofs.Handing.{take_event}
use Rattle.rules.proofs.Blocks.{only_append, cons_append}
use Rattle.rules.proofs.Struck.{strike_recorded}
use Rattle.rules.proofs.Returns.{strike_found, strike_comes_back}

-- ---- one list of events after another

given_append : (d : ℕ) (w : World) (es fs : List (List ℕ)) → given real_change d w (es ++ fs) ≡ given real_change d w es ++ given real_change d (run w es) fs
given_append d w [] fs = refl
given_append d w (e ∷ es) fs =
    ap (only_if (reaches real_change d w e) (gave d w e)) (given_append d (after w e) es fs)
    ∙ only_append (reaches real_change d w e) (gave d w e) (given real_change d (after w e) es) (given real_change d (run (after w e) es) fs)

byte_append : (s : Option Shown) (l m : List ℕ)
    → (elim s [ None ↦ l ++ m | Some x ↦ cons_option x.byte (l ++ m) ])
    ≡ (elim s [ None ↦ l | Some x ↦ cons_option x.byte l ]) ++ m
byte_append None l m = refl
byte_append (Some x) l m = cons_append x.byte l m

bytes_append : (gs hs : List Gave) → bytes_of (gs ++ hs) ≡ bytes_of gs ++ bytes_of hs
bytes_append [] hs = refl
bytes_append (g ∷ gs) hs = ap (byte_of g) (bytes_append gs hs) ∙ byte_append g.shown (bytes_of gs) (bytes_of hs)

pub handed_by_append : (d : ℕ) (w : World) (es fs : List (List ℕ)) → handed_by d w (es ++ fs) ≡ handed_by d w es ++ handed_by d (run w es) fs
handed_by_append d w es fs =
    ap bytes_of (given_append d w es fs) ∙ bytes_append (given real_change d w es) (given real_change d (run w es) fs)

-- ---- while the drive is selected it hands out what the unit does

record Here (d : ℕ) (w : World) (e : List ℕ) : Type 0 where
  act : Act
  is : event_of e ≡ Some (Own act)
  before : w.core.port.selected ≡ d
  after : (turn_of w e).core.port.selected ≡ d

AllHere : ℕ → World → List (List ℕ) → Type 0
AllHere d w [] = Prim.Unit
AllHere d w (e ∷ es) = Here d w e × AllHere d (after w e) es

here_reaches : (d : ℕ) (w : World) (e : List ℕ) → Here d w e → reaches real_change d w e ≡ true
unfolding reaches
here_reaches d w e h = rw (h.is, eq-eqb w.core.port.selected d h.before)

here_shows : (d : ℕ) (w : World) (e : List ℕ) (l : List ℕ) → Here d w e → byte_of (gave d w e) l ≡ cons_option (turn_of w e).byte l
unfolding gave pick
here_shows d w e l h = rw (eq-eqb (turn_of w e).core.port.selected d h.after)

here_hands : (d : ℕ) (w : World) (es : List (List ℕ)) → AllHere d w es → handed_by d w es ≡ handed_out (turns w es)
unfolding AllHere
here_hands d w [] h = refl
here_hands d w (e ∷ es) (h, hs) =
    rw (here_reaches d w e h)
    (here_shows d w e (handed_by d (after w e) es) h ∙ ap (cons_option (turn_of w e).byte) (here_hands d (after w e) es hs))

-- ---- reading leaves the drive selected

take_stays : (w : World) → Sound w.core w.lent → (turn_of w (3 ∷ [])).core.port.selected ≡ w.core.port.selected
unfolding turn_of
take_stays w k =
    sound_step (λ s. s.turn.core.port.selected ≡ w.core.port.selected) w.core w.lent (3 ∷ []) k.whole (λ _. refl)
    (λ k' h. subst (λ (e : Option Event). refusal_in w.core e ≡ Taken → (effect_of w.core w.lent e).turn.core.port.selected ≡ w.core.port.selected)
    (sym take_event) (λ h'. (take_ported _ _ _ (own_does w.core w.lent Take k' h')).0) h)

read_here : (s : Seat) (f : Result (Unit {0}) Fault) → (commanded s (Some Read) f).moved.port.selected ≡ s.port.selected
read_here s (Ok u) = refl
read_here s (Err Illegal) = refl
read_here s (Err Empty) = refl
read_here s (Err Plugged) = refl
read_here s (Err Full) = refl

read_stays : (w : World) → Sound w.core w.lent → (turn_of w (1 ∷ 128 ∷ [])).core.port.selected ≡ w.core.port.selected
unfolding turn_of
read_stays w k =
    sound_step (λ s. s.turn.core.port.selected ≡ w.core.port.selected) w.core w.lent (1 ∷ 128 ∷ []) k.whole (λ _. refl)
    (λ k' h. rw (command_event 128, orders.read) (read_here (seat_of w.core w.lent) (fault_of (seat_of w.core w.lent) (Some Read))))

takes_here : (d n : ℕ) (w : World) → Sound w.core w.lent → w.core.port.selected ≡ d → AllHere d w (taken_times n)
unfolding AllHere after turn_of
takes_here d zero w k e = tt
takes_here d (suc n) w k e =
    let s = take_stays w k ∙ e in (
      record { act = Take; is = take_event; before = e; after = s },
      takes_here d n (after w (3 ∷ [])) (step_stays_sound w.core w.lent (3 ∷ []) k) s,
    )

reading_here : (d n : ℕ) (w : World) → Works w → w.core.port.selected ≡ d → AllHere d w (reading n)
unfolding AllHere after turn_of
reading_here d n w works e =
    let k = sound w.core w.lent works.possible works.short works.whole in
    let s = read_stays w k ∙ e in (
      record { act = Command 128; is = command_event 128; before = e; after = s },
      takes_here d (n * 512) (after w (1 ∷ 128 ∷ [])) (step_stays_sound w.core w.lent (1 ∷ 128 ∷ []) k) s,
    )

-- ---- the strike among other events

pub strike_among_others : StrikeAmongOthers
strike_among_others d d3 a b c e sh before es bs k back sel whole may began bk same =
    let f = fresh_world a b c e in
    let w = run f before in
    let w₂ = run (run w (recording bs)) (back ++ passing k) in
    let n = length bs in
    let way = before ++ (recording bs ++ (back ++ passing k)) in
    let found = strike_found w bs k back whole may began bk in
    let there : run f way ≡ w₂ =
    run_append f before (recording bs ++ (back ++ passing k)) ∙ run_append w (recording bs) (back ++ passing k) in
    let still : w₂.core.port.selected ≡ d = found.selected ∙ ap (λ (p : Port). p.selected) (strike_recorded w bs whole may).1.port ∙ sel in
    ap bytes_of (demand_3 d d3 a b c e a b c e sh sh refl es (way ++ reading n) same).gives
    ∙ handed_by_append d f way (reading n)
    ∙ ap (λ (v : World). handed_by d f way ++ handed_by d v (reading n)) there
    ∙ ap (λ (l : List ℕ). handed_by d f way ++ l)
    (here_hands d w₂ (reading n) (reading_here d n w₂ found.ready.works still) ∙ (strike_comes_back w bs k back whole may began bk).1.bytes)
