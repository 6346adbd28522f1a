-- What an act of the selected drive comes to in the book's step.
use Prim.Native.Nat.{ℕ}
use mathlib.Core.Path.{◌≡◌, refl, sym, ap, ap₂, subst, ◌∙◌}
use mathlib.Core.Bool.{Bool, true, false}
use mathlib.Core.List.{List}
use Rattle.std.specs.Prelude.{Option, Some}
use Rattle.basis.specs.Choice.{pick}
use Rattle.basis.proofs.Choosing.{picked, passed}
use Rattle.rules.specs.declared.drive.Drive.{Drive}
use Rattle.rules.specs.declared.unit.Core.{Core}
use Rattle.rules.specs.declared.unit.Moved.{Moved}
use Rattle.rules.specs.declared.event.Act.{Act}
use Rattle.rules.specs.declared.event.Event.{Event}
use Rattle.rules.specs.declared.event.Event.TheVariants.{Own}
use Rattle.rules.specs.declared.answer.Answer.{Answer}
use Rattle.rules.specs.declared.answer.Turn.{Turn}
use Rattle.rules.specs.Unit.{Lent, lent, drive_at, tape_at, put_tape, put_staging, put_drive}
use Rattle.rules.specs.Answer.{row_of}
use Rattle.rules.specs.Event.{event_of}
use Rattle.rules.specs.Refusal.{possible, short, refusal_of}
use Rattle.rules.specs.Effect.{seat, Acted, acted}
use Rattle.rules.specs.Step.{staged, act, Stepped, stepped, taken_turn, refused_turn, step_by, step_of, Steps}
use Rattle.rules.proofs.Places.{tape_back, last_one, last_tape}
use Rattle.answers.specs.Settled.{settled_by}
use Rattle.answers.proofs.Settling.{refusing}
use Rattle.unit.specs.Own.{OwnTurn, own_turn, own_answer, landed_on, own_by}

-- where p and s tell whether the record is possible and the tapes are short
module _ (c : Core) (p s : Bool) where
  -- refused, and taken
  module _ (d : Drive) (g t : List ℕ) (a : Act) (b : Answer) (is : b ≡ own_answer c p s d a) where
    pub own_refused : (row_of b).refuses ≡ true → own_turn (refused_turn b c) g t ≡ own_by c p s d g t a
    unfolding own_by
    own_refused so = ap (λ (x : Answer). own_turn (refused_turn x c) g t) is ∙ picked _ _ _ (refusing is so)

    own_taken : (row_of b).refuses ≡ false
        → landed_on c (staged c.port.phase a g) (act (staged c.port.phase a g) (seat c.port d t) a) ≡ own_by c p s d g t a
    unfolding own_by
    own_taken so = passed _ _ _ (refusing is so)

    -- taken, from what each call in it ensures
    pub own_lands : (r : Turn) (m : Moved) (g' t' : List ℕ) (whole : Core)
        → r ≡ taken_turn m.raised m.byte whole → whole ≡ put_drive c m.port c.port.selected m.drive
        → acted m t' ≡ act g' (seat c.port d t) a → g' ≡ staged c.port.phase a g
        → (row_of b).refuses ≡ false → own_turn r g' t' ≡ own_by c p s d g t a
    own_lands r m g' t' whole done put acts stages so =
        ap (λ (x : Turn). own_turn x g' t') (done ∙ ap (taken_turn m.raised m.byte) put)
        ∙ ap (λ (x : Acted). landed_on c g' x) acts
        ∙ ap (λ (x : List ℕ). landed_on c x (act x (seat c.port d t) a)) stages
        ∙ own_taken so

  -- put back into the core and among the tapes, it is what the book settles
  module _ (l : Lent) (a : Act) where
    -- by the number i
    own_at : ℕ → OwnTurn
    unfolding own_by
    own_at i = own_by c p s (drive_at c i) l.staging (tape_at l i) a

    placed_at : ℕ → OwnTurn → Stepped
    placed_at i k = stepped k.turn (put_tape (put_staging l k.staging) i k.tape)

    own_there : placed_at c.port.selected (own_at c.port.selected) ≡ settled_by c p s l (Some (Own a))
    unfolding own_by pick own_at placed_at
    own_there = go (row_of (own_answer c p s (drive_at c c.port.selected) a)).refuses refl
      where
        go : (v : Bool) → (row_of (own_answer c p s (drive_at c c.port.selected) a)).refuses ≡ v
            → placed_at c.port.selected (own_at c.port.selected) ≡ settled_by c p s l (Some (Own a))
        go true so =
            let b = own_answer c p s (drive_at c c.port.selected) a in
            rw (so) (ap (stepped (refused_turn b c)) (tape_back l c.port.selected))
        go false so = rw (so) refl

    -- the selected drive by its number
    pub own_at_lem : (r : Turn) (g t : List ℕ) (i : ℕ) → c.port.selected ≡ i → own_turn r g t ≡ own_by c p s (drive_at c i) l.staging (tape_at l i) a
        → stepped r (put_tape (put_staging l g) i t) ≡ settled_by c p s l (Some (Own a))
    unfolding own_at placed_at
    own_at_lem r g t i e is = ap (placed_at i) is ∙ subst (λ (n : ℕ). placed_at n (own_at n) ≡ settled_by c p s l (Some (Own a))) e own_there

    -- the last drive, by a number that is none of the others
    pub own_last : (r : Turn) (g t : List ℕ) → (c.port.selected ≡ 0 → ⊥) → (c.port.selected ≡ 1 → ⊥) → (c.port.selected ≡ 2 → ⊥)
        → own_turn r g t ≡ own_by c p s c.drive3 l.staging l.tape3 a
        → stepped r (lent g l.tape0 l.tape1 l.tape2 t) ≡ settled_by c p s l (Some (Own a))
    own_last r g t x y z is =
        let i = c.port.selected in
        let drive = last_one i c.drive0 c.drive1 c.drive2 c.drive3 x y z in
        let tape = last_one i l.tape0 l.tape1 l.tape2 l.tape3 x y z in
        ap (stepped r) (sym (last_tape (put_staging l g) i t x y z)) ∙ own_at_lem r g t i refl (rw (drive, tape) is)

-- a step, from the event that the bytes are and from what was found of the record and the tapes
pub steps_by : (c : Core) (l : Lent) (event : List ℕ) (r : Turn) (l' : Lent) (e e' : Option Event) (p s : Bool)
    → e ≡ event_of event → e ≡ e' → p ≡ possible c → s ≡ short l → stepped r l' ≡ settled_by c p s l e' → Steps c l event r l'
unfolding step_of step_by refusal_of
steps_by c l event r l' e e' p s bytes is ok fits so =
    record {
      is =
          so
          ∙ ap₂ (λ (x : Option Event) (n : Bool). settled_by c p n l x) (sym is ∙ bytes) fits
          ∙ ap (λ (k : Bool). settled_by c k (short l) l (event_of event)) ok;
    }
