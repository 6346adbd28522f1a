-- What drive d shows of a step, and small laws of what is told, dropped and reached.
use Prim.Native.Nat.{ℕ}
use mathlib.Core.Path.{◌≡◌, refl, sym, ap, ap₂, ◌∙◌}
use mathlib.Core.Bool.{Bool, true, false, ◌&&◌, ◌||◌, true≢false, false≢true}
use mathlib.Core.List.{List}
use Rattle.std.specs.Prelude.{Option, None, Some}
use lib.Dec.{eqb}
use lib.ListN.{length}
use borrow.Author.Tests.{eqb-true}
use Rattle.basis.specs.Choice.{pick}
use Rattle.rules.specs.declared.drive.Drive.{Drive}
use Rattle.rules.specs.declared.drive.Mode.{Mode}
use Rattle.rules.specs.declared.phase.Phase.{Phase}
use Rattle.rules.specs.declared.phase.Phase.TheVariants.{Rest, Taking, Giving, Status}
use Rattle.rules.specs.declared.unit.Port.{Port}
use Rattle.rules.specs.declared.unit.Core.{Core}
use Rattle.rules.specs.declared.event.Act.{Act}
use Rattle.rules.specs.declared.event.Act.TheVariants.{Command, Give, Take, Online, Offline}
use Rattle.rules.specs.declared.event.Event.{Event}
use Rattle.rules.specs.declared.event.Event.TheVariants.{Own}
use Rattle.rules.specs.declared.answer.Answer.{Answer}
use Rattle.rules.specs.declared.answer.Answer.TheVariants.{Taken, Raised}
use Rattle.rules.specs.declared.answer.Lines.{Lines}
use Rattle.rules.specs.Drive.{was_reset}
use Rattle.rules.specs.Unit.{Lent, one_of, drive_at, at_phase, reset_core}
use Rattle.rules.specs.Refusal.{possible_phase, in_step_at, refusal_in}
use Rattle.rules.specs.Lines.{lines_at, lines_of}
use Rattle.rules.specs.Slot.{part_dropped}
use Rattle.rules.specs.Step.{Stepped, done}
use Rattle.rules.specs.Run.{World, world}
use Rattle.rules.specs.Reach.{Change, changes, selects, answered, accepted, Shown, compared_away}
use Rattle.rules.specs.Promises.Demand3.{octets_in}
use Rattle.rules.proofs.Places.{put_there}
use Rattle.rules.proofs.Sight.{quiet, here_port, blank, staging_in, staging_by, look, seen_here, staging_here, staging_away, here_same, staging_twice, octets_twice}

-- What drive d sees after a step, and what it shows of it.
abbrev pub seen_in : ℕ → Stepped → World
seen_in d s = look d (world s.turn.core s.lent)

abbrev pub shows_if : Bool → Lines → Option ℕ → Option Shown
shows_if here n b = pick here (Some (record { lines = n; byte = b })) None

abbrev pub shown_in : ℕ → Stepped → Option Shown
shown_in d s = shows_if (eqb s.turn.core.port.selected d) s.turn.lines s.turn.byte

abbrev pub told_if : Bool → Answer → Option Answer
told_if compared a = pick compared (Some a) None

abbrev pub answer_in : ℕ → ℕ → Option Event → Stepped → Option Answer
answer_in d n e s = told_if (eqb n d || compared_away e) s.turn.answer

-- The two steps are one to drive d.
pub record Sim (d : ℕ) (e : Option Event) (c c' : Core) (s s' : Stepped) : Type 0 where
  pub view : seen_in d s ≡ seen_in d s'
  pub answer : answer_in d c.port.selected e s ≡ answer_in d c'.port.selected e s'
  pub shown : shown_in d s ≡ shown_in d s'

-- ---- lines

pub lines_here : (d : ℕ) (x : World) → eqb x.core.port.selected d ≡ true → lines_of x.core ≡ lines_of (look d x).core
unfolding lines_of
lines_here d x e =
    let n : x.core.port.selected ≡ d = eqb-true x.core.port.selected d e in
    ap (λ (y : Drive). lines_at x.core.port.phase y) (ap (λ (j : ℕ). drive_at x.core j) n
    ∙ sym (put_there _ d (drive_at x.core d) quiet quiet quiet quiet (sym n)))
    ∙ sym (ap (λ (q : Port). lines_at q.phase (drive_at (look d x).core q.selected)) (seen_here d x.core.port e))

pub shown_look : (d : ℕ) (x : World) (n : Lines) (b : Option ℕ) → n ≡ lines_of x.core
    → shows_if (eqb x.core.port.selected d) n b ≡ shows_if (eqb (look d x).core.port.selected d) (lines_of (look d x).core) b
unfolding pick
shown_look d x n b e = rw (here_same d x.core.port) (go (eqb x.core.port.selected d) refl)
  where
    go : (t : Bool) → eqb x.core.port.selected d ≡ t → shows_if t n b ≡ shows_if t (lines_of (look d x).core) b
    go true q = ap (λ (z : Lines). Some (record { lines = z; byte = b })) (e ∙ lines_here d x q)
    go false q = refl

-- steps whose lines are those of their record
pub record Lit (s : Stepped) : Type 0 where
  pub is : s.turn.lines ≡ lines_of s.turn.core

pub shown_same : (d : ℕ) (s s' : Stepped) → Lit s → Lit s' → s.turn.byte ≡ s'.turn.byte
    → seen_in d s ≡ seen_in d s' → shown_in d s ≡ shown_in d s'
shown_same d s s' a b q v =
    shown_look d (world s.turn.core s.lent) s.turn.lines s.turn.byte a.is
    ∙ ap (λ (x : World). shows_if (eqb x.core.port.selected d) (lines_of x.core) s.turn.byte) v
    ∙ ap (shows_if (eqb (seen_in d s').core.port.selected d) (lines_of (seen_in d s').core)) q
    ∙ sym (shown_look d (world s'.turn.core s'.lent) s'.turn.lines s'.turn.byte b.is)

pub done_lit : (r : Bool) (b : Option ℕ) (c : Core) (l : Lent) → Lit (done r b c l)
done_lit r b c l = record { is = refl }

-- where the look of both, the answer and the byte are the same
pub sim_of : (d : ℕ) (e : Option Event) (c : Core) (l : Lent) (s s' : Stepped) → Lit s → Lit s' → seen_in d s ≡ seen_in d s'
    → s.turn.answer ≡ s'.turn.answer
    → s.turn.byte ≡ s'.turn.byte → Sim d e c (look d (world c l)).core s s'
sim_of d e c l s s' a b v r n =
    record {
      view = v;
      answer = ap₂ (λ (t : Bool) (x : Answer). told_if (t || compared_away e) x) (sym (here_same d c.port)) r;
      shown = shown_same d s s' a b n v;
    }

-- ---- a part block dropped or not: what is seen of octets and staging stays what was seen

pub part_octets : (t : Bool) (ph : Phase) (o : List ℕ) → octets_in (pick t (part_dropped ph) ph) o ≡ octets_in (pick t (part_dropped ph) ph) (octets_in ph o)
unfolding pick
part_octets true Rest o = refl
part_octets true (Taking n) o = refl
part_octets true (Giving n) o = refl
part_octets true (Status k) o = refl
part_octets false ph o = sym (octets_twice ph o)

pub part_staging : (t : Bool) (ph : Phase) (m : Mode) (g : List ℕ) → possible_phase ph m ≡ true → length g ≡ 512
    → staging_in (pick t (part_dropped ph) ph) g ≡ staging_in (pick t (part_dropped ph) ph) (staging_in ph g)
unfolding pick
part_staging true Rest m g h w = refl
part_staging true (Taking n) m g h w = refl
part_staging true (Giving n) m g h w = refl
part_staging true (Status k) m g h w = refl
part_staging false ph m g h w = sym (staging_twice ph m g h w)

pub part_port : (t : Bool) (p : Port) → here_port (at_phase (pick t (part_dropped p.phase) p.phase) p) ≡ here_port
    (at_phase (pick t (part_dropped p.phase) p.phase) (here_port p))
part_port t p =
    ap (λ (o : List ℕ). record { selected = p.selected; online = p.online; phase = pick t (part_dropped p.phase) p.phase; octets = o })
    (part_octets t p.phase p.octets)

-- at Rest nothing of the block is seen
pub rest_staging : (d : ℕ) (p : Port) (g : List ℕ) → p.phase ≡ Rest → staging_by d p g ≡ blank
rest_staging d p g e = go (eqb p.selected d) refl
  where
    go : (b : Bool) → eqb p.selected d ≡ b → staging_by d p g ≡ blank
    go true q = staging_here d p g q ∙ rw e
    go false q = staging_away d p g q

pub reset_drive : (c : Core) (d : ℕ) → drive_at (reset_core c) d ≡ was_reset (drive_at c d)
unfolding one_of pick
reset_drive c d = go (eqb d 0) (eqb d 1) (eqb d 2)
  where
    go : (x y z : Bool)
        → pick x (was_reset c.drive0) (pick y (was_reset c.drive1) (pick z (was_reset c.drive2) (was_reset c.drive3)))
        ≡ was_reset (pick x c.drive0 (pick y c.drive1 (pick z c.drive2 c.drive3)))
    go true y z = refl
    go false true z = refl
    go false false true = refl
    go false false false = refl

-- four of one kind
pub one_same : {A : Type 0} (i : ℕ) (x : A) → one_of i x x x x ≡ x
unfolding one_of pick
one_same {A} i x = go (eqb i 0) (eqb i 1) (eqb i 2)
  where
    go : (a b c : Bool) → pick a x (pick b x (pick c x x)) ≡ x
    go true b c = refl
    go false true c = refl
    go false false true = refl
    go false false false = refl

-- acts that are in step wherever the phase is Rest
abbrev pub at_rest_only : Act → Bool
at_rest_only (Command c) = true
at_rest_only (Give b) = false
at_rest_only Take = false
at_rest_only Online = true
at_rest_only Offline = true

pub in_rest : (a : Act) → at_rest_only a ≡ true → in_step_at Rest quiet a ≡ true
in_rest (Command c) h = refl
in_rest (Give b) h = absurd (false≢true h)
in_rest Take h = absurd (false≢true h)
in_rest Online h = refl
in_rest Offline h = refl

pub and_none : (x : Bool) → (x && false) ≡ false
and_none true = refl
and_none false = refl

-- of two reasons the first is none
pub second : (x y : Bool) → (x && false || y) ≡ true → y ≡ true
second true y h = h
second false y h = h

pub neither : (x y : Bool) → (x && false || y && false) ≡ false
neither true true = refl
neither true false = refl
neither false true = refl
neither false false = refl

pub no_choice : (x y z : Bool) → (x && false || y && z) ≡ false → y ≡ true → z ≡ false
no_choice true true z h e = h
no_choice false true z h e = h
no_choice x false z h e = absurd (false≢true e)

pub no_change : (x y z : Bool) → x ≡ true → (x && y || z) ≡ false → y ≡ false
no_change true true z e h = absurd (true≢false h)
no_change true false z e h = refl
no_change false y z e h = absurd (false≢true e)

pub answered_done : (r : Bool) → answered (pick r Raised Taken) ≡ true
unfolding pick
answered_done true = refl
answered_done false = refl

-- why an act of another drive reaches d
abbrev pub reason : Change → ℕ → Bool → Act → Answer → Bool
reason r d level a x = (answered x && changes r a level) || (accepted x && selects d a)

pub not_by : (r : Change) (d : ℕ) (level : Bool) (a : Act) → at_rest_only a ≡ false → (x : Answer) → reason r d level a x ≡ true → ⊥
not_by r d level (Command c) n x h = true≢false n
not_by r d level (Give b) n x h = false≢true (sym (neither (answered x) (accepted x)) ∙ h)
not_by r d level Take n x h = false≢true (sym (neither (answered x) (accepted x)) ∙ h)
not_by r d level Online n x h = true≢false n
not_by r d level Offline n x h = true≢false n

pub rest_reach : (r : Change) (d : ℕ) (level : Bool) (a : Act) (x : Answer) → reason r d level a x ≡ true → at_rest_only a ≡ true
rest_reach r d level (Command c) x h = refl
rest_reach r d level (Give b) x h = absurd (not_by r d level (Give b) refl x h)
rest_reach r d level Take x h = absurd (not_by r d level Take refl x h)
rest_reach r d level Online x h = refl
rest_reach r d level Offline x h = refl

-- an act in step is not refused
pub taken_step : (c : Core) (a : Act) → in_step_at c.port.phase (drive_at c c.port.selected) a ≡ true → refusal_in c (Some (Own a)) ≡ Taken
unfolding pick
taken_step c a q = rw q
