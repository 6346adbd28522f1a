-- The world as one drive sees it: its own record and tape, the port and the block while it is selected, and nothing else.
use Prim.Native.Nat.{ℕ, ◌-◌, ◌≤◌, zero-le}
use mathlib.Core.Path.{◌≡◌, refl, sym, ap, ap₂, ◌∙◌}
use mathlib.Core.Bool.{Bool, true, false}
use mathlib.Core.List.{List, [], ◌++◌}
use native.Mathlib.Omega.{arith}
use lib.Dec.{leb, eqb}
use lib.ListN.{length, take, replicate, length-append, length-take, length-replicate}
use lib.Seq.{take_at, length-take-le}
use borrow.Author.Tests.{leb-true, eqb-true, eqb-false, eq-eqb, ne_eqb}
use Rattle.basis.specs.Choice.{pick}
use Rattle.rules.specs.declared.drive.Drive.{Drive}
use Rattle.rules.specs.declared.drive.Mode.{Mode}
use Rattle.rules.specs.declared.drive.Mode.TheVariants.{Idle}
use Rattle.rules.specs.declared.phase.Phase.{Phase}
use Rattle.rules.specs.declared.phase.Phase.TheVariants.{Rest, Taking, Giving, Status}
use Rattle.rules.specs.declared.unit.Port.{Port}
use Rattle.rules.specs.declared.unit.Core.{Core}
use Rattle.rules.specs.Drive.{drive, no_bits, no_errors, no_underruns}
use Rattle.rules.specs.Unit.{lent, drive_at, put_drive, tape_at, put_tape}
use Rattle.tape.specs.Record.{longest}
use Rattle.rules.specs.Refusal.{possible_phase}
use Rattle.rules.specs.Phase.{given_before}
use Rattle.rules.specs.Run.{World, world}
use Rattle.rules.specs.Promises.Demand3.{octets_in}
use Rattle.basis.proofs.Choosing.{both}
use Rattle.rules.proofs.Places.{put_same, put_holds}
use Rattle.rules.proofs.Sound.{Fit, Sound}

-- What stands in the place of the other three drives, and a number that is not d.
abbrev pub quiet : Drive
quiet = drive false false 0 Idle 0 false no_bits no_errors no_underruns

unfoldable pub elsewhere : ℕ → ℕ
elsewhere d = pick (eqb d 0) 1 0

-- The port as the selected drive sees it, and as another does: only the level.
abbrev pub here_port : Port → Port
here_port p = record { selected = p.selected; online = p.online; phase = p.phase; octets = octets_in p.phase p.octets }

abbrev pub away_port : ℕ → Bool → Port
away_port d level = record { selected = elsewhere d; online = level; phase = Rest; octets = [] }

unfoldable pub seen_by : ℕ → Port → Port
seen_by d q = pick (eqb q.selected d) q (away_port d q.online)

-- The block: the bytes given so far, and zeros.
unfoldable pub shown_to : ℕ → List ℕ → List ℕ
shown_to n g = take n g ++ replicate (512 - n) 0

abbrev pub blank : List ℕ
blank = replicate 512 0

abbrev pub staging_in : Phase → List ℕ → List ℕ
staging_in Rest g = blank
staging_in (Taking n) g = shown_to n g
staging_in (Giving n) g = blank
staging_in (Status k) g = blank

unfoldable pub staging_by : ℕ → Port → List ℕ → List ℕ
staging_by d p g = pick (eqb p.selected d) (staging_in p.phase g) blank

abbrev pub quiet_core : Core
quiet_core = record { port = away_port 0 false; drive0 = quiet; drive1 = quiet; drive2 = quiet; drive3 = quiet }

abbrev pub looks : ℕ → Port → List ℕ → Drive → List ℕ → World
looks d p g x t = world (put_drive quiet_core (seen_by d (here_port p)) d x) (put_tape (lent (staging_by d p g) [] [] [] []) d t)

abbrev pub look : ℕ → World → World
look d w = looks d w.core.port w.lent.staging (drive_at w.core d) (tape_at w.lent d)

-- ---- what is seen

pub eqb_self : (n : ℕ) → eqb n n ≡ true
eqb_self n = eq-eqb n n refl

pub elsewhere_not : (d : ℕ) → eqb (elsewhere d) d ≡ false
unfolding elsewhere pick
elsewhere_not d = go (eqb d 0) refl
  where
    go : (b : Bool) → eqb d 0 ≡ b → eqb (pick b 1 0) d ≡ false
    go true e = ne_eqb 1 d (λ q. let z = eqb-true d 0 e in omega arith)
    go false e = ne_eqb 0 d (λ q. eqb-false d 0 e (sym q))

pub elsewhere_real : (d : ℕ) → elsewhere d ≤ 3
unfolding elsewhere pick
elsewhere_real d = go (eqb d 0)
  where
    go : (b : Bool) → pick b 1 0 ≤ 3
    go true = omega arith
    go false = omega arith

-- by whether drive d is selected
pub seen_here : (d : ℕ) (p : Port) → eqb p.selected d ≡ true → seen_by d (here_port p) ≡ here_port p
unfolding seen_by pick
seen_here d p e = rw e

pub seen_away : (d : ℕ) (p : Port) → eqb p.selected d ≡ false → seen_by d (here_port p) ≡ away_port d p.online
unfolding seen_by pick
seen_away d p e = rw e

pub staging_here : (d : ℕ) (p : Port) (g : List ℕ) → eqb p.selected d ≡ true → staging_by d p g ≡ staging_in p.phase g
unfolding staging_by pick
staging_here d p g e = rw e

pub staging_away : (d : ℕ) (p : Port) (g : List ℕ) → eqb p.selected d ≡ false → staging_by d p g ≡ blank
unfolding staging_by pick
staging_away d p g e = rw e

pub seen_level : (d : ℕ) (p : Port) → (seen_by d (here_port p)).online ≡ p.online
seen_level d p = go (eqb p.selected d) refl
  where
    go : (b : Bool) → eqb p.selected d ≡ b → (seen_by d (here_port p)).online ≡ p.online
    go true e = ap (λ (q : Port). q.online) (seen_here d p e)
    go false e = ap (λ (q : Port). q.online) (seen_away d p e)

pub here_same : (d : ℕ) (p : Port) → eqb (seen_by d (here_port p)).selected d ≡ eqb p.selected d
here_same d p = go (eqb p.selected d) refl
  where
    go : (b : Bool) → eqb p.selected d ≡ b → eqb (seen_by d (here_port p)).selected d ≡ b
    go true e = ap (λ (q : Port). eqb q.selected d) (seen_here d p e) ∙ e
    go false e = ap (λ (q : Port). eqb q.selected d) (seen_away d p e) ∙ elsewhere_not d

-- two looks are equal where what they show is
pub looks_alike : (d : ℕ) (p p' : Port) (g g' : List ℕ) (x x' : Drive) (t t' : List ℕ) → seen_by d (here_port p) ≡ seen_by d (here_port p')
    → staging_by d p g ≡ staging_by d p' g' → x ≡ x' → t ≡ t'
    → looks d p g x t ≡ looks d p' g' x' t'
looks_alike d p p' g g' x x' t t' q h a b = rw (q, h, a, b)

-- both away: only the level is seen
pub away_alike : (d : ℕ) (p p' : Port) (g g' : List ℕ) (x x' : Drive) (t t' : List ℕ) → eqb p.selected d ≡ false → eqb p'.selected d ≡ false
    → p.online ≡ p'.online → x ≡ x' → t ≡ t'
    → looks d p g x t ≡ looks d p' g' x' t'
away_alike d p p' g g' x x' t t' e e' o a b =
    looks_alike d p p' g g' x x' t t' (seen_away d p e ∙ ap (away_port d) o ∙ sym (seen_away d p' e')) (staging_away d p g e
    ∙ sym (staging_away d p' g' e')) a b

-- both here: the port and the block are seen
pub here_alike : (d : ℕ) (p p' : Port) (g g' : List ℕ) (x x' : Drive) (t t' : List ℕ) → here_port p ≡ here_port p'
    → staging_in p.phase g ≡ staging_in p'.phase g' → x ≡ x' → t ≡ t'
    → looks d p g x t ≡ looks d p' g' x' t'
unfolding staging_by
here_alike d p p' g g' x x' t t' q h a b =
    looks_alike d p p' g g' x x' t t' (ap (seen_by d) q)
    (ap₂ (λ (n : ℕ) (l : List ℕ). pick (eqb n d) l blank) (ap (λ (z : Port). z.selected) q) h) a b

-- ---- a look is a sound world, and looking twice shows the same

pub look_drive : (d : ℕ) (w : World) → drive_at (look d w).core d ≡ drive_at w.core d
look_drive d w = rw put_same

pub look_tape : (d : ℕ) (w : World) → tape_at (look d w).lent d ≡ tape_at w.lent d
look_tape d w = rw put_same

pub place_below : (ph : Phase) (m : Mode) → possible_phase ph m ≡ true → given_before ph ≤ 511
unfolding possible_phase
place_below Rest m h = omega arith
place_below (Taking n) m h = leb-true n 511 (both (leb n 511) _ (both (leb 1 n) _ h).1).0
place_below (Giving n) m h = omega arith
place_below (Status k) m h = omega arith

shown_length : (n : ℕ) (g : List ℕ) → n ≤ 511 → length g ≡ 512 → length (shown_to n g) ≡ 512
unfolding shown_to
shown_length n g l w = simp (length-append, length-take, length-replicate) (omega arith)

pub shown_take : (n : ℕ) (g : List ℕ) → n ≤ 511 → length g ≡ 512 → take n (shown_to n g) ≡ take n g
unfolding shown_to
shown_take n g l w = take_at (take n g) (replicate (512 - n) 0) n (length-take-le n g (omega arith))

shown_twice : (n : ℕ) (g : List ℕ) → n ≤ 511 → length g ≡ 512 → shown_to n (shown_to n g) ≡ shown_to n g
unfolding shown_to
shown_twice n g l w =
    ap (λ (x : List ℕ). x ++ replicate (512 - n) 0) (take_at (take n g) (replicate (512 - n) 0) n (length-take-le n g (omega arith)))

pub staging_length : (ph : Phase) (m : Mode) (g : List ℕ) → possible_phase ph m ≡ true → length g ≡ 512 → length (staging_in ph g) ≡ 512
staging_length Rest m g h w = length-replicate {A = ℕ} 512 0
staging_length (Taking n) m g h w = shown_length n g (place_below (Taking n) m h) w
staging_length (Giving n) m g h w = length-replicate {A = ℕ} 512 0
staging_length (Status k) m g h w = length-replicate {A = ℕ} 512 0

pub staging_twice : (ph : Phase) (m : Mode) (g : List ℕ) → possible_phase ph m ≡ true → length g ≡ 512 → staging_in ph (staging_in ph g) ≡ staging_in ph g
staging_twice Rest m g h w = refl
staging_twice (Taking n) m g h w = shown_twice n g (place_below (Taking n) m h) w
staging_twice (Giving n) m g h w = refl
staging_twice (Status k) m g h w = refl

pub octets_twice : (ph : Phase) (o : List ℕ) → octets_in ph (octets_in ph o) ≡ octets_in ph o
octets_twice Rest o = refl
octets_twice (Taking n) o = refl
octets_twice (Giving n) o = refl
octets_twice (Status k) o = refl

port_twice : (p : Port) → here_port (here_port p) ≡ here_port p
port_twice p =
    ap (λ (o : List ℕ). record { selected = p.selected; online = p.online; phase = p.phase; octets = o }) (octets_twice p.phase p.octets)

module _ (d : ℕ) (w : World) (k : Sound w.core w.lent) where
  p : Port
  p = w.core.port

  mode_here : eqb w.core.port.selected d ≡ true → (drive_at w.core d).mode ≡ (drive_at w.core w.core.port.selected).mode
  mode_here e = ap (λ (n : ℕ). (drive_at w.core n).mode) (sym (eqb-true w.core.port.selected d e))

  pub look_twice : look d (look d w) ≡ look d w
  look_twice = go (eqb w.core.port.selected d) refl
    where
      go : (b : Bool) → eqb w.core.port.selected d ≡ b → look d (look d w) ≡ look d w
      go true e =
          here_alike d (look d w).core.port w.core.port (look d w).lent.staging w.lent.staging _ _ _ _
          (ap here_port (seen_here d w.core.port e) ∙ port_twice w.core.port)
          (ap₂ (λ (q : Port) (g : List ℕ). staging_in q.phase g) (seen_here d w.core.port e)
          (staging_here d w.core.port w.lent.staging e) ∙ staging_twice w.core.port.phase _ w.lent.staging k.phase k.whole)
          (look_drive d w) (look_tape d w)
      go false e =
          away_alike d (look d w).core.port w.core.port (look d w).lent.staging w.lent.staging _ _ _ _
          (here_same d w.core.port ∙ e) e (seen_level d w.core.port) (look_drive d w) (look_tape d w)

  quiet_fit : Fit quiet
  quiet_fit = record { near = zero-le; mode = refl; late = refl }

  pub look_sound : Sound (look d w).core (look d w).lent
  unfolding possible_phase
  look_sound = go (eqb w.core.port.selected d) refl
    where
      fits : (i : ℕ) → Fit (drive_at (look d w).core i)
      fits = put_holds Fit d (k.fit d) quiet_fit quiet_fit quiet_fit quiet_fit

      nears : (i : ℕ) → length (tape_at (look d w).lent i) ≤ longest
      nears = put_holds (λ (t : List ℕ). length t ≤ longest) d (k.near d) zero-le zero-le zero-le zero-le

      go : (b : Bool) → eqb w.core.port.selected d ≡ b → Sound (look d w).core (look d w).lent
      go true e =
          let n : w.core.port.selected ≡ d = eqb-true w.core.port.selected d e in
          record {
            sel = rw (seen_here d w.core.port e) k.sel;
            phase = rw (seen_here d w.core.port e, n, put_same) (rw n at k.phase);
            fit = fits;
            near = nears;
            whole =
                rw (staging_here d w.core.port w.lent.staging e)
                (staging_length w.core.port.phase _ w.lent.staging k.phase k.whole);
          }
      go false e =
          record {
            sel = rw (seen_away d w.core.port e) (elsewhere_real d);
            phase = rw (seen_away d w.core.port e);
            fit = fits;
            near = nears;
            whole = rw (staging_away d w.core.port w.lent.staging e) (length-replicate {A = ℕ} 512 0);
          }
