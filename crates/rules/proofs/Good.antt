-- Every leaf of an act leaves a possible record, a tape of the same length, and a protected tape as it was.
use Prim.Native.Nat.{ℕ, ◌+◌, ◌-◌, ◌≤◌, zero-le}
use mathlib.Core.Path.{◌≡◌, refl, sym, ap, ◌∙◌}
use mathlib.Core.Bool.{Bool, true, false, not, true≢false}
use mathlib.Core.List.{List}
use native.Mathlib.Omega.{arith}
use lib.Dec.{leb}
use lib.ListN.{length, length-replicate}
use borrow.Author.Tests.{leb-true, leb-false, le-leb}
use Rattle.basis.specs.Choice.{pick}
use Rattle.std.specs.Prelude.{Result, Ok, Err}
use Rattle.tape.specs.declared.found.Kind.{Kind}
use Rattle.tape.specs.declared.found.Kind.TheVariants.{Block, Mark}
use Rattle.tape.specs.declared.found.Why.{Why}
use Rattle.tape.specs.declared.found.Why.TheVariants.{End, Unknown, Bad}
use Rattle.tape.specs.declared.pass.Stopped.{Stopped}
use Rattle.tape.specs.Record.{found_at, mark_record, block_record, longest}
use Rattle.tape.specs.Recording.{recorded}
use Rattle.tape.specs.Walk.{passed, end_of}
use Rattle.tape.proofs.Standing.{block_fits, mark_fits}
use Rattle.tape.proofs.Walking.{passed_within}
use Rattle.tape.proofs.Recorded.{recorded_length}
use Rattle.rules.specs.declared.drive.Drive.{Drive}
use Rattle.rules.specs.declared.drive.Mode.{Mode}
use Rattle.rules.specs.declared.drive.Mode.TheVariants.{Idle, Writing, Reading}
use Rattle.rules.specs.declared.drive.Bit.{Bit}
use Rattle.rules.specs.declared.drive.Bit.TheVariants.{Eom, Fil}
use Rattle.rules.specs.declared.phase.Phase.TheVariants.{Rest, Taking, Giving, Status}
use Rattle.rules.specs.declared.unit.Port.{Port}
use Rattle.rules.specs.declared.event.Act.{Act}
use Rattle.rules.specs.Drive.{stopping, in_mode, made, passed_to, set_head}
use Rattle.rules.specs.Late.{one_less}
use Rattle.rules.specs.Unit.{at_phase}
use Rattle.rules.specs.Refusal.{mode_fits, possible_phase}
use Rattle.rules.specs.Edge.{halted, spoilt, edged, checked, standing}
use Rattle.rules.specs.Effect.{Seat, Acted}
use Rattle.rules.specs.Bytes.{after_octet}
use Rattle.basis.proofs.Choosing.{both, join, not_not}
use Rattle.rules.proofs.Sound.{Fit, SoundSeat, idle_fits}
use Rattle.rules.specs.Promises.Changes.{block_asks}
use Rattle.rules.proofs.Rooms.{room_behind, allowed_fits, less_fits}
use Rattle.rules.proofs.Acts

-- Where the port ends: the same drive selected in a phase that goes with its mode, or one of four at Rest.
pub data Landing (n : ℕ) (p : Port) (m : Mode) : Type 0 where
  stays : p.selected ≡ n → possible_phase p.phase m ≡ true → Landing n p m
  rests : p.phase ≡ Rest → p.selected ≤ 3 → Landing n p m

pub record Good (s : Seat) (m : Acted) : Type 0 where
  pub fit : Fit m.moved.drive
  pub long : length m.tape ≡ length s.tape
  pub land : Landing s.port.selected m.moved.port m.moved.drive.mode
  pub plug : s.drive.protected ≡ true → m.tape ≡ s.tape
  pub slot : s.drive.loaded ≡ false → m.tape ≡ s.tape

-- ---- a drive's record stays possible

fit_head : (d : Drive) (h : ℕ) → Fit d → h ≤ longest → Fit (set_head h d)
fit_head d h f l = record { near = l; mode = f.mode; late = f.late }

fit_idle : (d : Drive) → Fit d → Fit (in_mode Idle d)
fit_idle d f = record { near = f.near; mode = idle_fits d.mode d.loaded d.protected f.mode; late = refl }

fit_stop : (b : Bit) (d : Drive) → Fit d → Fit (stopping b d)
fit_stop b d f = record { near = f.near; mode = idle_fits d.mode d.loaded d.protected f.mode; late = refl }

halted_fit : (w : Why) (d : Drive) → Fit d → Fit (halted w d)
halted_fit End d f = let i = fit_idle d f in record { near = i.near; mode = i.mode; late = i.late }
halted_fit Unknown d f = let i = fit_idle d f in record { near = i.near; mode = i.mode; late = i.late }
halted_fit Bad d f = let i = fit_idle d f in record { near = i.near; mode = i.mode; late = i.late }

edged_fit : (t : List ℕ) (d : Drive) → length t ≤ longest → Fit d → (e : Result Kind Why) → found_at t d.head ≡ e → Fit (edged e d)
edged_fit t d l f (Ok Block) q = f
edged_fit t d l f (Ok Mark) q = fit_stop Fil (passed_to (d.head + 1) d) (fit_head d (d.head + 1) f (omega (arith, mark_fits t d.head q)))
edged_fit t d l f (Err w) q = halted_fit w d f

checked_fit : (t : List ℕ) (d : Drive) → length t ≤ longest → Fit d → Fit (checked t d).drive
unfolding checked
checked_fit t d l f = edged_fit t d l f _ refl

standing_fit : (r : Result ℕ Stopped) (d : Drive) → Fit d → end_of r ≤ longest → Fit (standing r d)
standing_fit (Ok at) d f l = fit_stop Fil (passed_to at d) (fit_head d at f l)
standing_fit (Err s) d f l = halted_fit s.why (passed_to s.at d) (fit_head d s.at f l)

-- ---- the phase still goes with the mode

taking_fits : (n : ℕ) (m : Mode) → n + 1 ≤ 511 → m ≡ Writing → possible_phase (Taking (n + 1)) m ≡ true
unfolding possible_phase
taking_fits n m h w = simp (le-leb 1 (n + 1) (omega arith), le-leb (n + 1) 511 h, w)

giving_fits : (n : ℕ) (m : Mode) → n + 1 ≤ 511 → m ≡ Reading → possible_phase (Giving (n + 1)) m ≡ true
unfolding possible_phase
giving_fits n m h w = simp (le-leb 1 (n + 1) (omega arith), le-leb (n + 1) 511 h, w)

fewer_fit : (k : ℕ) (m : Mode) → leb k 1 ≡ false → possible_phase (Status k) m ≡ true → possible_phase (Status (k - 1)) m ≡ true
unfolding possible_phase
fewer_fit k m e h =
    let a = leb-false k 1 e in
    let b = leb-true k 6 (both (leb 1 k) (leb k 6) h).1 in
    simp (le-leb 1 (k - 1) (omega (arith, a)), le-leb (k - 1) 6 (omega (arith, b)))

six_fit : (m : Mode) → possible_phase (Status 6) m ≡ true
unfolding possible_phase
six_fit m = refl

octet_land : (k : ℕ) (p : Port) (m : Mode) → p.selected ≤ 3 → possible_phase (Status k) m ≡ true → Landing p.selected (at_phase (after_octet k) p) m
unfolding pick
octet_land k p m l h = go (leb k 1) refl
  where
    go : (b : Bool) → leb k 1 ≡ b → Landing p.selected (at_phase (pick b Rest (Status (k - 1))) p) m
    go true e = rests refl l
    go false e = stays refl (fewer_fit k m e h)

-- a protected drive is not Writing
open_plug : (m : Mode) (l p : Bool) → mode_fits m l p ≡ true → m ≡ Writing → p ≡ true → ⊥
open_plug Idle l p h w q = let z : ◌≡◌ {A = ℕ} 0 1 = cc in omega arith
open_plug Writing l p h w q = true≢false (sym (both l (not p) h).1 ∙ ap not q)
open_plug Reading l p h w q = let z : ◌≡◌ {A = ℕ} 0 1 = cc in omega arith

-- a drive that is Writing has a cartridge
pub has_cartridge : (m : Mode) (l p : Bool) → mode_fits m l p ≡ true → m ≡ Writing → l ≡ true
has_cartridge Idle l p h w = cc
has_cartridge Writing l p h w = (both l (not p) h).0
has_cartridge Reading l p h w = cc

module _ (g : List ℕ) (w512 : length g ≡ 512) (s : Seat) (ok : SoundSeat s) where
  writing_loaded : s.drive.mode ≡ Writing → s.drive.loaded ≡ true
  writing_loaded w = has_cartridge s.drive.mode s.drive.loaded s.drive.protected ok.fit.mode w

  -- only the record changed, at Rest
  quiet : (m : Acted) → m.tape ≡ s.tape → m.moved.port.phase ≡ Rest → m.moved.port.selected ≡ s.port.selected → Fit m.moved.drive
      → Good s m
  quiet m t p n f = record { fit = f; long = ap length t; land = rests p (rw n ok.sel); plug = λ _. t; slot = λ _. t }

  mark_good : (m : Acted) → s.drive.loaded ≡ true → s.drive.protected ≡ false → s.drive.head + 1 ≤ length s.tape
      → m.tape ≡ recorded s.tape s.drive.head mark_record
      → m.moved.port.phase ≡ Rest → m.moved.port.selected ≡ s.port.selected → Fit m.moved.drive → Good s m
  mark_good m i o r t p n f =
      record {
        fit = f;
        long = ap length t
            ∙ recorded_length s.tape mark_record s.drive.head r;
        land = rests p (rw n ok.sel);
        plug = λ q. absurd (true≢false (sym q ∙ o));
        slot = λ q. absurd (true≢false (sym i ∙ q));
      }

  block_good : (m : Acted) → s.drive.mode ≡ Writing → s.drive.head + block_asks s.drive.late ≤ length s.tape
      → m.tape ≡ recorded s.tape s.drive.head (block_record g)
      → m.moved.port.phase ≡ Rest → m.moved.port.selected ≡ s.port.selected → Fit m.moved.drive → Good s m
  block_good m w r t p n f =
      record {
        fit = f;
        long = ap length t ∙ recorded_length s.tape (block_record g) s.drive.head (rw w512 (omega (arith, room_behind s.drive.late s.drive.head (length s.tape) r)));
        land = rests p (rw n ok.sel);
        plug = λ q. absurd (open_plug s.drive.mode s.drive.loaded s.drive.protected ok.fit.mode w q);
        slot = λ q. absurd (true≢false (sym (writing_loaded w) ∙ q));
      }

  writing_open : s.drive.mode ≡ Writing → s.drive.protected ≡ false
  writing_open w = go s.drive.protected refl
    where
      go : (p : Bool) → s.drive.protected ≡ p → p ≡ false
      go true e = absurd (open_plug s.drive.mode s.drive.loaded s.drive.protected ok.fit.mode w e)
      go false e = refl

  fit_block : s.drive.head + block_asks s.drive.late ≤ length s.tape → Fit (one_less (made (s.drive.head + 513) s.drive))
  fit_block r =
      record {
        near = omega (arith, room_behind s.drive.late s.drive.head (length s.tape) r, ok.near);
        mode = ok.fit.mode;
        late = less_fits s.drive.mode s.drive.late ok.fit.late;
      }

  pub does_good : (a : Act) (m : Acted) → Acts.Does g s a m → Good s m
  does_good a m (Acts.selects c n l e) =
      record { fit = record { near = ok.fit.near; mode = ok.fit.mode; late = ok.fit.late }; long = refl; land = rests refl l; plug = λ _. refl; slot = λ _. refl }
  does_good a m (Acts.rewinds c i) = quiet m refl refl refl (fit_head s.drive 0 ok.fit zero-le)
  does_good a m (Acts.erases p) =
      record {
        fit = fit_head s.drive 0 ok.fit zero-le;
        long = length-replicate _ _;
        land = rests refl ok.sel;
        plug = λ q. absurd (true≢false (sym q ∙ p.plug));
        slot = λ q. absurd (true≢false (sym (not_not s.drive.loaded p.cartridge) ∙ q));
      }
  does_good a m (Acts.sets_writing p) =
      quiet m refl refl refl
      (record {
        near = ok.fit.near;
        mode = join s.drive.loaded (not s.drive.protected) (not_not s.drive.loaded p.cartridge)
            (ap not p.plug);
        late = allowed_fits s.drive.head (length s.tape);
      })
  does_good a m (Acts.records_mark p) =
      let r : s.drive.head + 1 ≤ length s.tape = leb-true _ _ p.room in
      mark_good m (not_not s.drive.loaded p.cartridge) p.plug r refl refl refl
      (fit_idle (made (s.drive.head + 1) s.drive) (fit_head s.drive (s.drive.head + 1) ok.fit (omega (arith, ok.near))))
  does_good a m (Acts.sets_reading c p) =
      quiet m refl refl refl (checked_fit s.tape (in_mode Reading s.drive) ok.near
      (record { near = ok.fit.near; mode = not_not s.drive.loaded p.cartridge; late = refl }))
  does_good a m (Acts.searches c) =
      quiet m refl refl refl (standing_fit (passed s.tape s.drive.head) s.drive ok.fit
      (passed_within s.tape s.drive.head longest ok.near ok.fit.near))
  does_good a m Acts.reports =
      record {
        fit = record { near = ok.fit.near; mode = ok.fit.mode; late = ok.fit.late };
        long = refl;
        land = stays refl (six_fit s.drive.mode);
        plug = λ _. refl;
        slot = λ _. refl;
      }
  does_good a m (Acts.faults c b) = quiet m refl refl refl (record { near = ok.fit.near; mode = ok.fit.mode; late = ok.fit.late })
  does_good a m (Acts.meets_plug c) = quiet m refl refl refl (record { near = ok.fit.near; mode = ok.fit.mode; late = ok.fit.late })
  does_good a m (Acts.finds_no_room c) = quiet m refl refl refl (fit_stop Eom s.drive ok.fit)
  does_good a m (Acts.drops_block b) = quiet m refl refl refl (fit_stop Eom s.drive ok.fit)
  does_good a m (Acts.finds_no_block k q n) = quiet m refl refl refl (halted_fit (spoilt (found_at s.tape s.drive.head)) s.drive ok.fit)
  does_good a m (Acts.stages b n l w) =
      record { fit = ok.fit; long = refl; land = stays refl (taking_fits n s.drive.mode l w); plug = λ _. refl; slot = λ _. refl }
  does_good a m (Acts.records_block b q w r n) = block_good m w r refl refl refl (fit_block r)
  does_good a m (Acts.records_last b q w r) = block_good m w r refl refl refl (fit_stop Eom (one_less (made (s.drive.head + 513) s.drive)) (fit_block r))
  does_good a m (Acts.hands_octet k e) =
      record { fit = ok.fit; long = refl; land = octet_land k s.port s.drive.mode ok.sel (rw e at ok.phase); plug = λ _. refl; slot = λ _. refl }
  does_good a m (Acts.hands_byte n l w e) =
      record { fit = ok.fit; long = refl; land = stays refl (giving_fits n s.drive.mode l w); plug = λ _. refl; slot = λ _. refl }
  does_good a m (Acts.hands_last q w e) =
      quiet m refl refl refl
      (checked_fit s.tape _ ok.near
      (fit_head s.drive (s.drive.head + 513) ok.fit (omega (arith, block_fits s.tape s.drive.head e, ok.near))))
  does_good a m (Acts.meets_edge q r) = quiet m refl refl refl (checked_fit s.tape s.drive ok.near ok.fit)
  does_good a m Acts.goes_up = quiet m refl refl refl ok.fit
  does_good a m Acts.goes_down = quiet m refl refl refl ok.fit
  does_good a m Acts.goes_idle = quiet m refl refl refl (fit_idle s.drive ok.fit)
  does_good a m Acts.goes_home = quiet m refl refl refl (fit_head (in_mode Idle s.drive) 0 (fit_idle s.drive ok.fit) zero-le)
  does_good a m (Acts.leaves_mark u x w r) =
      mark_good m (writing_loaded w) (writing_open w) r refl refl refl (fit_head (in_mode Idle s.drive) 0 (fit_idle s.drive ok.fit) zero-le)
  does_good a m Acts.has_no_room = quiet m refl refl refl (fit_stop Eom s.drive ok.fit)
