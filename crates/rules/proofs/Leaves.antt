-- What holds at every leaf of an act: EXCEPTION, the report, the tape, the byte.
use Prim.Native.Nat.{ℕ, ◌+◌, ◌≤◌}
use mathlib.Core.Path.{◌≡◌, refl, sym, ap, ◌∙◌}
use mathlib.Core.Bool.{Bool, true, false, not, false≢true, true≢false}
use mathlib.Core.List.{List}
use Rattle.std.specs.Prelude.{None, is_some}
use native.Mathlib.Omega.{arith}
use lib.ListN.{length}
use borrow.Author.Tests.{leb-true}
use Rattle.std.specs.Prelude.{Result, Ok, Err}
use Rattle.tape.specs.declared.found.Kind.{Kind}
use Rattle.tape.specs.declared.found.Kind.TheVariants.{Block, Mark}
use Rattle.tape.specs.declared.found.Why.{Why}
use Rattle.tape.specs.declared.found.Why.TheVariants.{End, Unknown, Bad}
use Rattle.tape.specs.declared.pass.Stopped.{Stopped}
use Rattle.tape.specs.Record.{found_at}
use Rattle.tape.specs.Recording.{erased}
use Rattle.tape.specs.Walk.{passed}
use Rattle.rules.specs.declared.drive.Drive.{Drive}
use Rattle.rules.specs.declared.drive.Latched.{Latched}
use Rattle.rules.specs.declared.drive.Mode.TheVariants.{Reading}
use Rattle.rules.specs.declared.drive.Bit.{Bit}
use Rattle.rules.specs.declared.drive.Bit.TheVariants.{Cni, Eom, Ude, Bnl, Fil, Ill, Ndt, Por}
use Rattle.rules.specs.declared.phase.Phase.TheVariants.{Rest, Taking, Giving}
use Rattle.rules.specs.declared.event.Act.{Act}
use Rattle.rules.specs.declared.event.Act.TheVariants.{Command, Give, Take, Online, Offline}
use Rattle.rules.specs.Drive.{with_bit, in_mode, passed_to, writes}
use Rattle.rules.specs.Promises.Changes.{block_asks}
use Rattle.rules.specs.Phase.{at_rest}
use Rattle.rules.specs.Edge.{is_block, halted, spoilt, edged, checked, standing}
use Rattle.rules.specs.Effect.{Seat, Acted, with_mark, with_block}
use Rattle.rules.specs.Promises.Status.{BitsStay, ReportStays}
use Rattle.rules.proofs.Acts

-- ---- the edge check and the search

halted_up : (w : Why) (d : Drive) → (halted w d).exception ≡ true
halted_up End d = refl
halted_up Unknown d = refl
halted_up Bad d = refl

standing_up : (r : Result ℕ Stopped) (d : Drive) → (standing r d).exception ≡ true
standing_up (Ok at) d = refl
standing_up (Err s) d = halted_up s.why (passed_to s.at d)

edged_up : (f : Result Kind Why) (d : Drive) → not (is_block f) ≡ true → (edged f d).exception ≡ true
edged_up (Ok Block) d h = absurd (false≢true h)
edged_up (Ok Mark) d h = refl
edged_up (Err w) d h = halted_up w d

edged_same : (f : Result Kind Why) (d : Drive) → not (is_block f) ≡ false → edged f d ≡ d
edged_same (Ok Block) d h = refl
edged_same (Ok Mark) d h = absurd (true≢false h)
edged_same (Err w) d h = absurd (true≢false h)

pub checked_up : (t : List ℕ) (d : Drive) → (checked t d).raised ≡ true → (checked t d).drive.exception ≡ true
unfolding checked
checked_up t d h = edged_up (found_at t d.head) d h

pub checked_same : (t : List ℕ) (d : Drive) → (checked t d).raised ≡ false → (checked t d).drive ≡ d
unfolding checked
checked_same t d h = edged_same (found_at t d.head) d h

edged_held : (f : Result Kind Why) (d : Drive) → d.exception ≡ true → (edged f d).exception ≡ true
edged_held (Ok Block) d h = h
edged_held (Ok Mark) d h = refl
edged_held (Err w) d h = halted_up w d

checked_held : (t : List ℕ) (d : Drive) → d.exception ≡ true → (checked t d).drive.exception ≡ true
unfolding checked
checked_held t d h = edged_held (found_at t d.head) d h

-- ---- a bit latched leaves the others

bits_same : (k : Latched) → BitsStay k k
bits_same k = record { cni = λ h. h; eom = λ h. h; ude = λ h. h; bnl = λ h. h; fil = λ h. h; ill = λ h. h; ndt = λ h. h; por = λ h. h }

bits_more : (b : Bit) (k : Latched) → BitsStay k (with_bit b k)
bits_more Cni k = record { cni = λ h. refl; eom = λ h. h; ude = λ h. h; bnl = λ h. h; fil = λ h. h; ill = λ h. h; ndt = λ h. h; por = λ h. h }
bits_more Eom k = record { cni = λ h. h; eom = λ h. refl; ude = λ h. h; bnl = λ h. h; fil = λ h. h; ill = λ h. h; ndt = λ h. h; por = λ h. h }
bits_more Ude k = record { cni = λ h. h; eom = λ h. h; ude = λ h. refl; bnl = λ h. h; fil = λ h. h; ill = λ h. h; ndt = λ h. h; por = λ h. h }
bits_more Bnl k = record { cni = λ h. h; eom = λ h. h; ude = λ h. h; bnl = λ h. refl; fil = λ h. h; ill = λ h. h; ndt = λ h. h; por = λ h. h }
bits_more Fil k = record { cni = λ h. h; eom = λ h. h; ude = λ h. h; bnl = λ h. h; fil = λ h. refl; ill = λ h. h; ndt = λ h. h; por = λ h. h }
bits_more Ill k = record { cni = λ h. h; eom = λ h. h; ude = λ h. h; bnl = λ h. h; fil = λ h. h; ill = λ h. refl; ndt = λ h. h; por = λ h. h }
bits_more Ndt k = record { cni = λ h. h; eom = λ h. h; ude = λ h. h; bnl = λ h. h; fil = λ h. h; ill = λ h. h; ndt = λ h. refl; por = λ h. h }
bits_more Por k = record { cni = λ h. h; eom = λ h. h; ude = λ h. h; bnl = λ h. h; fil = λ h. h; ill = λ h. h; ndt = λ h. h; por = λ h. refl }

pub report_same : (d e : Drive) → e.latched ≡ d.latched → e.errors ≡ d.errors → e.underruns ≡ d.underruns → ReportStays d e
report_same d e l x n = record { bits = rw l (bits_same d.latched); errors = rw x (omega arith); underruns = rw n (omega arith) }

-- a move that leaves the report, and then one that adds to it
report_then : (d e f : Drive) → e.latched ≡ d.latched → e.errors ≡ d.errors → e.underruns ≡ d.underruns → ReportStays e f → ReportStays d f
report_then d e f l x n r = record { bits = rw l at r.bits; errors = rw x at r.errors; underruns = rw n at r.underruns }

pub report_more : (d e : Drive) (b : Bit) → e.latched ≡ with_bit b d.latched → e.errors ≡ d.errors → e.underruns ≡ d.underruns
    → ReportStays d e
report_more d e b l x n = record { bits = rw l (bits_more b d.latched); errors = rw x (omega arith); underruns = rw n (omega arith) }

halted_bits : (w : Why) (d : Drive) → BitsStay d.latched (halted w d).latched
halted_bits End d = record { cni = λ h. cc; eom = λ h. cc; ude = λ h. cc; bnl = λ h. cc; fil = λ h. cc; ill = λ h. cc; ndt = λ h. cc; por = λ h. cc }
halted_bits Unknown d = record { cni = λ h. cc; eom = λ h. cc; ude = λ h. cc; bnl = λ h. cc; fil = λ h. cc; ill = λ h. cc; ndt = λ h. cc; por = λ h. cc }
halted_bits Bad d = record { cni = λ h. cc; eom = λ h. cc; ude = λ h. cc; bnl = λ h. cc; fil = λ h. cc; ill = λ h. cc; ndt = λ h. cc; por = λ h. cc }

halted_counts : (w : Why) (d : Drive) → ((halted w d).errors ≡ d.errors) × ((halted w d).underruns ≡ d.underruns)
halted_counts End d = (refl, refl)
halted_counts Unknown d = (refl, refl)
halted_counts Bad d = (refl, refl)

halted_report : (w : Why) (d : Drive) (h : ℕ) → ReportStays d (halted w (passed_to h d))
halted_report w d h =
    let n = halted_counts w (passed_to h d) in
    record { bits = halted_bits w (passed_to h d); errors = rw n.0 (omega arith); underruns = rw n.1 (omega arith) }

standing_report : (r : Result ℕ Stopped) (d : Drive) → ReportStays d (standing r d)
standing_report (Ok at) d = report_more d _ Fil refl refl refl
standing_report (Err s) d = halted_report s.why d s.at

edged_report : (f : Result Kind Why) (d : Drive) → ReportStays d (edged f d)
edged_report (Ok Block) d = report_same d d refl refl refl
edged_report (Ok Mark) d = report_more d _ Fil refl refl refl
edged_report (Err w) d = halted_report w d d.head

checked_report : (t : List ℕ) (d : Drive) → ReportStays d (checked t d).drive
unfolding checked
checked_report t d = edged_report (found_at t d.head) d

-- ---- each leaf

abbrev is_take : Act → Bool
is_take (Command c) = false
is_take (Give b) = false
is_take Take = true
is_take Online = false
is_take Offline = false

rest_is_not_511 : Rest ≡ Giving 511 → ⊥
rest_is_not_511 e = true≢false (ap at_rest e)

module _ (g : List ℕ) (s : Seat) where
  -- The next byte is the last of a whole block.
  pub record Last : Type 0 where
    pub place : s.port.phase ≡ Giving 511
    pub whole : found_at s.tape s.drive.head ≡ Ok Block

  -- What an act does to the tape, and when.
  pub data Changes (a : Act) (m : Acted) : List ℕ → Type 0 where
    kept : Changes a m s.tape
    erases : a ≡ Command 34 → m.moved.raised ≡ false → Changes a m (erased s.tape)
    marks : a ≡ Command 96 → m.moved.raised ≡ false → s.drive.head + 1 ≤ length s.tape → Changes a m (with_mark s.drive s.tape)
    leaves_mark : a ≡ Offline → s.port.online ≡ true → writes s.drive ≡ true → m.moved.raised ≡ false
        → s.drive.head + 1 ≤ length s.tape → Changes a m (with_mark s.drive s.tape)
    blocks : (b : ℕ) → a ≡ Give b → s.port.phase ≡ Taking 511 → s.drive.head + block_asks s.drive.late ≤ length s.tape
        → Changes a m (with_block g s.drive s.tape)

  pub record Leaf (a : Act) (m : Acted) : Type 0 where
    -- A drive whose EXCEPTION is up keeps it, but by READ STATUS.
    pub held : s.drive.exception ≡ true → (a ≡ Command 192 → ⊥) → m.moved.drive.exception ≡ true
    -- Where a rule raised EXCEPTION it is up; where none did it did not rise.
    pub raise : m.moved.raised ≡ true → m.moved.drive.exception ≡ true
    pub quiet : m.moved.raised ≡ false → m.moved.drive.exception ≡ true → s.drive.exception ≡ true
    -- Latched bits and counts stay, but by READ STATUS.
    pub report : (a ≡ Command 192 → ⊥) → ReportStays s.drive m.moved.drive
    pub change : Changes a m m.tape
    -- A byte comes with event 03, and with an exception only as byte 512 of a whole block; and then it does come.
    pub taken : is_some m.moved.byte ≡ true → a ≡ Take
    pub last : is_some m.moved.byte ≡ true → m.moved.raised ≡ true → Last
    pub comes : a ≡ Take → m.moved.raised ≡ false → is_some m.moved.byte ≡ true
    pub last_comes : a ≡ Take → Last → is_some m.moved.byte ≡ true

  -- What a leaf leaves of EXCEPTION, bits and counts: all as it was, or EXCEPTION up with one bit more or none, or what a check or a search left.
  record Reported (m : Acted) : Type 0 where
    held : s.drive.exception ≡ true → m.moved.drive.exception ≡ true
    raise : m.moved.raised ≡ true → m.moved.drive.exception ≡ true
    quiet : m.moved.raised ≡ false → m.moved.drive.exception ≡ true → s.drive.exception ≡ true
    report : ReportStays s.drive m.moved.drive

  calm : (m : Acted) → m.moved.raised ≡ false → m.moved.drive.exception ≡ s.drive.exception → ReportStays s.drive m.moved.drive
      → Reported m
  calm m r e b = record { held = λ u. e ∙ u; raise = λ h. absurd (false≢true (sym r ∙ h)); quiet = λ _ u. sym e ∙ u; report = b }

  loud : (m : Acted) → m.moved.raised ≡ true → m.moved.drive.exception ≡ true → ReportStays s.drive m.moved.drive → Reported m
  loud m r e b = record { held = λ _. e; raise = λ _. e; quiet = λ h _. absurd (true≢false (sym r ∙ h)); report = b }

  as_was : (m : Acted) → m.moved.raised ≡ false → m.moved.drive.exception ≡ s.drive.exception → m.moved.drive.latched ≡ s.drive.latched
      → m.moved.drive.errors ≡ s.drive.errors → m.moved.drive.underruns ≡ s.drive.underruns → Reported m
  as_was m r e l x n = calm m r e (report_same s.drive m.moved.drive l x n)

  one_bit : (m : Acted) (b : Bit) → m.moved.raised ≡ true → m.moved.drive.exception ≡ true
      → m.moved.drive.latched ≡ with_bit b s.drive.latched
      → m.moved.drive.errors ≡ s.drive.errors → m.moved.drive.underruns ≡ s.drive.underruns → Reported m
  one_bit m b r e l x n = loud m r e (report_more s.drive m.moved.drive b l x n)

  -- the edge check made on a record d that has the drive's report
  edge : (m : Acted) (d : Drive) → d.exception ≡ s.drive.exception → d.latched ≡ s.drive.latched → d.errors ≡ s.drive.errors
      → d.underruns ≡ s.drive.underruns
      → m.moved.raised ≡ (checked s.tape d).raised → m.moved.drive ≡ (checked s.tape d).drive → Reported m
  edge m d e l x n r q =
      record {
        held = λ u. ap (λ (y : Drive). y.exception) q ∙ checked_held s.tape d (e ∙ u);
        raise = λ h. ap (λ (y : Drive). y.exception) q ∙ checked_up s.tape d (sym r ∙ h);
        quiet =
            λ h u. sym e ∙ sym (ap (λ (y : Drive). y.exception) (checked_same s.tape d (sym r ∙ h)))
            ∙ sym (ap (λ (y : Drive). y.exception) q) ∙ u;
        report = rw q (report_then s.drive d _ l x n (checked_report s.tape d));
      }

  -- no byte is handed out where one was asked for
  record Mute (m : Acted) : Type 0 where
    raised : m.moved.raised ≡ true
    no_last : Last → ⊥

  -- an act that asks for none
  other : (a : Act) (m : Acted) → is_take a ≡ false → a ≡ Take → Mute m
  other a m n e = absurd (true≢false (sym (ap is_take e) ∙ n))

  -- a leaf without a byte, with a byte that no exception follows, with byte 512
  silent : (a : Act) (m : Acted) → Reported m → Changes a m m.tape → m.moved.byte ≡ None → (a ≡ Take → Mute m) → Leaf a m
  silent a m r c n mute =
      record {
        held = λ u _. r.held u;
        raise = r.raise;
        quiet = r.quiet;
        report = λ _. r.report;
        change = c;
        taken = λ h. absurd (false≢true (sym (ap is_some n) ∙ h));
        last = λ h _. absurd (false≢true (sym (ap is_some n) ∙ h));
        comes = λ e h. absurd (true≢false (sym (mute e).raised ∙ h));
        last_comes = λ e h. absurd ((mute e).no_last h);
      }

  handing : (m : Acted) → Reported m → m.tape ≡ s.tape → is_some m.moved.byte ≡ true → (m.moved.raised ≡ true → Last)
      → Leaf Take m
  handing m r t n z =
      record {
        held = λ u _. r.held u;
        raise = r.raise;
        quiet = r.quiet;
        report = λ _. r.report;
        change = rw t kept;
        taken = λ _. refl;
        last = λ _ h. z h;
        comes = λ _ _. n;
        last_comes = λ _ _. n;
      }

  pub does_leaf : (a : Act) (m : Acted) → Acts.Does g s a m → Leaf a m
  does_leaf a m (Acts.selects c k l e) = silent a m (as_was m refl refl refl refl refl) kept refl (other a m refl)
  does_leaf a m (Acts.rewinds c i) = silent a m (as_was m refl refl refl refl refl) kept refl (other a m refl)
  does_leaf a m (Acts.erases p) = silent a m (as_was m refl refl refl refl refl) (erases refl refl) refl (other a m refl)
  does_leaf a m (Acts.sets_writing p) = silent a m (as_was m refl refl refl refl refl) kept refl (other a m refl)
  does_leaf a m (Acts.records_mark p) = silent a m (as_was m refl refl refl refl refl) (marks refl refl (leb-true _ _ p.room)) refl (other a m refl)
  does_leaf a m (Acts.sets_reading c p) = silent a m (edge m (in_mode Reading s.drive) refl refl refl refl refl refl) kept refl (other a m refl)
  does_leaf a m (Acts.searches c) =
      let r = passed s.tape s.drive.head in
      silent a m (loud m refl (standing_up r s.drive) (standing_report r s.drive)) kept refl (other a m refl)
  does_leaf a m Acts.reports =
      record {
        held = λ _ n. absurd (n refl);
        raise = λ h. absurd (false≢true h);
        quiet = λ _ u. absurd (false≢true u);
        report = λ n. absurd (n refl);
        change = kept;
        taken = λ h. absurd (false≢true h);
        last = λ h _. absurd (false≢true h);
        comes = λ e _. absurd (true≢false (sym (ap is_take e)));
        last_comes = λ e _. absurd (true≢false (sym (ap is_take e)));
      }
  does_leaf a m (Acts.faults c b) = silent a m (one_bit m b refl refl refl refl refl) kept refl (other a m refl)
  does_leaf a m (Acts.meets_plug c) = silent a m (loud m refl refl (report_same s.drive _ refl refl refl)) kept refl (other a m refl)
  does_leaf a m (Acts.finds_no_room c) = silent a m (one_bit m Eom refl refl refl refl refl) kept refl (other a m refl)
  does_leaf a m (Acts.stages b k l w) = silent a m (as_was m refl refl refl refl refl) kept refl (other a m refl)
  does_leaf a m (Acts.records_block b q w r n) = silent a m (as_was m refl refl refl refl refl) (blocks b refl q r) refl (other a m refl)
  does_leaf a m (Acts.records_last b q w r) = silent a m (one_bit m Eom refl refl refl refl refl) (blocks b refl q r) refl (other a m refl)
  does_leaf a m (Acts.drops_block b) = silent a m (one_bit m Eom refl refl refl refl refl) kept refl (other a m refl)
  does_leaf a m (Acts.hands_octet k e) = handing m (as_was m refl refl refl refl refl) refl refl (λ h. absurd (false≢true h))
  does_leaf a m (Acts.hands_byte k l w e) = handing m (as_was m refl refl refl refl refl) refl refl (λ h. absurd (false≢true h))
  does_leaf a m (Acts.hands_last q w e) =
      handing m (edge m (passed_to (s.drive.head + 513) s.drive) refl refl refl refl refl refl) refl refl (λ _. record { place = q; whole = e })
  does_leaf a m (Acts.meets_edge q r) = silent a m (edge m s.drive refl refl refl refl (sym r) refl) kept refl
      (λ _. record { raised = refl; no_last = λ l. rest_is_not_511 (sym q ∙ l.place) })
  does_leaf a m (Acts.finds_no_block k q n) =
      let w = spoilt (found_at s.tape s.drive.head) in
      silent a m (loud m refl (halted_up w s.drive) (halted_report w s.drive s.drive.head)) kept refl
      (λ _. record { raised = refl; no_last = λ l. true≢false (sym (ap is_block l.whole) ∙ n) })
  does_leaf a m Acts.goes_up = silent a m (as_was m refl refl refl refl refl) kept refl (other a m refl)
  does_leaf a m Acts.goes_down = silent a m (as_was m refl refl refl refl refl) kept refl (other a m refl)
  does_leaf a m Acts.goes_idle = silent a m (as_was m refl refl refl refl refl) kept refl (other a m refl)
  does_leaf a m Acts.goes_home = silent a m (as_was m refl refl refl refl refl) kept refl (other a m refl)
  does_leaf a m (Acts.leaves_mark u x w r) = silent a m (as_was m refl refl refl refl refl) (leaves_mark refl u (rw (w, x)) refl r) refl (other a m refl)
  does_leaf a m Acts.has_no_room = silent a m (one_bit m Eom refl refl refl refl refl) kept refl (other a m refl)
