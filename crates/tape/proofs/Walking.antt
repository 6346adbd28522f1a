-- The laws of the walk. How many records it may take does not matter, as long as it reaches the tape's end.
use Prim.Native.Nat.{ℕ, zero, suc, ◌+◌, ◌-◌, ◌≤◌, ◌<◌}
use mathlib.Core.Path.{◌≡◌, refl, sym, ap, ◌∙◌}
use mathlib.Core.List.{List}
use native.Mathlib.Omega.{arith}
use native.Mathlib.Numerals.{add-one}
use native.Mathlib.Nat.{not-suc-le-zero, add-zero}
use lib.ListN.{length}
use Rattle.std.specs.Prelude.{Result, Ok, Err}
use Rattle.tape.specs.declared.found.Kind.{Kind}
use Rattle.tape.specs.declared.found.Kind.TheVariants.{Block, Mark}
use Rattle.tape.specs.declared.found.Why.TheVariants.{Bad}
use Rattle.tape.specs.Record.{found_at}
use Rattle.tape.specs.declared.found.Why.{Why}
use Rattle.tape.specs.declared.pass.Stopped.{Stopped}
use Rattle.tape.specs.declared.pass.Way.{Way}
use Rattle.tape.specs.Walk.{Trail, end_of, block, mark, stop, walk, trail, start_of, past_marks, marks_past, records_past, way_past}
use Rattle.tape.specs.Laws.{off_tape, TrailBlock, TrailMark, TrailStop, TrailStart, Walks, over_block, over_mark, at_stop, TrailWalks, PassedWithin, PassedStops}
use Rattle.tape.proofs.Standing.{case_found, block_fits, mark_fits}

walk_off : (t : List ℕ) (n h : ℕ) → length t < h → walk t n h ≡ stop h Bad
unfolding walk
walk_off t zero h l = refl
walk_off t (suc n) h l = rw (case_found t h (Err Bad) (off_tape l), walk)

walk_more : (t : List ℕ) (n m h : ℕ) → length t < n + h → length t < m + h → walk t n h ≡ walk t m h
unfolding walk
walk_more t zero m h a b = sym (walk_off t m h (omega arith))
walk_more t (suc n) zero h a b = walk_off t (suc n) h (omega arith)
walk_more t (suc n) (suc m) h a b = go (found_at t h) refl (λ k p q. walk_more t n m k p q)
  where
    go : (f : Result Kind Why) → found_at t h ≡ f → ((k : ℕ) → length t < n + k → length t < m + k → walk t n k ≡ walk t m k)
        → walk t (suc n) h ≡ walk t (suc m) h
    go (Ok Block) e ih = rw (e, walk, ih (h + 513) (omega arith) (omega arith))
    go (Ok Mark) e ih = rw (e, walk, ih (h + 1) (omega arith) (omega arith))
    go (Err w) e ih = rw (e, walk)

pub trail_block : TrailBlock
unfolding trail walk
trail_block t h e = rw (e, walk) (ap (block h) (walk_more t (length t) (suc (length t)) (h + 513) (omega arith) (omega arith)))

pub trail_mark : TrailMark
unfolding trail walk
trail_mark t h e = rw (e, walk) (ap (mark h) (walk_more t (length t) (suc (length t)) (h + 1) (omega arith) (omega arith)))

pub trail_stop : TrailStop
unfolding trail walk
trail_stop t h w e = rw (e, walk)

pub trail_start : TrailStart
trail_start t h = go (found_at t h) refl
  where
    go : (f : Result Kind Why) → found_at t h ≡ f → start_of (trail t h) ≡ h
    go (Ok Block) e = rw (trail_block t h e)
    go (Ok Mark) e = rw (trail_mark t h e)
    go (Err w) e = rw (trail_stop t h w e)

walk_way : (t : List ℕ) (n h : ℕ) → length t < n + h → Walks t h (walk t n h)
unfolding walk
walk_way t zero h l = at_stop (case_found t h (Err Bad) (off_tape (omega arith)))
walk_way t (suc n) h l = go (found_at t h) refl (λ k p. walk_way t n k p)
  where
    go : (f : Result Kind Why) → found_at t h ≡ f → ((k : ℕ) → length t < n + k → Walks t k (walk t n k)) → Walks t h (walk t (suc n) h)
    go (Ok Block) e ih = rw (e, walk) (over_block e (ih (h + 513) (omega arith)))
    go (Ok Mark) e ih = rw (e, walk) (over_mark e (ih (h + 1) (omega arith)))
    go (Err w) e ih = rw (e, walk) (at_stop e)

pub trail_way : TrailWalks
unfolding trail
trail_way t h = walk_way t (suc (length t)) h (omega arith)

pub way_start : {t : List ℕ} {h : ℕ} {r : Trail} → Walks t h r → start_of r ≡ h
way_start (over_block e w) = refl
way_start (over_mark e w) = refl
way_start (at_stop e) = refl

way_within : (t : List ℕ) (h b : ℕ) {r : Trail} → Walks t h r → length t ≤ b → h ≤ b → end_of (past_marks 1 r) ≤ b
way_within t h b (over_block e w) l p = way_within t (h + 513) b w l (omega (arith, block_fits t h e))
way_within t h b (over_mark e w) l p = rw (way_start w) (omega (arith, mark_fits t h e))
way_within t h b (at_stop e) l p = p

pub passed_within : PassedWithin
passed_within t h b l p = way_within t h b (trail_way t h) l p

way_stops : (t : List ℕ) (h : ℕ) {r : Trail} → Walks t h r → (n at : ℕ) (w : Why) → past_marks n r ≡ Err (record { at = at; why = w }) → found_at t at ≡ Err w
way_stops t h k zero at w q = cc
way_stops t h (over_block e k) (suc n) at w q = way_stops t (h + 513) k (suc n) at w q
way_stops t h (over_mark e k) (suc n) at w q = way_stops t (h + 1) k n at w q
way_stops t h (at_stop {w = v} e) (suc n) at w q =
    let s : ◌≡◌ {A = Stopped} (record { at = h; why = v }) (record { at = at; why = w }) = cc in
    let place : h ≡ at = ap (λ (x : Stopped). x.at) s in
    let reason : v ≡ w = ap (λ (x : Stopped). x.why) s in
    cc

pub passed_stops : PassedStops
passed_stops t h n at w q = way_stops t h (trail_way t h) n at w q

-- A way past n marks that goes on as one past k marks, with so many marks and one record passed in between.
pub record Over (n k marks : ℕ) (r s : Trail) : Type 0 where
  pub ends : past_marks n r ≡ past_marks k s
  pub marked : marks_past n r ≡ marks_past k s + marks
  pub counted : records_past n r ≡ records_past k s + 1

-- The way past n marks, where some are left to pass: over a block, over a mark, and at its end.
module _ (t : List ℕ) (h : ℕ) where
  pub way_block : (n : ℕ) → 0 < n → found_at t h ≡ Ok Block → Over n n 0 (trail t h) (trail t (h + 513))
  way_block zero l e = absurd (not-suc-le-zero l)
  way_block (suc n) l e =
      record {
        ends = ap (past_marks (suc n)) (trail_block t h e);
        marked = ap (marks_past (suc n)) (trail_block t h e) ∙ sym (add-zero _);
        counted = ap (records_past (suc n)) (trail_block t h e) ∙ rw add-one;
      }

  pub way_mark : (n : ℕ) → 0 < n → found_at t h ≡ Ok Mark → Over n (n - 1) 1 (trail t h) (trail t (h + 1))
  way_mark zero l e = absurd (not-suc-le-zero l)
  way_mark (suc n) l e =
      let q : suc n - 1 ≡ n = omega arith in
      record {
        ends = ap (past_marks (suc n)) (trail_mark t h e) ∙ rw q;
        marked = ap (marks_past (suc n)) (trail_mark t h e) ∙ rw (q, add-one (marks_past n (trail t (h + 1))));
        counted = ap (records_past (suc n)) (trail_mark t h e) ∙ rw (q, add-one (records_past n (trail t (h + 1))));
      }

  pub way_stop : (n : ℕ) → 0 < n → (w : Why) → found_at t h ≡ Err w
      → (past_marks n (trail t h) ≡ Err (record { at = h; why = w })) × ((marks_past n (trail t h) ≡ 0) × (records_past n (trail t h) ≡ 0))
  way_stop zero l w e = absurd (not-suc-le-zero l)
  way_stop (suc n) l w e =
      let stop = trail_stop t h w e in
      (ap (past_marks (suc n)) stop, (ap (marks_past (suc n)) stop, ap (records_past (suc n)) stop))

  pub way_none : past_marks 0 (trail t h) ≡ Ok h
  way_none = ap Ok (trail_start t h)

-- Where a way stands that began at h, with `left` of n marks still to pass and so many records behind it.
pub record StandsAt (t : List ℕ) (h n at left records : ℕ) : Type 0 where
  pub far : records + h ≤ at
  pub few : left ≤ n
  pub ends : past_marks left (trail t at) ≡ past_marks n (trail t h)
  pub marked : marks_past left (trail t at) + (n - left) ≡ marks_past n (trail t h)
  pub counted : records + records_past left (trail t at) ≡ records_past n (trail t h)

module _ (t : List ℕ) (h n : ℕ) where
  pub stands_first : StandsAt t h n h n 0
  stands_first = record { far = omega arith; few = omega arith; ends = refl; marked = omega arith; counted = omega arith }

  pub over_blocks : (at left records : ℕ) → StandsAt t h n at left records → 0 < left → found_at t at ≡ Ok Block
      → StandsAt t h n (at + 513) left (records + 1)
  over_blocks at left records s l e =
      let w = way_block t at left l e in
      record {
        far = omega (arith, s.far);
        few = s.few;
        ends = sym w.ends ∙ s.ends;
        marked = omega (arith, w.marked, s.marked);
        counted = omega (arith, w.counted, s.counted);
      }

  pub over_marks : (at left records : ℕ) → StandsAt t h n at left records → 0 < left → found_at t at ≡ Ok Mark
      → StandsAt t h n (at + 1) (left - 1) (records + 1)
  over_marks at left records s l e =
      let w = way_mark t at left l e in
      record {
        far = omega (arith, s.far);
        few = omega (arith, s.few);
        ends = sym w.ends ∙ s.ends;
        marked = omega (arith, w.marked, s.marked, s.few);
        counted = omega (arith, w.counted, s.counted);
      }

  abbrev made : Result ℕ Stopped → ℕ → ℕ → Way
  made end marks records = record { end = end; marks = marks; records = records }

  pub stopped_at : (at left records : ℕ) (w : Why) → StandsAt t h n at left records → 0 < left → found_at t at ≡ Err w
      → made (Err (record { at = at; why = w })) (n - left) records ≡ way_past t h n
  stopped_at at left records w s l e =
      let stop = way_stop t at left l w e in
      let end = sym stop.0 ∙ s.ends in
      let marks : n - left ≡ marks_past n (trail t h) = omega (arith, stop.1.0, s.marked) in
      let count : records ≡ records_past n (trail t h) = omega (arith, stop.1.1, s.counted) in
      rw (end, marks, count) refl

  pub past_all : (at left records : ℕ) → StandsAt t h n at left records → left ≤ 0 → made (Ok at) n records ≡ way_past t h n
  past_all at left records s l =
      let z : left ≡ 0 = omega (arith, l) in
      let end : Ok at ≡ past_marks n (trail t h) = sym (ap (λ (k : ℕ). past_marks k (trail t at)) z ∙ way_none t at) ∙ s.ends in
      let marks : n ≡ marks_past n (trail t h) = omega (arith, z, s.marked, ap (λ (k : ℕ). marks_past k (trail t at)) z) in
      let count : records ≡ records_past n (trail t h) = omega (arith, z, s.counted, ap (λ (k : ℕ). records_past k (trail t at)) z) in
      made_by end marks count
    where
      made_by : {e e' : Result ℕ Stopped} {m m' r r' : ℕ} → e ≡ e' → m ≡ m' → r ≡ r' → made e m r ≡ made e' m' r'
      made_by p q r = rw (p, q, r) refl
