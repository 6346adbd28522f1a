-- Bytes that stand on a tape.
use Prim.Native.Nat.{ℕ, zero, suc, ◌+◌, ◌≤◌, ◌<◌}
use mathlib.Core.Path.{◌≡◌, refl, sym, ap, ◌∙◌}
use mathlib.Core.List.{List, [], ◌∷◌, ◌++◌, append_assoc}
use native.Mathlib.Omega.{arith}
use native.Mathlib.Nat.{zero-add, suc-add, add-zero}
use lib.ListN.{length, get_or, take, drop, length-append, length-take, length-drop}
use lib.Seq.{take_at, drop_at, take-nil, take-take, take-add, drop-drop, get_or-take, get_or-drop, drop-cons, length-take-le}
use Rattle.std.specs.Prelude.{Ok}
use Rattle.tape.specs.declared.found.Kind.TheVariants.{Block, Mark}
use Rattle.tape.specs.Record.{mark_record, block_record, found_at}
use Rattle.tape.specs.Recording.{ended, recorded}
use Rattle.tape.specs.Walk.{Trail, block, mark, start_of, trail, past_marks}
use Rattle.tape.specs.Laws.{Stands, whole_block, one_mark, Walks, over_block, over_mark, at_stop}
use Rattle.tape.specs.Held.{Holds, RecordedHolds, RecordedOn, HoldsBefore, HoldsParts, HeldByte, HeldBlock, HeldMark, body_at, FoundHolds, PastSame, Next, PastNext}
use Rattle.tape.proofs.Standing.{case_found, found_case}
use Rattle.tape.proofs.Recorded.{recorded_before, recorded_from}
use Rattle.tape.proofs.Walking.{trail_block, trail_mark, trail_stop, trail_start, trail_way, way_start}

-- ---- recording

pub recorded_holds : RecordedHolds
recorded_holds t rec h fits = rw (recorded_from t rec h fits) (take_at rec (ended (drop (h + length rec) t)) (length rec) refl)

ended_twice : (n : ℕ) (l : List ℕ) → ended (drop n (ended l)) ≡ ended (drop n l)
ended_twice zero [] = refl
ended_twice zero (x ∷ xs) = refl
ended_twice (suc n) [] = refl
ended_twice (suc n) (x ∷ xs) = refl

-- up to the end of the first record, and behind it
first_part : (t a : List ℕ) (h : ℕ) → h + length a ≤ length t → take (h + length a) (recorded t h a) ≡ take h t ++ a
first_part t a h fits =
    take-add h (length a) (recorded t h a)
    ∙ rw (recorded_before t a h fits, recorded_from t a h fits, take_at a (ended (drop (h + length a) t)) (length a) refl)

rest_part : (t a : List ℕ) (h : ℕ) → h + length a ≤ length t → drop (h + length a) (recorded t h a) ≡ ended (drop (h + length a) t)
rest_part t a h fits =
    sym (drop-drop (length a) h (recorded t h a)) ∙ rw (recorded_from t a h fits) (drop_at a (ended (drop (h + length a) t)) (length a) refl)

both_sizes : (t a b : List ℕ) (h : ℕ) → drop (length (a ++ b)) (drop h t) ≡ drop (length b) (drop (h + length a) t)
both_sizes t a b h = rw length-append (sym (drop-drop (length b) (length a) (drop h t)) ∙ ap (drop (length b)) (drop-drop (length a) h t))

recorded_is : (t rec : List ℕ) (h : ℕ) → recorded t h rec ≡ take h t ++ (rec ++ ended (drop (length rec) (drop h t)))
unfolding recorded
recorded_is t rec h = refl

pub recorded_on : RecordedOn
recorded_on t a b h fits =
    recorded_is (recorded t h a) b (h + length a)
    ∙ rw (first_part t a h fits, rest_part t a h fits, ended_twice (length b) (drop (h + length a) t))
    (append_assoc (take h t) a (b ++ ended (drop (length b) (drop (h + length a) t)))
    ∙ ap (λ (x : List ℕ). take h t ++ x) (sym (append_assoc a b (ended (drop (length b) (drop (h + length a) t)))))
    ∙ ap (λ (x : List ℕ). take h t ++ ((a ++ b) ++ ended x)) (sym (both_sizes t a b h)))
    ∙ sym (recorded_is t (a ++ b) h)

-- ---- what stands at a place

middle : (k n : ℕ) (l : List ℕ) → take n (drop k l) ≡ drop k (take (k + n) l)
middle zero n l = rw zero-add
middle (suc k) n [] = rw (suc-add, take-nil n)
middle (suc k) n (x ∷ xs) = rw suc-add (middle k n xs)

pub holds_before : HoldsBefore
holds_before t t' bytes k h l e p =
    middle k (length bytes) t'
    ∙ ap (drop k) (sym (take-take (k + length bytes) h t' l) ∙ ap (take (k + length bytes)) e ∙ take-take (k + length bytes) h t l)
    ∙ sym (middle k (length bytes) t)
    ∙ p

pub holds_parts : HoldsParts
holds_parts t a b h p = (front, back)
  where
    whole : take (length a + length b) (drop h t) ≡ a ++ b
    whole = ap (λ (n : ℕ). take n (drop h t)) (sym (length-append a b)) ∙ p

    front : Holds t h a
    front =
        sym (take-take (length a) (length a + length b) (drop h t) (omega arith)) ∙ ap (take (length a)) whole ∙ take_at a b (length a) refl

    back : Holds t (h + length a) b
    back =
        ap (take (length b)) (sym (drop-drop (length a) h t))
        ∙ middle (length a) (length b) (drop h t)
        ∙ ap (drop (length a)) whole
        ∙ drop_at a b (length a) refl

pub held_byte : HeldByte
held_byte t bytes h i l p = sym (get_or-drop h t i 0) ∙ sym (get_or-take (length bytes) (drop h t) i 0 l) ∙ ap (λ (x : List ℕ). get_or x i 0) p

-- what stands there lies inside the tape
held_inside : (t bytes : List ℕ) (h : ℕ) → 0 < length bytes → Holds t h bytes → h + length bytes ≤ length t
held_inside t bytes h l p = omega (arith, length-take (length bytes) (drop h t), length-drop h t, ap length p, l)

pub held_block : HeldBlock
held_block t body h e p =
    let n : h + 513 ≤ length t = omega (arith, e, held_inside t (block_record body) h (omega arith) p) in
    case_found t h (Ok Block) (whole_block n (rw add-zero at (held_byte t (block_record body) h 0 (omega arith) p)))

pub held_mark : HeldMark
held_mark t h p =
    case_found t h (Ok Mark) (one_mark (omega (arith, held_inside t mark_record h (omega arith) p)) (rw add-zero at (held_byte t mark_record h 0 (omega arith) p)))

pub found_holds : FoundHolds
found_holds t h f = go (found_case t h (Ok Block) f)
  where
    go : Stands t h (Ok Block) → (length (body_at t h) ≡ 512) × Holds t h (block_record (body_at t h))
    go (whole_block b k) =
        let n : length (body_at t h) ≡ 512 = length-take-le 512 (drop (h + 1) t) (omega (arith, length-drop (h + 1) t)) in
        let q : suc h ≡ h + 1 = omega arith in
        let c : drop h t ≡ 1 ∷ drop (h + 1) t = drop-cons t h 0 (omega arith) ∙ rw (k, q) in
        (n, ap (λ (m : ℕ). take (suc m) (drop h t)) n ∙ ap (take 513) c)

-- ---- ways past marks

byte_same : (t u : List ℕ) (a k : ℕ) → take a t ≡ take a u → k < a → get_or u k 0 ≡ get_or t k 0
byte_same t u a k e l = sym (get_or-take a u k 0 l) ∙ ap (λ (x : List ℕ). get_or x k 0) (sym e) ∙ get_or-take a t k 0 l

block_same : (t u : List ℕ) (a k : ℕ) → take a t ≡ take a u → a ≤ length u → k + 513 ≤ a → found_at t k ≡ Ok Block → found_at u k ≡ Ok Block
block_same t u a k e n l f = go (found_case t k (Ok Block) f)
  where
    go : Stands t k (Ok Block) → found_at u k ≡ Ok Block
    go (whole_block b q) = case_found u k (Ok Block) (whole_block (omega arith) (byte_same t u a k e (omega arith) ∙ q))

mark_same : (t u : List ℕ) (a k : ℕ) → take a t ≡ take a u → a ≤ length u → k + 1 ≤ a → found_at t k ≡ Ok Mark → found_at u k ≡ Ok Mark
mark_same t u a k e n l f = go (found_case t k (Ok Mark) f)
  where
    go : Stands t k (Ok Mark) → found_at u k ≡ Ok Mark
    go (one_mark b q) = case_found u k (Ok Mark) (one_mark (omega arith) (byte_same t u a k e (omega arith) ∙ q))

-- the walk as a relation is the walk
way_is : {t : List ℕ} {h : ℕ} {r : Trail} → Walks t h r → r ≡ trail t h
way_is {t} {h} (over_block e w) = ap (block h) (way_is w) ∙ sym (trail_block t h e)
way_is {t} {h} (over_mark e w) = ap (mark h) (way_is w) ∙ sym (trail_mark t h e)
way_is {t} {h} (at_stop {w = w} e) = sym (trail_stop t h w e)

past_above : {t : List ℕ} {h : ℕ} {r : Trail} → Walks t h r → (n a : ℕ) → past_marks n r ≡ Ok a → h ≤ a
past_above {t} {h} {r} w zero a p = let q : start_of r ≡ a = cc in omega (arith, way_start w, q)
past_above {t} {h} (over_block {r = r} e w) (suc n) a p = let l = past_above {t = t} {h = h + 513} {r = r} w (suc n) a p in omega arith
past_above {t} {h} (over_mark {r = r} e w) (suc n) a p = let l = past_above {t = t} {h = h + 1} {r = r} w n a p in omega arith
past_above {t} {h} (at_stop e) (suc n) a p = absurd (let z : ◌≡◌ {A = ℕ} 0 1 = cc in omega arith)

same_way : {t : List ℕ} {h : ℕ} {r : Trail} (u : List ℕ) → Walks t h r → (n a : ℕ) → past_marks n r ≡ Ok a → take a t ≡ take a u → a ≤ length u
    → past_marks n (trail u h) ≡ Ok a
same_way {t} {h} u w zero a p e n = ap Ok (trail_start u h ∙ sym (way_start w)) ∙ p
same_way {t} {h} u (over_block {r = r} f w) (suc m) a p e n =
    let l = past_above w (suc m) a p in
    rw (trail_block u h (block_same t u a h e n l f)) (same_way {t = t} {h = h + 513} {r = r} u w (suc m) a p e n)
same_way {t} {h} u (over_mark {r = r} f w) (suc m) a p e n =
    let l = past_above w m a p in
    rw (trail_mark u h (mark_same t u a h e n l f)) (same_way {t = t} {h = h + 1} {r = r} u w m a p e n)
same_way {t} {h} u (at_stop f) (suc m) a p e n = absurd (let z : ◌≡◌ {A = ℕ} 0 1 = cc in omega arith)

pub past_same : PastSame
past_same t u h n a p e l = same_way u (trail_way t h) n a p e l

next_way : {t : List ℕ} {h : ℕ} {r : Trail} → Walks t h r → (n a : ℕ) → past_marks (suc n) r ≡ Ok a → Next t h n a
next_way {t} {h} (over_block f w) n a p =
    let x = next_way w n a p in record { mark = x.mark; first = ap (past_marks 1) (trail_block t h f) ∙ x.first; others = x.others }
next_way {t} {h} (over_mark f w) n a p =
    record {
      mark = h + 1;
      first = ap (past_marks 1) (trail_mark t h f) ∙ ap Ok (trail_start t (h + 1));
      others = ap (past_marks n) (sym (way_is w)) ∙ p;
    }
next_way {t} {h} (at_stop f) n a p = absurd (let z : ◌≡◌ {A = ℕ} 0 1 = cc in omega arith)

pub past_next : PastNext
past_next t h n a p = next_way (trail_way t h) n a p
