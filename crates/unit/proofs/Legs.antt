-- The legs of a call: a stretch of a block by one copy, and one byte by the step.
use Prim.Native.Nat.{ℕ, zero, suc, ◌+◌, ◌-◌, ◌≤◌, ◌<◌}
use mathlib.Core.Path.{◌≡◌, refl, sym, ap, ap₂, subst, ◌∙◌}
use mathlib.Core.Bool.{Bool, true, false, ◌&&◌, false≢true}
use mathlib.Core.List.{List, [], ◌∷◌, ◌++◌}
use native.Mathlib.Omega.{arith}
use native.Mathlib.Nat.{zero-add, suc-add}
use native.Mathlib.Numerals.{add-one}
use lib.ListN.{length, get_or, take, drop, take-append-drop, drop_of_length-le}
use lib.Seq.{length-take-le, drop-drop}
use lib.Dec.{eqb}
use Rattle.std.specs.Prelude.{Option, None, Some, is_some, option_to_list}
use Rattle.std.specs.List.{cons_option}
use Rattle.std.specs.Int.{from_bool}
use borrow.Author.Tests.{eqb-true}
use Rattle.basis.specs.Choice.{pick}
use Rattle.basis.specs.Placed.{placed}
use Rattle.basis.proofs.Placing.{placed_byte, placed_then}
use Rattle.rules.specs.declared.phase.Phase.{Phase}
use Rattle.rules.specs.declared.phase.Phase.TheVariants.{Taking, Giving}
use Rattle.rules.specs.declared.unit.Core.{Core}
use Rattle.rules.specs.declared.answer.Answer.{Answer}
use Rattle.rules.specs.declared.answer.Answer.TheVariants.{Taken}
use Rattle.rules.specs.declared.answer.Turn.{Turn}
use Rattle.rules.specs.Answer.{row_of}
use Rattle.rules.specs.Phase.{given_before, taken_before}
use Rattle.rules.specs.Unit.{Lent, drive_at, tape_at, put_staging, moved_to}
use Rattle.rules.specs.Refusal.{possible, short}
use Rattle.rules.specs.Step.{Steps}
use Rattle.rules.specs.Run.{World, world, given_each, taken_times}
use Rattle.rules.specs.Ran.{Ran, no_events, next}
use Rattle.rules.specs.Promises.Strike.{AllTaken, handed_out}
use Rattle.rules.proofs.Table.{numbers_tell_apart}
use Rattle.rules.proofs.Handing.{take_event}
use Rattle.rules.proofs.Blocks.{handed_append}
use Rattle.answers.specs.Moved.{moved_on}
use Rattle.unit.specs.declared.many.Handed.{Handed}
use Rattle.unit.specs.Handover.{is_zero, up_to, went_in, went_out, count_of, last_of, GivesOver, took, taken_over, TakesOver}
use Rattle.unit.specs.Ahead.{given_ahead, taken_ahead, next_bytes, glided, Leg, GivesSome, TakesSome}
use Rattle.unit.proofs.Bytes.{byte_then_rest}
use Rattle.unit.proofs.Demands.{demands_hold}
use Rattle.unit.proofs.Handover.{up_to_on, up_to_ends, UnderWay, goes_on, stops, ends, Sizes, all_sizes_on, Standing}
use Rattle.unit.proofs.Ahead.{renamed, given_glide, taken_glide, given_fits, taken_fits, taken_long}

-- 1 where a test holds, else 0
pub one_where : (b : Bool) → from_bool b ≡ pick b 1 0
unfolding pick
one_where true = refl
one_where false = refl

-- ---- The turns of a stretch

module _ (c : Core) (ph : ℕ → Phase) (out : ℕ → Option ℕ) where
  -- a byte that comes m-th
  abbrev turn_at : ℕ → ℕ → Turn
  turn_at m b = moved_on c (ph m) (out b) (is_some (out b))

  all_taken : (n : ℕ) (bs : List ℕ) → AllTaken (glided c ph out n bs)
  all_taken n [] = tt
  all_taken n (b ∷ bs) = (refl, all_taken (suc n) bs)

  count_each : (went : Turn → Bool) → ((m b : ℕ) → went (turn_at m b) ≡ true) → (n : ℕ) (bs : List ℕ)
      → count_of went (glided c ph out n bs) ≡ length bs
  unfolding pick
  count_each went so n [] = refl
  count_each went so n (b ∷ bs) = rw (so (suc n) b) (omega (arith, count_each went so (suc n) bs))

  -- the last of them
  last_glided : (x : Turn) (n b : ℕ) (bs : List ℕ)
      → last_of x (glided c ph out n (b ∷ bs)) ≡ turn_at (n + length (b ∷ bs)) (get_or (b ∷ bs) (length bs) 0)
  last_glided x n b [] = ap (λ (m : ℕ). turn_at m b) (sym (add-one n))
  last_glided x n b (b' ∷ bs) =
      let far : suc n + length (b' ∷ bs) ≡ n + length (b ∷ b' ∷ bs) = omega arith in
      last_glided (turn_at (suc n) b) (suc n) b' bs ∙ ap (λ (m : ℕ). turn_at m (get_or (b' ∷ bs) (length bs) 0)) far

  last_some : (x : Turn) (n : ℕ) (bs : List ℕ) → 1 ≤ length bs
      → last_of x (glided c ph out n bs) ≡ turn_at (n + length bs) (get_or bs (length bs - 1) 0)
  last_some x n [] some = absurd (none some)
    where
      none : 1 ≤ 0 → ⊥
      none h = omega (arith, h)
  last_some x n (b ∷ bs) some =
      let end : length bs ≡ length (b ∷ bs) - 1 = omega arith in
      last_glided x n b bs ∙ ap (λ (i : ℕ). turn_at (n + length (b ∷ bs)) (get_or (b ∷ bs) i 0)) end

out_each : (c : Core) (n : ℕ) (bs : List ℕ) → handed_out (glided c Giving Some n bs) ≡ bs
out_each c n [] = refl
out_each c n (b ∷ bs) = ap (λ (l : List ℕ). b ∷ l) (out_each c (suc n) bs)

-- a stretch is a leg: it goes on
stretch_leg : (went : Turn → Bool) (w : World) (es some rest : List (List ℕ)) (r : Handed) (l' : Lent) (rs : List Turn)
    → es ≡ some ++ rest → Ran w some rs (world r.last.core l') → AllTaken rs → ((x : Turn) → last_of x rs ≡ r.last) → count_of went rs ≡ r.count
    → is_zero r.last ≡ true → 1 ≤ r.count → Leg went w es r l' rest rs
stretch_leg went w es some rest r l' rs all ran zeros last count so moves =
    record {
      some = some;
      ran = ran;
      last = last;
      count = count;
      goes_on = λ _. ap (up_to w) all ∙ up_to_on w (world r.last.core l') some rest rs ran zeros;
      ends = λ other. absurd (false≢true (sym other ∙ so));
      moves = λ _. moves;
    }

-- answer 0 is the one that says taken
zero_taken : (a : Answer) → eqb (row_of a).number 0 ≡ true → a ≡ Taken
zero_taken a so = numbers_tell_apart a Taken (eqb-true (row_of a).number 0 so)

-- one event is a leg, whatever it is answered
step_leg : (went : Turn → Bool) (c : Core) (l : Lent) (e : List ℕ) (es behind rest : List (List ℕ)) (t : Turn) (l' : Lent) (k : ℕ)
    → Steps c l e t l' → k ≡ pick (went t) 1 0 → (is_zero t ≡ true → went t ≡ true) → es ≡ e ∷ behind → (k ≡ 1 → behind ≡ rest)
    → Leg went (world c l) es (record { count = k; last = t }) l' rest (t ∷ [])
unfolding pick
step_leg went c l e es behind rest t l' k step count goes first then =
    let one : is_zero t ≡ true → k ≡ 1 = λ so. count ∙ rw (goes so) refl in
    let w' = world t.core l' in
    record {
      some = e ∷ [];
      ran = next step no_events;
      last = λ x. refl;
      count = omega (arith, count);
      goes_on = λ so.
          ap (up_to (world c l)) first ∙ up_to_on (world c l) w' (e ∷ []) behind (t ∷ []) (next step no_events) (zero_taken t.answer so, tt)
          ∙ ap (λ (x : List (List ℕ)). e ∷ up_to w' x) (then (one so));
      ends = λ other. ap (up_to (world c l)) first ∙ up_to_ends c l e t l' behind step other;
      moves = λ so. omega (arith, one so);
    }

-- ---- What went over

-- a byte given that is answered 0 went over, and so did a byte taken
went_in_lem : (t : Turn) → is_zero t ≡ true → went_in t ≡ true
went_in_lem t so = rw (zero_taken t.answer so) refl

went_out_lem : (c : Core) (l : Lent) (t : Turn) (l' : Lent) → length l.staging ≡ 512 → Steps c l (3 ∷ []) t l' → is_zero t ≡ true → went_out t ≡ true
went_out_lem c l t l' size step so =
    (demands_hold.by_the_rules c l (3 ∷ []) t l' size step).bytes.comes take_event (zero_taken t.answer so)

-- ---- Bytes given

given_append : (xs ys : List ℕ) → given_each (xs ++ ys) ≡ given_each xs ++ given_each ys
given_append [] ys = refl
given_append (x ∷ xs) ys = ap (λ (l : List (List ℕ)). (2 ∷ x ∷ []) ∷ l) (given_append xs ys)

pub given_leg : (c : Core) (l : Lent) (bytes : List ℕ) (k : ℕ) (last : Turn) (g : List ℕ) → length l.staging ≡ 512
    → k ≡ given_ahead c (possible c && short l) (length bytes) → 1 ≤ k
    → last ≡ moved_on c (Taking (given_before c.port.phase + k)) None false → g ≡ placed l.staging (given_before c.port.phase) (take k bytes)
    → GivesSome c l bytes (record { count = k; last = last }) (put_staging l g)
given_leg c l bytes k last g size is some turn put =
    let n = given_before c.port.phase in
    let fits = given_fits c (possible c && short l) (length bytes) k is some in
    let bs = take k bytes in
    let long : length bs ≡ k = length-take-le k bytes fits in
    let glide = given_glide c l bs (length bytes) size (long ∙ is) (omega (arith, long, some)) in
    let end : world (moved_to c (Taking (n + length bs))) (put_staging l (placed l.staging n bs)) ≡ world last.core (put_staging l g) =
    ap₂ (λ (x : Core) (y : List ℕ). world x (put_staging l y)) (ap (λ (m : ℕ). moved_to c (Taking (n + m))) long ∙ ap (λ (x : Turn). x.core) (sym turn)) (sym put) in
    let ran = renamed refl refl end glide in
    let many : 1 ≤ length bs = omega (arith, long, some) in
    let none : ℕ → Option ℕ = λ b. None in
    record {
      rs = glided c Taking none n bs;
      leg =
          stretch_leg went_in (world c l) (given_each bytes) (given_each bs) (given_each (drop k bytes)) (record { count = k; last = last }) (put_staging l g)
          (glided c Taking none n bs) (ap given_each (sym (take-append-drop k bytes)) ∙ given_append bs (drop k bytes)) ran
          (all_taken c Taking none n bs)
          (λ x. last_some c Taking none x n bs many ∙ ap (λ (m : ℕ). moved_on c (Taking (n + m)) None false) long ∙ sym turn)
          (count_each c Taking none went_in (λ m b. refl) n bs ∙ long) (ap is_zero turn) some;
      fits = fits;
    }

pub given_one : (c : Core) (l : Lent) (bytes : List ℕ) (k : ℕ) (t : Turn) (l' : Lent) → 1 ≤ length bytes
    → Steps c l (2 ∷ get_or bytes 0 0 ∷ []) t l' → k ≡ pick (went_in t) 1 0 → GivesSome c l bytes (record { count = k; last = t }) l'
unfolding pick
given_one c l bytes k t l' some step count =
    record {
      rs = t ∷ [];
      leg =
          step_leg went_in c l (2 ∷ get_or bytes 0 0 ∷ []) (given_each bytes) (given_each (drop 1 bytes)) (given_each (drop k bytes)) t l' k step count (went_in_lem t)
          (ap given_each (byte_then_rest bytes 0 some)) (λ one. ap (λ (m : ℕ). given_each (drop m bytes)) (sym one));
      fits = at_most k (went_in t) count some;
    }
  where
    at_most : (k : ℕ) (b : Bool) → k ≡ pick b 1 0 → 1 ≤ length bytes → k ≤ length bytes
    at_most k true e h = omega (arith, e, h)
    at_most k false e h = omega (arith, e, h)

-- ---- Bytes taken

-- some taken leave the rest to be taken
taken_append : (k m : ℕ) → taken_times (k + m) ≡ taken_times k ++ taken_times m
taken_append zero m = ap taken_times (zero-add m)
taken_append (suc k) m = ap taken_times (suc-add k m) ∙ ap (λ (l : List (List ℕ)). (3 ∷ []) ∷ l) (taken_append k m)

pub taken_leg : (c : Core) (l : Lent) (out : List ℕ) (at k : ℕ) (last : Turn) (out' : List ℕ) → length l.staging ≡ 512 → at ≤ length out
    → k ≡ taken_ahead c (possible c && short l) (tape_at l c.port.selected) (length out - at) → 1 ≤ k
    → out' ≡ placed out at (next_bytes (drive_at c c.port.selected) (tape_at l c.port.selected) c.port.phase k)
    → last ≡ moved_on c (Giving (taken_before c.port.phase + k)) (Some (get_or out' (at + k - 1) 0)) true
    → TakesSome c l out at (record { count = k; last = last }) l out'
taken_leg c l out at k last out' size inside is some put turn =
    let ph = c.port.phase in
    let n = taken_before ph in
    let t = tape_at l c.port.selected in
    let bs = next_bytes (drive_at c c.port.selected) t ph k in
    let fits = taken_fits c (possible c && short l) t (length out - at) k is some in
    let long : length bs ≡ k = taken_long c (possible c && short l) t (length out - at) k is some in
    let glide = taken_glide c l k (length out - at) size is some in
    let ran = renamed refl refl (ap (λ (x : Turn). world x.core l) (sym turn)) glide in
    let many : 1 ≤ length bs = omega (arith, long, some) in
    let end : at + k - 1 ≡ at + (length bs - 1) = omega (arith, long, some) in
    let byte : get_or out' (at + k - 1) 0 ≡ get_or bs (length bs - 1) 0 =
    ap₂ (λ (o : List ℕ) (i : ℕ). get_or o i 0) put end ∙ placed_byte out at bs (omega (arith, long, fits, inside)) (length bs - 1) (omega (arith, many)) in
    let all : length out - at ≡ k + (length out - (at + k)) = omega (arith, fits, inside) in
    record {
      rs = glided c Giving Some n bs;
      leg =
          stretch_leg went_out (world c l) (taken_times (length out - at)) (taken_times k) (taken_times (length out - (at + k)))
          (record { count = k; last = last }) l (glided c Giving Some n bs) (ap taken_times all ∙ taken_append k (length out - (at + k))) ran
          (all_taken c Giving Some n bs)
          (λ x. last_some c Giving Some x n bs many ∙ ap₂ (λ (m b : ℕ). moved_on c (Giving (n + m)) (Some b) true) long (sym byte) ∙ sym turn)
          (count_each c Giving Some went_out (λ m b. refl) n bs ∙ long) (ap is_zero turn) some;
      fits = omega (arith, fits, inside);
      bytes = put ∙ ap (placed out at) (sym (out_each c n bs));
    }

-- one event taken: a byte handed out is put into the buffer
pub taken_one : (c : Core) (l : Lent) (out : List ℕ) (at k : ℕ) (t : Turn) (l' : Lent) (out' : List ℕ) → length l.staging ≡ 512 → at < length out
    → Steps c l (3 ∷ []) t l' → k ≡ pick (is_some t.byte) 1 0 → out' ≡ placed out at (option_to_list t.byte)
    → TakesSome c l out at (record { count = k; last = t }) l' out'
unfolding pick
taken_one c l out at k t l' out' size inside step count put =
    let all : length out - at ≡ suc (length out - (at + 1)) = omega (arith, inside) in
    record {
      rs = t ∷ [];
      leg =
          step_leg went_out c l (3 ∷ []) (taken_times (length out - at)) (taken_times (length out - (at + 1))) (taken_times (length out - (at + k))) t l' k step count
          (went_out_lem c l t l' size step) (ap taken_times all) (λ one. ap (λ (m : ℕ). taken_times (length out - (at + m))) (sym one));
      fits = at_most (is_some t.byte) count;
      bytes = put ∙ ap (placed out at) (one_out t.byte);
    }
  where
    at_most : (b : Bool) → k ≡ pick b 1 0 → at + k ≤ length out
    at_most true e = omega (arith, e, inside)
    at_most false e = omega (arith, e, inside)

    one_out : (o : Option ℕ) → option_to_list o ≡ cons_option o []
    one_out None = refl
    one_out (Some b) = refl

-- ---- Leg after leg

module _ (c₀ : Core) (l₀ : Lent) (bytes : List ℕ) (n : ℕ) (last : Turn) (l : Lent) where
  abbrev GivenSoFar : ℕ → Turn → Lent → Type 0
  GivenSoFar m x k = Standing went_in c₀ l₀ (given_each bytes) m x k (given_each (drop m bytes)) (λ rs. Prim.Unit)

  module _ (r : Handed) (l' : Lent) (at : GivenSoFar n last l) (some : GivesSome last.core l (drop n bytes) r l') where
    pub given_on : Sizes l' l → is_zero r.last ≡ true → GivenSoFar (n + r.count) r.last l'
    given_on kept so =
        let on = goes_on went_in c₀ l₀ (given_each bytes) n last l (given_each (drop n bytes)) at.rs r l' (given_each (drop r.count (drop n bytes)))
        some.rs at.at some.leg so in
        let rest : drop r.count (drop n bytes) ≡ drop (n + r.count) bytes = drop-drop r.count n bytes in
        record {
          rs = at.rs ++ some.rs;
          at =
              subst (λ (x : List ℕ). UnderWay went_in c₀ l₀ (given_each bytes) (n + r.count) r.last l' (given_each x) (at.rs ++ some.rs)) rest on;
          sizes = all_sizes_on kept at.sizes;
          more = tt;
        }

    pub given_stops : is_zero r.last ≡ false → GivesOver c₀ l₀ bytes (record { count = n + r.count; last = r.last }) l'
    given_stops other =
        (stops went_in c₀ l₀ (given_each bytes) n last l (given_each (drop n bytes)) at.rs r l' (given_each (drop r.count (drop n bytes))) some.rs
        at.at some.leg other).is

  pub given_ends : GivenSoFar n last l → length bytes ≤ n → GivesOver c₀ l₀ bytes (record { count = n; last = last }) l
  given_ends at all = (ends went_in c₀ l₀ (given_each bytes) n last l (given_each (drop n bytes)) at.rs at.at (ap given_each (drop_of_length-le bytes all))).is

-- the bytes handed out, turn after turn
out_count : (rs : List Turn) → length (handed_out rs) ≡ count_of went_out rs
unfolding pick
out_count [] = refl
out_count (r ∷ rs) = go r.byte (out_count rs)
  where
    go : (o : Option ℕ) → length (handed_out rs) ≡ count_of went_out rs
        → length (cons_option o (handed_out rs)) ≡ pick (is_some o) 1 0 + count_of went_out rs
    go None e = omega (arith, e)
    go (Some b) e = omega (arith, e)

module _ (c₀ : Core) (l₀ : Lent) (out₀ : List ℕ) (n : ℕ) (last : Turn) (l : Lent) (out : List ℕ) where
  abbrev TakenSoFar : ℕ → Turn → Lent → List ℕ → Type 0
  TakenSoFar m x k o =
      Standing went_out c₀ l₀ (taken_times (length out₀)) m x k (taken_times (length out₀ - m)) (λ rs. o ≡ placed out₀ 0 (handed_out rs))

  module _ (r : Handed) (l' : Lent) (out' : List ℕ) (size : length out ≡ length out₀) (at : TakenSoFar n last l out)
      (some : TakesSome last.core l out n r l' out') where
    put_on : out' ≡ placed out₀ 0 (handed_out (at.rs ++ some.rs))
    put_on =
        let so_far : length (handed_out at.rs) ≡ n = out_count at.rs ∙ at.at.count in
        let now : length (handed_out some.rs) ≡ r.count = out_count some.rs ∙ some.leg.count in
        some.bytes
        ∙ ap₂ (λ (o : List ℕ) (m : ℕ). placed o m (handed_out some.rs)) at.more (sym so_far ∙ sym (zero-add _))
        ∙ placed_then out₀ 0 (handed_out at.rs) (handed_out some.rs) (omega (arith, so_far, now, some.fits, size))
        ∙ ap (placed out₀ 0) (sym (handed_append at.rs some.rs))

    abbrev leg : Leg went_out (world last.core l) (taken_times (length out₀ - n)) r l' (taken_times (length out₀ - (n + r.count))) some.rs
    leg = subst (λ (m : ℕ). Leg went_out (world last.core l) (taken_times (m - n)) r l' (taken_times (m - (n + r.count))) some.rs) size some.leg

    pub taken_on : Sizes l' l → is_zero r.last ≡ true → TakenSoFar (n + r.count) r.last l' out'
    taken_on kept so =
        record {
          rs = at.rs ++ some.rs;
          at =
              goes_on went_out c₀ l₀ (taken_times (length out₀)) n last l (taken_times (length out₀ - n)) at.rs r l'
              (taken_times (length out₀ - (n + r.count))) some.rs at.at leg so;
          sizes = all_sizes_on kept at.sizes;
          more = put_on;
        }

    pub taken_stops : is_zero r.last ≡ false → TakesOver c₀ l₀ out₀ (record { count = n + r.count; last = r.last }) l' out'
    unfolding taken_over
    taken_stops other =
        let end =
        stops went_out c₀ l₀ (taken_times (length out₀)) n last l (taken_times (length out₀ - n)) at.rs r l' (taken_times (length out₀ - (n + r.count)))
        some.rs at.at leg other in
        ap₂ took end.is (put_on ∙ ap (λ (rs : List Turn). placed out₀ 0 (handed_out rs)) (sym end.turns_all))

  pub taken_ends : TakenSoFar n last l out → length out₀ ≤ n → TakesOver c₀ l₀ out₀ (record { count = n; last = last }) l out
  unfolding taken_over
  taken_ends at all =
      let none : length out₀ - n ≡ 0 = omega (arith, all) in
      let end = ends went_out c₀ l₀ (taken_times (length out₀)) n last l (taken_times (length out₀ - n)) at.rs at.at (ap taken_times none) in
      ap₂ took end.is (at.more ∙ ap (λ (rs : List Turn). placed out₀ 0 (handed_out rs)) (sym end.turns_all))
