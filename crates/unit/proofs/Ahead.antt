-- Bytes before the last of a block, each by the step, come to one copy.
use Prim.Native.Nat.{ℕ, zero, suc, ◌+◌, ◌<◌, ◌≤◌}
use mathlib.Core.Path.{◌≡◌, refl, sym, ap, ap₂, subst, ◌∙◌}
use mathlib.Core.Bool.{Bool, true, false, ◌&&◌, ◌||◌, false≢true}
use mathlib.Core.List.{List, [], ◌∷◌}
use native.Mathlib.Omega.{arith}
use native.Mathlib.Nat.{add-zero}
use native.Mathlib.Numerals.{add-one}
use Rattle.std.specs.Prelude.{None, Some}
use lib.ListN.{length, get_or, drop, set, length-set, length-drop}
use lib.Seq.{sets, length-take-le}
use lib.Dec.{ltb}
use borrow.Author.Tests.{ltb-true}
use Rattle.basis.specs.Choice.{pick}
use Rattle.basis.proofs.Choosing.{both, join}
use Rattle.basis.proofs.Placing.{each, each_is, placed_sets}
use Rattle.tape.specs.Record.{found_at}
use Rattle.rules.specs.declared.drive.Drive.{Drive}
use Rattle.rules.specs.declared.phase.Phase.{Phase}
use Rattle.rules.specs.declared.phase.Phase.TheVariants.{Rest, Taking, Giving, Status}
use Rattle.rules.specs.declared.unit.Core.{Core}
use Rattle.rules.specs.declared.answer.Turn.{Turn}
use Rattle.rules.specs.Drive.{writes, reads}
use Rattle.rules.specs.Phase.{last_place, at_rest, given_before, taken_before}
use Rattle.rules.specs.Unit.{Lent, drive_at, tape_at, put_staging, moved_to}
use Rattle.rules.specs.Refusal.{possible, short}
use Rattle.rules.specs.Edge.{is_block}
use Rattle.rules.specs.Bytes.{staged_byte}
use Rattle.rules.specs.Step.{Stepped, Steps}
use Rattle.rules.specs.Run.{World, world, given_each, taken_times}
use Rattle.rules.specs.Ran.{Ran, no_events, next}
use Rattle.rules.proofs.Keeps.{stays_possible}
use Rattle.rules.proofs.Giving.{place_at, given_place_lem, may_give, give_event, staged_there}
use Rattle.rules.proofs.Handing.{taken_at, take_event}
use Rattle.port.proofs.Whole.{whole}
use Rattle.answers.specs.Moved.{moved_on}
use Rattle.unit.specs.Ahead.{ahead_of, given_ahead, read_ahead, taken_ahead, next_bytes, glided, GivenGlide, TakenGlide}
use Rattle.unit.proofs.InBlock.{byte_given_lem, byte_taken_lem, giving_at}

-- a count that is not 0 tells which it is
some_picked : (b : Bool) (x k : ℕ) → k ≡ pick b x 0 → 1 ≤ k → (b ≡ true) × (k ≡ x)
unfolding pick
some_picked true x k is some = (refl, is)
some_picked false x k is some = absurd (none is)
  where
    none : k ≡ 0 → ⊥
    none z = omega (arith, z, some)

-- What is ahead is wanted, and where there is some the block has begun or begins, and its last byte is not among them.
pub record SomeAhead (rest : Bool) (n want k : ℕ) : Type 0 where
  pub begun : (rest || ltb 0 n) ≡ true
  pub within : n + k ≤ last_place
  pub wanted : k ≤ want

pub ahead_some : (rest : Bool) (n want k : ℕ) → k ≡ ahead_of rest n want → 1 ≤ k → SomeAhead rest n want k
unfolding pick ahead_of
ahead_some rest n want k is some =
    let begun = some_picked (rest || ltb 0 n) _ k is some in
    let in_block = some_picked (ltb n last_place) _ k begun.1 some in
    let lt = ltb-true n last_place in_block.0 in
    let least = in_block.1 in
    record { begun = begun.0; within = omega (arith, least, lt); wanted = omega (arith, least) }

-- ---- One after the other

-- the same run, its ends and its turns said in other words
pub renamed : {w w' v v' : World} {es : List (List ℕ)} {rs rs' : List Turn} → w ≡ w' → rs ≡ rs' → v ≡ v' → Ran w es rs v → Ran w' es rs' v'
renamed {w} {w'} {v} {v'} {es} {rs} {rs'} p q r ran =
    subst (λ (x : World). Ran x es rs' v') p (subst (λ (x : World). Ran w es rs' x) r (subst (λ (x : List Turn). Ran w es x v) q ran))

-- tapes are as long whatever is staged
short_put : (l : Lent) (g : List ℕ) → short (put_staging l g) ≡ short l
unfolding short
short_put l g = refl

-- a possible record stays so by a step
calm_on : {c : Core} {l : Lent} {e : List ℕ} {r : Turn} {l' : Lent} → Steps c l e r l' → length l.staging ≡ 512 → (possible c && short l) ≡ true
    → short l' ≡ short l → (possible r.core && short l') ≡ true
calm_on {c} {l} {e} {r} {l'} step size calm same =
    let so = both (possible c) (short l) calm in
    join _ _ (ap (λ (s : Stepped). possible s.turn.core) step.is ∙ stays_possible c l e size so.0) (same ∙ so.1)

module _ (c : Core) (l : Lent) where
  abbrev d : Drive
  d = drive_at c c.port.selected

  gives_on : (bs : List ℕ) (n : ℕ) (g : List ℕ) → writes d ≡ true → n + length bs ≤ last_place → length g ≡ 512
      → (possible (moved_to c (place_at n)) && short (put_staging l g)) ≡ true
      → Ran (world (moved_to c (place_at n)) (put_staging l g)) (given_each bs) (glided c Taking (λ b. None) n bs)
      (world (moved_to c (place_at (n + length bs))) (put_staging l (sets g n bs)))
  gives_on [] n g writing fits size calm =
      renamed refl refl (ap (λ (m : ℕ). world (moved_to c (place_at m)) (put_staging l g)) (sym (add-zero n))) no_events
  gives_on (b ∷ bs) n g writing fits size calm =
      let lt : n < last_place = omega (arith, fits) in
      let at = moved_to c (place_at n) in
      let put : staged_byte (given_before (place_at n)) b g ≡ set g n b = ap (λ (m : ℕ). staged_byte m b g) (given_place_lem n) ∙ staged_there g n b lt in
      let one = byte_given_lem at (put_staging l g) (2 ∷ b ∷ []) calm n b (given_place_lem n) lt (may_give n d b writing) writing (give_event b) in
      let step : Steps at (put_staging l g) (2 ∷ b ∷ []) (moved_on c (Taking (suc n)) None false) (put_staging l (set g n b)) =
      subst (λ (m : ℕ). Steps at (put_staging l g) (2 ∷ b ∷ []) (moved_on c (Taking m) None false) (put_staging l (set g n b))) (add-one n)
      (subst (λ (x : List ℕ). Steps at (put_staging l g) (2 ∷ b ∷ []) (moved_on c (Taking (n + 1)) None false) (put_staging l x)) put one) in
      let calm' = calm_on step size calm (short_put l (set g n b) ∙ sym (short_put l g)) in
      let rest = gives_on bs (suc n) (set g n b) writing (omega (arith, fits)) (length-set g n b ∙ size) calm' in
      let far : suc n + length bs ≡ n + suc (length bs) = omega arith in
      next step (renamed refl refl (ap (λ (m : ℕ). world (moved_to c (place_at m)) (put_staging l (sets (set g n b) (suc n) bs))) far) rest)

  abbrev t : List ℕ
  t = tape_at l c.port.selected

  takes_on : (k n : ℕ) → reads d ≡ true → is_block (found_at t d.head) ≡ true → n + k ≤ last_place → length l.staging ≡ 512
      → (possible (moved_to c (taken_at n)) && short l) ≡ true
      → Ran (world (moved_to c (taken_at n)) l) (taken_times k) (glided c Giving Some n (each k (d.head + 1 + n) t)) (world (moved_to c (taken_at (n + k))) l)
  takes_on zero n reading block fits size calm =
      renamed refl refl (ap (λ (m : ℕ). world (moved_to c (taken_at m)) l) (sym (add-zero n))) no_events
  takes_on (suc k) n reading block fits size calm =
      let lt : n < last_place = omega (arith, fits) in
      let at = moved_to c (taken_at n) in
      let b = get_or t (d.head + 1 + n) 0 in
      let one = byte_taken_lem at l (3 ∷ []) calm n refl lt reading block take_event in
      let step : Steps at l (3 ∷ []) (moved_on c (Giving (suc n)) (Some b) true) l =
      subst (λ (m : ℕ). Steps at l (3 ∷ []) (moved_on c (Giving m) (Some b) true) l) (add-one n) one in
      let rest = takes_on k (suc n) reading block (omega (arith, fits)) size (calm_on step size calm refl) in
      let far : suc n + k ≡ n + suc k = omega arith in
      let place : d.head + 1 + suc n ≡ suc (d.head + 1 + n) = omega arith in
      next step (renamed refl (ap (λ (m : ℕ). glided c Giving Some (suc n) (each k m t)) place) (ap (λ (m : ℕ). world (moved_to c (taken_at m)) l) far) rest)

-- ---- From where the record stands

-- the phase in which so many went over
given_at_lem : (ph : Phase) → (at_rest ph || ltb 0 (given_before ph)) ≡ true → place_at (given_before ph) ≡ ph
given_at_lem Rest so = refl
given_at_lem (Taking zero) so = absurd (false≢true so)
given_at_lem (Taking (suc n)) so = refl
given_at_lem (Giving n) so = absurd (false≢true so)
given_at_lem (Status k) so = absurd (false≢true so)

taken_at_lem : (ph : Phase) → (at_rest ph || ltb 0 (taken_before ph)) ≡ true → taken_at (taken_before ph) ≡ ph
taken_at_lem Rest so = refl
taken_at_lem (Taking n) so = absurd (false≢true so)
taken_at_lem (Giving zero) so = absurd (false≢true so)
taken_at_lem (Giving (suc n)) so = refl
taken_at_lem (Status k) so = absurd (false≢true so)

place_taking : (m : ℕ) → 1 ≤ m → place_at m ≡ Taking m
place_taking zero some = absurd (none some)
  where
    none : 1 ≤ 0 → ⊥
    none h = omega (arith, h)
place_taking (suc m) some = refl

pub given_glide : GivenGlide
unfolding pick given_ahead
given_glide c l bs want size is some =
    let ph = c.port.phase in
    let n = given_before ph in
    let free = some_picked ((possible c && short l) && writes (drive_at c c.port.selected)) _ (length bs) is some in
    let so = both (possible c && short l) _ free.0 in
    let ahead = ahead_some (at_rest ph) n want (length bs) free.1 some in
    let here = given_at_lem ph ahead.begun in
    let calm : (possible (moved_to c (place_at n)) && short (put_staging l l.staging)) ≡ true =
    ap (λ (x : Phase). possible (moved_to c x) && short l) here ∙ so.0 in
    let all = gives_on c l bs n l.staging so.1 ahead.within size calm in
    let far = place_taking (n + length bs) (omega (arith, some)) in
    let put = sym (placed_sets l.staging n bs (omega (arith, ahead.within, size))) in
    renamed (ap (λ (x : Phase). world (moved_to c x) l) here) refl
    (ap₂ (λ (x : Phase) (g : List ℕ). world (moved_to c x) (put_staging l g)) far put) all

pub taken_glide : TakenGlide
unfolding pick taken_ahead read_ahead
taken_glide c l k want size is some =
    let ph = c.port.phase in
    let n = taken_before ph in
    let d = drive_at c c.port.selected in
    let t = tape_at l c.port.selected in
    let calm = some_picked (possible c && short l) _ k is some in
    let reading = some_picked (reads d) _ k calm.1 some in
    let block = some_picked (is_block (found_at t d.head)) _ k reading.1 some in
    let ahead = ahead_some (at_rest ph) n want k block.1 some in
    let here = taken_at_lem ph ahead.begun in
    let calm' : (possible (moved_to c (taken_at n)) && short l) ≡ true = ap (λ (x : Phase). possible (moved_to c x) && short l) here ∙ calm.0 in
    let all = takes_on c l k n reading.0 block.0 ahead.within size calm' in
    let far = sym (giving_at (n + k) (omega (arith, some))) in
    let bytes = each_is k (d.head + 1 + n) t (omega (arith, whole t d.head block.0, ahead.within)) in
    renamed (ap (λ (x : Phase). world (moved_to c x) l) here) (ap (glided c Giving Some n) bytes) (ap (λ (x : Phase). world (moved_to c x) l) far) all

-- no more are ahead than are wanted
pub given_fits : (c : Core) (calm : Bool) (want k : ℕ) → k ≡ given_ahead c calm want → 1 ≤ k → k ≤ want
unfolding pick given_ahead
given_fits c calm want k is some =
    (ahead_some _ _ want k (some_picked (calm && writes (drive_at c c.port.selected)) _ k is some).1 some).wanted

pub taken_fits : (c : Core) (calm : Bool) (t : List ℕ) (want k : ℕ) → k ≡ taken_ahead c calm t want → 1 ≤ k → k ≤ want
unfolding pick taken_ahead read_ahead
taken_fits c calm t want k is some =
    let d = drive_at c c.port.selected in
    let reading = some_picked (reads d) _ k (some_picked calm _ k is some).1 some in
    (ahead_some _ _ want k (some_picked (is_block (found_at t d.head)) _ k reading.1 some).1 some).wanted

-- the bytes that are ahead lie inside the block, and so inside the tape
pub taken_long : (c : Core) (calm : Bool) (t : List ℕ) (want k : ℕ) → k ≡ taken_ahead c calm t want → 1 ≤ k
    → length (next_bytes (drive_at c c.port.selected) t c.port.phase k) ≡ k
unfolding pick taken_ahead read_ahead
taken_long c calm t want k is some =
    let d = drive_at c c.port.selected in
    let n = taken_before c.port.phase in
    let reading = some_picked (reads d) _ k (some_picked calm _ k is some).1 some in
    let block = some_picked (is_block (found_at t d.head)) _ k reading.1 some in
    let ahead = ahead_some _ n want k block.1 some in
    length-take-le k (drop (d.head + 1 + n) t) (omega (arith, length-drop (d.head + 1 + n) t, whole t d.head block.0, ahead.within))

pub given_within : (c : Core) (calm : Bool) (want k : ℕ) → k ≡ given_ahead c calm want → 1 ≤ k → given_before c.port.phase + k ≤ last_place
unfolding pick given_ahead
given_within c calm want k is some =
    (ahead_some _ _ want k (some_picked (calm && writes (drive_at c c.port.selected)) _ k is some).1 some).within

pub taken_within : (c : Core) (calm : Bool) (t : List ℕ) (want k : ℕ) → k ≡ taken_ahead c calm t want → 1 ≤ k → taken_before c.port.phase + k ≤ last_place
unfolding pick taken_ahead read_ahead
taken_within c calm t want k is some =
    let d = drive_at c c.port.selected in
    let reading = some_picked (reads d) _ k (some_picked calm _ k is some).1 some in
    (ahead_some _ _ want k (some_picked (is_block (found_at t d.head)) _ k reading.1 some).1 some).within
