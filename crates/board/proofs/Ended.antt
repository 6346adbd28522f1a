-- The rest of a block in one call: the record moved where it stands up to the last byte, which then goes by the step.
use Prim.Native.Nat.{ℕ, ◌+◌, ◌-◌, ◌≤◌, ◌<◌}
use mathlib.Core.Path.{◌≡◌, refl, sym, ap, ◌∙◌}
use mathlib.Core.Bool.{Bool, true, false, ◌&&◌, ◌||◌, false≢true}
use mathlib.Core.List.{List, [], ◌∷◌, ◌++◌}
use Rattle.std.specs.Prelude.{None, Some, is_some, option_to_list}
use native.Mathlib.Omega.{arith}
use native.Mathlib.Nat.{add-zero}
use lib.ListN.{length, get_or, take, drop, length-drop, take-append-drop}
use lib.Seq.{get_or-drop, take_all}
use lib.Dec.{ltb}
use borrow.Author.Tests.{eqb-true, ltb-true}
use Rattle.basis.specs.Choice.{pick}
use Rattle.basis.specs.Placed.{placed}
use Rattle.tape.specs.Record.{body_size, found_at}
use Rattle.rules.specs.declared.drive.Drive.{Drive}
use Rattle.rules.specs.declared.answer.Turn.{Turn}
use Rattle.rules.specs.declared.phase.Phase.{Phase}
use Rattle.rules.specs.declared.phase.Phase.TheVariants.{Taking, Giving}
use Rattle.rules.specs.declared.unit.Core.{Core}
use Rattle.rules.specs.declared.unit.Unit.{Unit}
use Rattle.rules.specs.Drive.{writes, reads}
use Rattle.rules.specs.Edge.{is_block}
use Rattle.rules.specs.Phase.{at_rest, given_before, taken_before}
use Rattle.rules.specs.Unit.{drive_at, tape_at, moved_to}
use Rattle.rules.specs.Refusal.{possible, short}
use Rattle.rules.specs.Ran.{SameSizes}
use Rattle.answers.specs.Moved.{moved_on}
use Rattle.unit.specs.Handover.{went_in, GivesOver, TakesOver}
use Rattle.unit.specs.Ahead.{ahead_of, given_ahead, read_ahead, taken_ahead, ReadsOn}
use Rattle.unit.proofs.Handover.{Sizes}
use Rattle.unit.proofs.Legs.{given_leg, given_one, taken_leg, taken_one}
use Rattle.unit.proofs.Completed.{given_completed, taken_completed}
use Rattle.layout.specs.Written.{phase_at, phase_bytes, unit, unit_bytes}
use Rattle.layout.specs.Read.{is_record, core_of, staging_of, unit_of}
use Rattle.layout.specs.Laws.{Octets}
use Rattle.layout.proofs.Back.{read_back}
use Rattle.layout.proofs.Form.{record_long}
use Rattle.layout.proofs.InPlace.{phase_moved}
use Rattle.board.specs.Serve.{Tapes, lent_with, result_bytes, SteppedIn, ServedMany}
use Rattle.board.specs.Ends.{ends_block}
use Rattle.board.proofs.InPlace.{lent_part, part_long, octets_six}

-- ---- How many

-- what is ahead are all bytes but the last
pub record AllButOne (rest : Bool) (n count : ℕ) : Type 0 where
  pub ahead : ahead_of rest n count ≡ count - 1
  pub place : n + (count - 1) ≡ 511
  pub two : 2 ≤ count

pub all_but_one : (rest : Bool) (n count : ℕ) → ends_block rest n count ≡ true → AllButOne rest n count
unfolding pick ends_block ahead_of
all_but_one rest n count so = go (rest || ltb 0 n) (ltb n 511) refl refl
  where
    go : (p q : Bool) → (rest || ltb 0 n) ≡ p → ltb n 511 ≡ q → AllButOne rest n count
    go true true ep eq =
        let is : count ≡ 512 - n = eqb-true count (512 - n) (rw (ep, eq) at so) in
        let lt : n < 511 = ltb-true n 511 eq in
        record { ahead = rw (ep, eq) (omega (arith, is, lt)); place = omega (arith, is, lt); two = omega (arith, is, lt) }
    go true false ep eq = absurd (false≢true (rw (ep, eq) at so))
    go false q ep eq = absurd (false≢true (rw (ep) at so))

-- some of a choice that is else none
only_if : (b : Bool) (x k : ℕ) → k ≡ pick b x 0 → 1 ≤ k → k ≡ x
unfolding pick
only_if true x k is some = is
only_if false x k is some = absurd (none is)
  where
    none : k ≡ 0 → ⊥
    none z = omega (arith, z, some)

pub read_most : (d : Drive) (t : List ℕ) (ph : Phase) (count k : ℕ) → ends_block (at_rest ph) (taken_before ph) count ≡ true
    → k ≡ read_ahead d t ph count → 1 ≤ k → k ≡ count - 1
unfolding read_ahead
read_most d t ph count k ends is some =
    let all = all_but_one (at_rest ph) (taken_before ph) count ends in
    let ahead = ahead_of (at_rest ph) (taken_before ph) count in
    let block = is_block (found_at t d.head) in
    only_if block ahead k (only_if (reads d) (pick block ahead 0) k is some) some ∙ all.ahead

-- ---- The record moved

module _ (l : List ℕ) (small : Octets l) (so : is_record l ≡ true) (ph : Phase) (g : List ℕ) (long : length g ≡ body_size) (l₁ : List ℕ)
    (is : l₁ ≡ placed (take 146 l ++ g) phase_at (phase_bytes ph)) where
  moved : l₁ ≡ unit_bytes (unit (moved_to (core_of l) ph) g)
  moved = is ∙ phase_moved l g ph small so long

  back : (is_record (unit_bytes (unit (moved_to (core_of l) ph) g)) ≡ true) × (unit_of (unit_bytes (unit (moved_to (core_of l) ph) g)) ≡ unit (moved_to (core_of l) ph) g)
  back = read_back (unit (moved_to (core_of l) ph) g) (record { octets = octets_six l; staging = long })

  pub still_record : is_record l₁ ≡ true
  still_record = ap is_record moved ∙ back.0

  pub moved_core : core_of l₁ ≡ moved_to (core_of l) ph
  moved_core = ap core_of moved ∙ ap (λ (u : Unit). u.core) back.1

  pub moved_staging : staging_of l₁ ≡ g
  moved_staging = ap staging_of moved ∙ ap (λ (u : Unit). u.staging) back.1

-- a record before its own staging block
pub own_staging : (l : List ℕ) → is_record l ≡ true → take 146 l ++ staging_of l ≡ l
own_staging l so =
    let size = record_long l so in
    ap (λ (x : List ℕ). take 146 l ++ x) (sym (lent_part l [] size) ∙ take_all 512 (drop 146 l) (omega (arith, length-drop 146 l, size)))
    ∙ take-append-drop 146 l

pub staging_long : (l : List ℕ) → is_record l ≡ true → length (staging_of l) ≡ 512
staging_long l so = sym (ap length (lent_part l [] (record_long l so))) ∙ part_long l [] (record_long l so)

-- ---- Bytes given, and bytes taken

module _ (l : List ℕ) (t t₂ : Tapes) (l₁ out l₂ : List ℕ) (turn : Turn) (small : Octets l) (so : is_record l ≡ true)
    (calm : (possible (core_of l) && short (lent_with (staging_of l) t)) ≡ true)
    (kept : SameSizes (lent_with (staging_of l) t₂) (lent_with (staging_of l) t)) where
  abbrev c : Core
  c = core_of l

  -- what is lent, as the stretch and as the step leave it
  sizes : (g : List ℕ) → length g ≡ body_size → Sizes (lent_with g t) (lent_with (staging_of l) t)
  sizes g long =
      record { staging = long ∙ sym (staging_long l so); tapes = record { size0 = refl; size1 = refl; size2 = refl; size3 = refl } }

  sizes' : (g h : List ℕ) → length g ≡ body_size → length h ≡ body_size → Sizes (lent_with h t₂) (lent_with g t)
  sizes' g h long long' =
      record {
        staging = long' ∙ sym long;
        tapes = record { size0 = kept.size0; size1 = kept.size1; size2 = kept.size2; size3 = kept.size3 };
      }

  pub given_served : (bytes : List ℕ) (r : ℕ) → writes (drive_at c c.port.selected) ≡ true
      → ends_block (at_rest c.port.phase) (given_before c.port.phase) (length bytes) ≡ true
      → let n = given_before c.port.phase in let k = length bytes - 1 in let g = placed (staging_of l) n (take k bytes) in
      length g ≡ body_size → l₁ ≡ placed (take 146 l ++ g) phase_at (phase_bytes (Taking (n + k)))
      → SteppedIn l₁ t (2 ∷ get_or bytes k 0 ∷ []) turn l₂ t₂ → out ≡ result_bytes turn → r ≡ k + pick (went_in turn) 1 0
      → ServedMany (λ k l h l'. GivesOver k l bytes h l') l t r out l₂ t₂
  unfolding pick given_ahead
  given_served bytes r writing ends long is stepped result count =
      let n = given_before c.port.phase in
      let k = length bytes - 1 in
      let g = placed (staging_of l) n (take k bytes) in
      let all = all_but_one (at_rest c.port.phase) n (length bytes) ends in
      let lent₀ = lent_with (staging_of l) t in
      let ahead : k ≡ given_ahead c (possible c && short lent₀) (length bytes) = rw (calm, writing) (sym all.ahead) in
      let last = moved_on c (Taking (n + k)) None false in
      let first = given_leg c lent₀ bytes k last g (staging_long l so) ahead (omega (arith, all.two)) refl refl in
      let byte : get_or (drop k bytes) 0 0 ≡ get_or bytes k 0 = get_or-drop k bytes 0 0 ∙ ap (λ (m : ℕ). get_or bytes m 0) (add-zero k) in
      let step = rw (moved_core l small so (Taking (n + k)) g long l₁ is, moved_staging l small so (Taking (n + k)) g long l₁ is, ← byte) at stepped.steps in
      let some : 1 ≤ length (drop k bytes) = omega (arith, length-drop k bytes, all.two) in
      let second = given_one (moved_to c (Taking (n + k))) (lent_with g t) (drop k bytes) (pick (went_in turn) 1 0) turn (lent_with stepped.staging t₂) some step refl in
      record {
        handed = record { count = k + pick (went_in turn) 1 0; last = turn };
        staging = stepped.staging;
        is =
            given_completed c lent₀ (lent_with g t) (lent_with stepped.staging t₂) (record { count = k; last = last })
            (record { count = pick (went_in turn) 1 0; last = turn }) refl (sizes g long) (sizes' g stepped.staging long stepped.sized.staging) bytes
            first second (omega (arith, all.two));
        count = count;
        result = result;
        left = stepped.left;
        sized = stepped.sized;
      }

  pub taken_served : (bytes bytes₁ bytes₂ : List ℕ) (k r : ℕ) → let ph = c.port.phase in let n = taken_before ph in
      ends_block (at_rest ph) n (length bytes) ≡ true
      → ReadsOn (drive_at c c.port.selected) (tape_at (lent_with (staging_of l) t) c.port.selected) ph bytes k bytes₁
      → length bytes₁ ≡ length bytes → 1 ≤ k → l₁ ≡ placed (take 146 l ++ staging_of l) phase_at (phase_bytes (Giving (n + k)))
      → SteppedIn l₁ t (3 ∷ []) turn l₂ t₂ → out ≡ result_bytes turn → bytes₂ ≡ placed bytes₁ k (option_to_list turn.byte)
      → r ≡ k + pick (is_some turn.byte) 1 0
      → ServedMany (λ k l h l'. TakesOver k l bytes h l' bytes₂) l t r out l₂ t₂
  unfolding pick taken_ahead read_ahead
  taken_served bytes bytes₁ bytes₂ k r ends read size some is stepped result put count =
      let ph = c.port.phase in
      let n = taken_before ph in
      let g = staging_of l in
      let long = staging_long l so in
      let all = all_but_one (at_rest ph) n (length bytes) ends in
      let lent₀ = lent_with g t in
      let tape = tape_at lent₀ c.port.selected in
      let whole : length bytes ≡ length bytes - 0 = omega arith in
      let ahead : k ≡ taken_ahead c (possible c && short lent₀) tape (length bytes - 0) = rw (calm, ← whole) read.count in
      let last = moved_on c (Giving (n + k)) (Some (get_or bytes₁ (0 + k - 1) 0)) true in
      let first = taken_leg c lent₀ bytes 0 k last bytes₁ long (omega arith) ahead some read.bytes refl in
      let step = rw (moved_core l small so (Giving (n + k)) g long l₁ is, moved_staging l small so (Giving (n + k)) g long l₁ is) at stepped.steps in
      let most : k ≡ length bytes - 1 = read_most (drive_at c c.port.selected) tape ph (length bytes) k ends read.count some in
      let inside : k < length bytes₁ = omega (arith, most, size, all.two) in
      let second =
      taken_one (moved_to c (Giving (n + k))) lent₀ bytes₁ k (pick (is_some turn.byte) 1 0) turn (lent_with stepped.staging t₂) bytes₂ long inside step refl put in
      record {
        handed = record { count = k + pick (is_some turn.byte) 1 0; last = turn };
        staging = stepped.staging;
        is =
            taken_completed c lent₀ lent₀ (lent_with stepped.staging t₂) (record { count = k; last = last })
            (record { count = pick (is_some turn.byte) 1 0; last = turn }) refl (sizes g long) (sizes' g stepped.staging long stepped.sized.staging) bytes
            bytes₁ bytes₂ size first second (omega (arith, most));
        count = count;
        result = result;
        left = stepped.left;
        sized = stepped.sized;
      }
