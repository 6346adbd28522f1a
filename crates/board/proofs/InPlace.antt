-- The last 512 bytes of a record, lent to a call and given back.
use Prim.Native.Nat.{ℕ, ◌+◌}
use mathlib.Core.Path.{◌≡◌, refl, sym, ap, subst, ◌∙◌}
use mathlib.Core.Bool.{true, false, ◌&&◌}
use mathlib.Core.List.{List, ◌∷◌, ◌++◌, append-nil}
use Rattle.std.specs.Prelude.{Some, is_some, unwrap_or}
use native.Mathlib.Omega.{arith}
use lib.ListN.{length, take, drop, length-append, length-drop, drop_of_length-le}
use lib.Seq.{length-take-le}
use borrow.Rule.Slice.PartMut.{put_mid}
use Rattle.tape.specs.Record.{body_size}
use Rattle.basis.specs.Placed.{placed}
use Rattle.rules.specs.declared.answer.Answer.TheVariants.{Taken}
use Rattle.rules.specs.Answer.{row_of}
use Rattle.rules.specs.Phase.{report_size}
use Rattle.rules.specs.Unit.{drive_at, tape_at}
use Rattle.rules.specs.Refusal.{possible, short}
use Rattle.rules.specs.Step.{staged, Steps}
use Rattle.answers.specs.Moved.{moved_on}
use Rattle.unit.specs.declared.within.Inside.{Inside}
use Rattle.unit.specs.Within.{inside_of}
use Rattle.unit.proofs.InBlock.{inside_steps}
use Rattle.layout.specs.Written.{flag, record_size, phase_at, phase_bytes}
use Rattle.layout.specs.Read.{stretch, is_record, port_of, core_of, staging_of}
use Rattle.layout.specs.Laws.{Octets}
use Rattle.layout.proofs.InPlace.{staging_lent, phase_moved}
use Rattle.board.specs.Serve.{Tapes, lent_with, lines_bytes, Served}

module _ (l g : List ℕ) (size : length l ≡ record_size) where
  -- what is lent is the staging block
  pub lent_part : take 512 (drop 146 l) ≡ staging_of l
  unfolding staging_of stretch
  lent_part = refl

  pub part_long : length (take 512 (drop 146 l)) ≡ body_size
  part_long = length-take-le 512 (drop 146 l) (omega (arith, length-drop 146 l, size))

  -- and what is given back is all that stands behind the rest
  pub given_back : put_mid 146 512 l g ≡ take 146 l ++ g
  given_back = rw (drop_of_length-le (drop 146 l) {i = 512} (omega (arith, length-drop 146 l, size)), append-nil g) refl

  module _ (long : length g ≡ body_size) where
    pub back_long : length (put_mid 146 512 l g) ≡ record_size
    back_long =
        ap length given_back ∙ length-append (take 146 l) g
        ∙ sum (length-take-le 146 l (omega (arith, size)))
      where
        sum : length (take 146 l) ≡ 146 → length (take 146 l) + length g ≡ record_size
        sum e = omega (arith, e, long)

    pub back_staging : staging_of (put_mid 146 512 l g) ≡ g
    back_staging = ap staging_of given_back ∙ staging_lent l g size long

-- the six octets that a record says are six
pub octets_six : (l : List ℕ) → length (core_of l).port.octets ≡ report_size
unfolding core_of port_of
octets_six l = refl

-- a byte within a block, staged and its phase written where they stand, is the step on what the buffer holds
pub byte_served : (l : List ℕ) (t : Tapes) (event : List ℕ) (i : Inside) (g out l' : List ℕ) → Octets l → is_record l ≡ true
    → (possible (core_of l) && short (lent_with (staging_of l) t)) ≡ true
    → inside_of (core_of l).port.phase (drive_at (core_of l) (core_of l).port.selected) (tape_at (lent_with (staging_of l) t) (core_of l).port.selected) event ≡ Some i
    → g ≡ staged (core_of l).port.phase i.act (staging_of l) → length g ≡ body_size
    → out ≡ (row_of Taken).number ∷ flag (is_some i.byte) ∷ unwrap_or i.byte 0 ∷ lines_bytes (record { ready = false; exception = false; direction = is_some i.byte })
    → l' ≡ placed (take 146 l ++ g) phase_at (phase_bytes i.phase) → Served l t event out l' t
byte_served l t event i g out l' small so calm found put long result left =
    record {
      turn = moved_on (core_of l) i.phase i.byte (is_some i.byte);
      staging = g;
      steps =
          subst (λ (x : List ℕ). Steps (core_of l) (lent_with (staging_of l) t) event (moved_on (core_of l) i.phase i.byte (is_some i.byte)) (lent_with x t))
          (sym put) (inside_steps (core_of l) (lent_with (staging_of l) t) event i calm found);
      result = result;
      left = left ∙ phase_moved l g i.phase small so long;
      sized = record { octets = octets_six l; staging = long };
    }
