-- What a record that was put on a tape leaves.
use Prim.Native.Nat.{ℕ, ◌+◌, ◌≤◌, ◌<◌}
use mathlib.Core.Path.{◌≡◌, refl, sym, ap, ◌∙◌}
use mathlib.Core.List.{List, [], ◌∷◌, ◌++◌}
use mathlib.Core.Bool.{Bool, true, false}
use native.Mathlib.Omega.{arith}
use native.Mathlib.Nat.{add-zero}
use lib.ListN.{length, get_or, take, drop, length-append, length-drop, get_or-append}
use lib.Seq.{take_at, drop_at, drop-drop, get_or-drop, get_or-append-add, drop-append-add, length-take-le}
use lib.Dec.{leb}
use borrow.Author.Tests.{leb-true, leb-false}
use Rattle.std.specs.Prelude.{Err}
use Rattle.tape.specs.declared.found.Why.TheVariants.{End}
use Rattle.tape.specs.Record.{found_at, mark_record, block_record}
use Rattle.tape.specs.Recording.{ended, put_in, recorded}
use Rattle.tape.specs.Laws.{whole_block, one_mark, one_end, tape_end, RecordingKeeps, MarkFound, BlockFound}
use Rattle.tape.proofs.Standing.{case_found}

ended_length : (l : List ℕ) → length (ended l) ≡ length l
ended_length [] = refl
ended_length (x ∷ xs) = refl

ended_first : (l : List ℕ) → get_or (ended l) 0 0 ≡ 0
ended_first [] = refl
ended_first (x ∷ xs) = refl

ended_rest : (l : List ℕ) → drop 1 (ended l) ≡ drop 1 l
ended_rest [] = refl
ended_rest (x ∷ xs) = refl

module _ (t rec : List ℕ) (h : ℕ) (fits : h + length rec ≤ length t) where
  head_length : length (take h t) ≡ h
  head_length = length-take-le h t (omega arith)

  pub recorded_length : length (recorded t h rec) ≡ length t
  unfolding recorded
  recorded_length = simp (length-append, head_length, ended_length, length-drop) (omega arith)

  pub recorded_before : take h (recorded t h rec) ≡ take h t
  unfolding recorded
  recorded_before = take_at (take h t) (put_in rec (drop h t)) h head_length

  -- the record, and what comes after it
  pub recorded_from : drop h (recorded t h rec) ≡ rec ++ ended (drop (h + length rec) t)
  unfolding recorded
  recorded_from = drop_at (take h t) (put_in rec (drop h t)) h head_length ∙ ap (λ (l : List ℕ). rec ++ ended l) (drop-drop (length rec) h t)

  pub recorded_at : (i : ℕ) → i < length rec → get_or (recorded t h rec) (h + i) 0 ≡ get_or rec i 0
  recorded_at i l = sym (get_or-drop h (recorded t h rec) i 0) ∙ rw recorded_from (get_or-append rec (ended (drop (h + length rec) t)) 0 i l)

  -- the 00 after it, or the tape's end
  recorded_end : get_or (recorded t h rec) (h + length rec) 0 ≡ 0
  recorded_end =
      sym (get_or-drop h (recorded t h rec) (length rec) 0)
      ∙ rw recorded_from
      (ap (λ (k : ℕ). get_or (rec ++ ended (drop (h + length rec) t)) k 0) (sym (add-zero (length rec)))
      ∙ get_or-append-add rec (ended (drop (h + length rec) t)) 0 0
      ∙ ended_first (drop (h + length rec) t))

  recorded_after : drop (h + (length rec + 1)) (recorded t h rec) ≡ drop (h + (length rec + 1)) t
  recorded_after =
      let q : h + length rec + 1 ≡ h + (length rec + 1) = omega arith in
      sym (drop-drop (length rec + 1) h (recorded t h rec))
      ∙ rw (recorded_from, drop-append-add) (ended_rest (drop (h + length rec) t) ∙ drop-drop 1 (h + length rec) t ∙ ap (λ (k : ℕ). drop k t) q)

  found_after : found_at (recorded t h rec) (h + length rec) ≡ Err End
  found_after = go (leb (h + length rec + 1) (length t)) refl
    where
      go : (b : Bool) → leb (h + length rec + 1) (length t) ≡ b → found_at (recorded t h rec) (h + length rec) ≡ Err End
      go true e =
          let l : h + length rec + 1 ≤ length t = leb-true _ _ e in
          case_found _ _ _ (one_end (rw recorded_length (omega arith)) recorded_end)
      go false e =
          let l : length t < h + length rec + 1 = leb-false _ _ e in
          case_found _ _ _ (tape_end (rw recorded_length (omega arith)))

pub recording_keeps : RecordingKeeps
recording_keeps t rec h fits =
    record {
      size = recorded_length t rec h fits;
      before = recorded_before t rec h fits;
      bytes = recorded_at t rec h fits;
      after = recorded_after t rec h fits;
      ends = found_after t rec h fits;
    }

pub mark_found : MarkFound
mark_found t h l =
    case_found _ _ _ (one_mark (rw (recorded_length t mark_record h l) (omega arith)) (rw add-zero at (recorded_at t mark_record h l 0 (omega arith))))

pub block_found : BlockFound
block_found t body h e l =
    let f : h + length (block_record body) ≤ length t = omega arith in
    case_found _ _ _
    (whole_block (rw (recorded_length t (block_record body) h f) l) (rw add-zero at (recorded_at t (block_record body) h f 0 (omega arith))))
