-- No event is lost or answered twice at the edge of a piece.
use Prim.Native.Nat.{ℕ, zero, suc, ◌+◌, ◌≤◌}
use mathlib.Core.Bool.{Bool, true, false}
use mathlib.Core.List.{List, [], ◌∷◌, ◌++◌, append-nil, append_assoc}
use mathlib.Core.Path.{◌≡◌, refl, sym, ap, ap₂, ◌∙◌}
use native.Mathlib.Omega.{arith}
use lib.Dec.{leb}
use lib.ListN.{length, take, drop, length-append}
use lib.Seq.{take-append-le, drop-append-le, length-take-le, drop-drop}
use borrow.Author.Tests.{leb-true, le-leb}
use Rattle.std.specs.Prelude.{Option, Some, None, Ok, Err}
use Rattle.std.proofs.lemmas.Option.{none-some}
use Rattle.basis.specs.Choice.{pick}
use Rattle.rules.specs.Run.{World, after, turn_of}
use Rattle.trace.specs.declared.cut.Cut.TheVariants.{CutOff}
use Rattle.trace.specs.declared.run.Halt.TheVariants.{InputOut, RoomOut, Stopped}
use Rattle.trace.specs.Cut.{kind_size, cut_by, cut_of, answered, next_size, events_of}
use Rattle.trace.specs.Line.{line_size}
use Rattle.trace.specs.Play.{has_room, line_in, stops, Run, still, since, play}
use Rattle.trace.specs.Pieces.{Told, ended, behind, tell, gone_on, NothingLost}
use Rattle.trace.proofs.Cutting.{next_fits, none_of_none, shorter, events_none, events_next}

-- What is cut off the front of some bytes is cut off the front of more.
test_grown : (ending : Bool) (n n' s size : ℕ) (b : Bool) → n ≤ n' → leb s n ≡ b → answered false n (pick b (Ok s) (Err CutOff)) ≡ Some size
    → answered ending n' (pick (leb s n') (Ok s) (Err CutOff)) ≡ Some size
unfolding pick
test_grown ending n n' s size true h e p = let q = leb-true s n e in rw (le-leb s n' (omega arith)) p
test_grown ending n n' s size false h e p = absurd (none-some size p)

grown : (ending : Bool) (n n' : ℕ) (o : Option ℕ) (size : ℕ) → n ≤ n' → answered false n (cut_by o n) ≡ Some size
    → answered ending n' (cut_by o n') ≡ Some size
unfolding cut_by
grown ending n n' None size h p = p
grown ending n n' (Some s) size h p = test_grown ending n n' s size (leb s n) h refl p

same_cut : (ending : Bool) (m x : List ℕ) (size : ℕ) → next_size false x ≡ Some size → next_size ending (x ++ m) ≡ Some size
unfolding next_size cut_of
same_cut ending m [] size p = absurd (none-some size p)
same_cut ending m (k ∷ xs) size p =
    grown ending (length (k ∷ xs)) (length (k ∷ (xs ++ m))) (kind_size k) size (omega (arith, length-append xs m)) p

-- Either no event is cut off the front, or one of so many bytes is.
by_next : {A : Type 0} (b : Bool) (l : List ℕ) → (next_size b l ≡ None → A) → ((size : ℕ) → next_size b l ≡ Some size → A) → A
by_next {A} b l f g = go (next_size b l) refl
  where
    go : (o : Option ℕ) → next_size b l ≡ o → A
    go None p = f p
    go (Some size) p = g size p

behind_behind : (a b : List ℕ) (t : Told) → behind (a ++ b) t ≡ behind a (behind b t)
behind_behind a b t = rw (append_assoc a b t.text)

-- Bytes cut by b, with m behind them cut by e: what b cuts off, e cuts off too.
module _ (b e : Bool) (m : List ℕ) (agree : (x : List ℕ) (size : ℕ) → next_size b x ≡ Some size → next_size e (x ++ m) ≡ Some size) where
  -- A run over the bytes l, then what it left of them with m behind it.
  abbrev joined : Run → List ℕ → Told
  joined r l = gone_on r (events_of e (drop r.used l ++ m))

  joined_since : (k : ℕ) (line : List ℕ) (r : Run) (l : List ℕ) → joined (since k line r) l ≡ behind line (joined r (drop k l))
  joined_since k line r l =
      behind_behind line r.text
      (elim r.halt [
        | InputOut ↦ tell r.world r.count (events_of e (drop (k + r.used) l ++ m))
        | RoomOut ↦ tell r.world r.count (events_of e (drop (k + r.used) l ++ m))
        | Stopped ↦ ended r.world r.count true
      ])
      ∙ ap (λ (x : List ℕ). behind line (gone_on r (events_of e (x ++ m)))) (sym (drop-drop r.used k l))

  module _ (room full : ℕ) (w : World) (n : ℕ) (l : List ℕ) (size : ℕ) (cut : next_size b l ≡ Some size) where
    abbrev event : List ℕ
    event = take size l

    abbrev run : Run
    run = play room (full + line_size (n + 1)) (after w event) (n + 1) (events_of b (drop size l))

    abbrev line : List ℕ
    line = line_in w event (n + 1)

    inside : size ≤ length l
    inside = (next_fits b l size cut).1

    all_events : events_of e (l ++ m) ≡ event ∷ events_of e (drop size l ++ m)
    all_events =
        events_next e (l ++ m) size (agree l size cut)
        ∙ ap₂ (λ (x y : List ℕ). x ∷ events_of e y) (take-append-le size l m inside) (drop-append-le size l m inside)

    -- The event is answered: reading stops, or the rest goes on as it does.
    answered_so : tell (after w event) (n + 1) (events_of e (drop size l ++ m)) ≡ joined run (drop size l) → (stop : Bool)
        → behind line (elim stop [ true ↦ ended (after w event) (n + 1) true | false ↦ tell (after w event) (n + 1) (events_of e (drop size l ++ m)) ])
        ≡ joined (since (length event) line (elim stop [ true ↦ still (after w event) (n + 1) Stopped | false ↦ run ])) l
    answered_so ih true = rw (append-nil line, append-nil line)
    answered_so ih false =
        ap (λ (t : Told). behind line t) ih
        ∙ sym (joined_since size line run l)
        ∙ ap (λ (k : ℕ). joined (since k line run) l) (sym (length-take-le size l inside))

    with_event : tell (after w event) (n + 1) (events_of e (drop size l ++ m)) ≡ joined run (drop size l)
        → tell w n (events_of e (l ++ m)) ≡ joined (play room full w n (events_of b l)) l
    with_event ih =
        ap (λ (es : List (List ℕ)). tell w n es) all_events
        ∙ go (has_room room full n)
        ∙ sym (ap (λ (es : List (List ℕ)). joined (play room full w n es) l) (events_next b l size cut))
      where
        go : (x : Bool) → tell w n (event ∷ events_of e (drop size l ++ m))
            ≡ joined (elim x [
              | true ↦ since (length event) line
                  (elim (stops (turn_of w event).answer) [ true ↦ still (after w event) (n + 1) Stopped | false ↦ run ])
              | false ↦ still w n RoomOut
            ]) l
        go true = answered_so ih (stops (turn_of w event).answer)
        go false = sym (ap (λ (es : List (List ℕ)). tell w n es) all_events)

  without_event : (room full : ℕ) (w : World) (n : ℕ) (l : List ℕ) → next_size b l ≡ None
      → tell w n (events_of e (l ++ m)) ≡ joined (play room full w n (events_of b l)) l
  without_event room full w n l p = sym (ap (λ (es : List (List ℕ)). joined (play room full w n es) l) (events_none b l p))

  -- By the number of bytes: each event takes at least one.
  joins : (fuel room full : ℕ) (w : World) (n : ℕ) (l : List ℕ) → length l ≤ fuel
      → tell w n (events_of e (l ++ m)) ≡ joined (play room full w n (events_of b l)) l
  joins zero room full w n l h = without_event room full w n l (none_of_none b l h)
  joins (suc fuel) room full w n l h =
      by_next b l (without_event room full w n l)
      (λ size cut. with_event room full w n l size cut
      (joins fuel room (full + line_size (n + 1)) (after w (take size l)) (n + 1) (drop size l) (shorter l size fuel (next_fits b l size cut).0 h)))

module _ (b : Bool) where
  abbrev Spent : Run → List ℕ → Type 0
  Spent r l = r.halt ≡ InputOut → events_of b (drop r.used l) ≡ []

  module _ (room full : ℕ) (w : World) (n : ℕ) (l : List ℕ) (size : ℕ) (cut : next_size b l ≡ Some size) where
    abbrev first : List ℕ
    first = take size l

    abbrev others : Run
    others = play room (full + line_size (n + 1)) (after w first) (n + 1) (events_of b (drop size l))

    spent_so : Spent others (drop size l) → (x stop : Bool)
        → Spent (elim x [
          | true ↦ since (length first) (line_in w first (n + 1)) (elim stop [ true ↦ still (after w first) (n + 1) Stopped | false ↦ others ])
          | false ↦ still w n RoomOut
        ]) l
    spent_so ih true true p = absurd (let z : ◌≡◌ {A = ℕ} 0 1 = cc in omega arith)
    spent_so ih true false p =
        rw (length-take-le size l (next_fits b l size cut).1, ← drop-drop others.used size l) (ih p)
    spent_so ih false stop p = absurd (let z : ◌≡◌ {A = ℕ} 0 1 = cc in omega arith)

    spent_event : Spent others (drop size l) → Spent (play room full w n (events_of b l)) l
    spent_event ih = rw (events_next b l size cut) (spent_so ih (has_room room full n) (stops (turn_of w first).answer))

  spends : (fuel room full : ℕ) (w : World) (n : ℕ) (l : List ℕ) → length l ≤ fuel → Spent (play room full w n (events_of b l)) l
  spends zero room full w n l h = let z = events_none b l (none_of_none b l h) in rw z (λ p. z)
  spends (suc fuel) room full w n l h =
      by_next b l (λ p. let z = events_none b l p in rw z (λ q. z))
      (λ size cut. spent_event room full w n l size cut
      (spends fuel room (full + line_size (n + 1)) (after w (take size l)) (n + 1) (drop size l) (shorter l size fuel (next_fits b l size cut).0 h)))

pub nothing_lost : NothingLost
nothing_lost =
    record {
      piece = λ room full w n ending l m. joins false ending m (same_cut ending m) (length l) room full w n l (omega arith);
      last =
          λ room full w n l.
          ap (λ (x : List ℕ). tell w n (events_of true x)) (sym (append-nil l))
          ∙ joins true true [] (λ x size cut. ap (λ (y : List ℕ). next_size true y) (append-nil x) ∙ cut) (length l) room full w n l (omega arith)
          ∙ ap (λ (x : List ℕ). gone_on (play room full w n (events_of true l)) (events_of true x))
          (append-nil (drop (play room full w n (events_of true l)).used l));
      spent = λ room full w n ending l. spends ending (length l) room full w n l (omega arith);
    }
