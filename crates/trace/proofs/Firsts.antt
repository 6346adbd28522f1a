-- A run answers the first of its events as the book's run does.
use Prim.Native.Nat.{ℕ, suc, ◌+◌}
use mathlib.Core.Bool.{Bool, true, false}
use mathlib.Core.List.{List, [], ◌∷◌, ◌++◌}
use mathlib.Core.Path.{refl, sym, ap}
use native.Mathlib.Nat.{add-zero}
use native.Mathlib.Omega.{arith}
use lib.ListN.{length}
use Rattle.rules.specs.Run.{World, after, turn_of}
use Rattle.trace.specs.declared.run.Halt.{Halt}
use Rattle.trace.specs.declared.run.Halt.TheVariants.{RoomOut, Stopped, InputOut}
use Rattle.trace.specs.Line.{line_size}
use Rattle.trace.specs.Play.{has_room, line_in, stops, Run, still, since, play}
use Rattle.trace.specs.Book.{FirstOf, ByTheBook}

none_answered : (w : World) (n : ℕ) (es : List (List ℕ)) (h : Halt) → FirstOf w n es (still w n h)
none_answered w n es h = record { answered = 0; count = sym (add-zero n); used = refl; world = refl; text = refl }

one_answered : (w : World) (n : ℕ) (e : List ℕ) (es : List (List ℕ)) (r : Run) → FirstOf (after w e) (n + 1) es r
    → FirstOf w n (e ∷ es) (since (length e) (line_in w e (n + 1)) r)
unfolding line_in
one_answered w n e es r f =
    record {
      answered = suc f.answered;
      count = let q = f.count in omega arith;
      used = ap (λ (k : ℕ). length e + k) f.used;
      world = f.world;
      text = ap (λ (l : List ℕ). line_in w e (n + 1) ++ l) f.text;
    }

pub by_the_book : ByTheBook
by_the_book room full w n [] = none_answered w n [] InputOut
by_the_book room full w n (e ∷ es) =
    go (has_room room full n) (stops (turn_of w e).answer) (by_the_book room (full + line_size (n + 1)) (after w e) (n + 1) es)
  where
    go : (x stop : Bool) → FirstOf (after w e) (n + 1) es (play room (full + line_size (n + 1)) (after w e) (n + 1) es)
        → FirstOf w n (e ∷ es) (elim x [
          | true ↦ since (length e) (line_in w e (n + 1)) (elim stop [
            | true ↦ still (after w e) (n + 1) Stopped
            | false ↦ play room (full + line_size (n + 1)) (after w e) (n + 1) es
          ])
          | false ↦ still w n RoomOut
        ])
    go true true f = one_answered w n e es (still (after w e) (n + 1) Stopped) (none_answered (after w e) (n + 1) es Stopped)
    go true false f = one_answered w n e es (play room (full + line_size (n + 1)) (after w e) (n + 1) es) f
    go false stop f = none_answered w n (e ∷ es) RoomOut
