-- A run taken turn by turn: what is written so far, in front of what the rest will write, is the whole.
use Prim.Native.Nat.{ℕ, ◌+◌, ◌-◌, ◌≤◌}
use mathlib.Core.Bool.{Bool, true, false}
use mathlib.Core.List.{List, ◌∷◌, ◌++◌, append-nil, append_assoc}
use mathlib.Core.Path.{◌≡◌, refl, sym, ap, ap₂, ◌∙◌}
use native.Mathlib.Nat.{add-zero, zero-add, add_assoc}
use native.Mathlib.Omega.{arith}
use lib.ListN.{length, take, drop, length-drop, take-append-drop}
use lib.Seq.{take_all, length-take-le, drop-drop}
use Rattle.std.specs.Prelude.{Option, Some, None}
use Rattle.rules.specs.declared.unit.Core.{Core}
use Rattle.rules.specs.Unit.{Lent}
use Rattle.rules.specs.Run.{World, world, after, turn_of}
use Rattle.trace.specs.declared.run.Halt.{Halt}
use Rattle.trace.specs.declared.run.Halt.TheVariants.{InputOut, RoomOut, Stopped}
use Rattle.trace.specs.declared.run.Played.{Played}
use Rattle.trace.specs.Cut.{next_size, events_of}
use Rattle.basis.specs.Placed.{placed}
use Rattle.trace.specs.Line.{line_size}
use Rattle.trace.specs.Play.{has_room, line_in, stops, Run, still, since, play, Plays, Turned, turn}
use Rattle.basis.proofs.Choosing.{elim_true, elim_false}
use Rattle.trace.proofs.Lengths.{line_length}
use Rattle.basis.proofs.Placing.{placed_length, take_placed, drop_placed}
use Rattle.trace.proofs.Cutting.{next_fits, events_none, events_next}
use Rattle.trace.proofs.Turning.{room_fits}

-- Where a run stands, with so much used and written: what is written, and behind it what the rest will write, is the whole; the output behind it is as found.
pub record Stands (c : Core) (l : Lent) (input : List ℕ) (ending : Bool) (count : ℕ) (o : List ℕ) (used written : ℕ) (out : List ℕ)
    (rest : Run) : Type 0 where
  pub whole : since used (take written out) rest ≡ play (length o) 0 (world c l) count (events_of ending input)
  pub behind : drop written out ≡ drop written o
  pub inside : used ≤ length input
  pub within : written ≤ length out
  pub same : length out ≡ length o

-- A run that stands in the world w, with n events answered: the rest of it is still to come.
pub record Runs (c : Core) (l : Lent) (input : List ℕ) (ending : Bool) (count : ℕ) (o : List ℕ) (w : World) (used written n : ℕ)
    (out : List ℕ) : Type 0 where
  pub stands : Stands c l input ending count o used written out (play (length o) written w n (events_of ending (drop used input)))

-- Before the first turn nothing is used or written.
pub at_start : (c : Core) (l : Lent) (input : List ℕ) (ending : Bool) (count : ℕ) (o : List ℕ) → Runs c l input ending count o (world c l) 0 0 count o
at_start c l input ending count o =
    record {
      stands =
          record {
            whole = rw (zero-add (play (length o) 0 (world c l) count (events_of ending input)).used);
            behind = refl;
            inside = omega arith;
            within = omega arith;
            same = refl;
          };
    }

since_since : (a b : ℕ) (x y : List ℕ) (r : Run) → since a x (since b y r) ≡ since (a + b) (x ++ y) r
since_since a b x y r = rw (add_assoc a b r.used, append_assoc x y r.text)

module _ {c : Core} {l : Lent} {input : List ℕ} {ending : Bool} {count : ℕ} {o : List ℕ} {used written : ℕ} {out : List ℕ} where
  with_rest : {r r' : Run} → Stands c l input ending count o used written out r → r ≡ r' → Stands c l input ending count o used written out r'
  with_rest s e =
      record {
        whole = rw e at s.whole;
        behind = s.behind;
        inside = s.inside;
        within = s.within;
        same = s.same;
      }

  -- Where a run halts, what it leaves is all that it was to leave.
  pub halts : {v : Core} {l' : Lent} {n : ℕ} {h : Halt} {p : Played} → Stands c l input ending count o used written out (still (world v l') n h)
      → p ≡ record { core = v; used = used; written = written; count = n; halt = h } → Plays c l input ending count o p l' out
  halts s q =
      record {
        is =
            rw (
              q,
              ← s.whole,
              add-zero used,
              append-nil (take written out),
              length-take-le written out s.within,
              ← s.behind,
              take-append-drop
                  written out,
            );
        within = rw q s.inside;
        fits = rw q (rw s.same at s.within);
      }

-- The part of the input that is looked at is all that is not used yet.
part_end : (l : List ℕ) (k : ℕ) → take (length l - k) (drop k l) ≡ drop k l
part_end l k = take_all (length l - k) (drop k l) (rw (length-drop k l) (omega arith))

looked_at : (ending : Bool) (l : List ℕ) (k : ℕ) {o : Option ℕ} → o ≡ next_size ending (take (length l - k) (drop k l))
    → next_size ending (drop k l) ≡ o
looked_at ending l k cut = sym (cut ∙ ap (λ (x : List ℕ). next_size ending x) (part_end l k))

module _ {c : Core} {l : Lent} {input : List ℕ} {ending : Bool} {count : ℕ} {o : List ℕ} {w : World} {used written n : ℕ} {out : List ℕ}
    (g : Runs c l input ending count o w used written n out) where
  -- No event is left.
  pub none_left : None ≡ next_size ending (take (length input - used) (drop used input))
      → Stands c l input ending count o used written out (still w n InputOut)
  none_left cut =
      with_rest g.stands
      (ap (λ (es : List (List ℕ)). play (length o) written w n es) (events_none ending (drop used input) (looked_at ending input used cut)))

  module _ {size : ℕ} (cut : Some size ≡ next_size ending (take (length input - used) (drop used input))) where
    next_is : next_size ending (drop used input) ≡ Some size
    next_is = looked_at ending input used cut

    size_inside : size ≤ length (drop used input)
    size_inside = (next_fits ending (drop used input) size next_is).1

    -- The next event has at least one byte, and ends inside the input.
    pub event_inside : (1 ≤ size) × (used + size ≤ length input)
    event_inside =
        ((next_fits ending (drop used input) size next_is).0, let q = size_inside in omega (arith, length-drop used input, g.stands.inside))

    abbrev event : List ℕ
    event = take size (drop used input)

    abbrev line : List ℕ
    line = line_in w event (n + 1)

    abbrev later : ℕ → World → Run
    later full v = play (length o) full v (n + 1) (events_of ending (drop (used + size) input))

    -- What comes behind the event's line: nothing where reading stops, else the rest of the run.
    abbrev rest : Run
    rest =
        elim (stops (turn_of w event).answer) [
          | true ↦ still (after w event) (n + 1) Stopped
          | false ↦ later (written + line_size (n + 1)) (after w event)
        ]

    events : events_of ending (drop used input) ≡ event ∷ events_of ending (drop (used + size) input)
    events =
        events_next ending (drop used input) size next_is
        ∙ ap (λ (x : List ℕ). event ∷ events_of ending x) (drop-drop size used input)

    played : (b : Bool) → has_room (length out) written n ≡ b
        → play (length o) written w n (events_of ending (drop used input)) ≡ elim b
        [ true ↦ since (length event) line rest | false ↦ still w n RoomOut ]
    played b p =
        ap (λ (es : List (List ℕ)). play (length o) written w n es) events
        ∙ ap (λ (x : Bool). elim x [ true ↦ since (length event) line rest | false ↦ still w n RoomOut ]) (rw g.stands.same at p)

    -- There is an event, and no room for its line.
    pub no_room : has_room (length out) written n ≡ false → Stands c l input ending count o used written out (still w n RoomOut)
    no_room p = with_rest g.stands (played false p)

    module _ (fits : has_room (length out) written n ≡ true) {t : Turned}
        (made_at : t ≡ turn w (take (used + size - used) (drop used input)) (n + 1) out written) where
      made : t ≡ turn w event (n + 1) out written
      made = let e : used + size - used ≡ size = omega arith in rw e at made_at

      line_size_lem : length line ≡ line_size (n + 1)
      unfolding line_in
      line_size_lem = line_length (n + 1) (turn_of w event).answer (turn_of w event).lines (turn_of w event).byte

      line_inside : written + length line ≤ length out
      line_inside = let q = (room_fits (length out) written n fits).1 in rw line_size_lem q

      world_is : t.world ≡ after w event
      unfolding turn
      world_is = ap (λ (x : Turned). x.world) made

      stop_is : stops (turn_of w event).answer ≡ t.stop
      unfolding turn
      stop_is = sym (ap (λ (x : Turned). x.stop) made)

      full_is : t.full ≡ written + line_size (n + 1)
      unfolding turn
      full_is = ap (λ (x : Turned). x.full) made

      out_is : t.out ≡ placed out written line
      unfolding turn
      out_is = ap (λ (x : Turned). x.out) made

      past_line : t.full ≡ written + length line
      past_line = rw line_size_lem full_is

      wrote : take t.full t.out ≡ take written out ++ line
      wrote = rw (past_line, out_is) (take_placed out written line line_inside)

      -- Where the run stands after the turn.
      turn_taken : Stands c l input ending count o (used + size) t.full t.out rest
      turn_taken =
          record {
            whole =
                ap (λ (x : List ℕ). since (used + size) x rest) wrote
                ∙ sym (ap (λ (r : Run). since used (take written out) r) (played true fits)
                ∙ since_since used (length event) (take written out) line rest
                ∙ ap (λ (k : ℕ). since (used + k) (take written out ++ line) rest) (length-take-le size (drop used input) size_inside))
                ∙ g.stands.whole;
            behind =
                rw (past_line, out_is) (drop_placed out written line line_inside
                ∙ rw (← drop-drop (length line) written out, ← drop-drop (length line) written o, g.stands.behind));
            inside = event_inside.1;
            within = rw (out_is, past_line, placed_length out written line line_inside) line_inside;
            same = ap length out_is ∙ placed_length out written line line_inside ∙ g.stands.same;
          }

      -- Reading goes on: what the rest will write comes behind the line.
      pub goes_on : t.stop ≡ false → Runs c l input ending count o t.world (used + size) t.full (n + 1) t.out
      goes_on p =
          record {
            stands =
                with_rest turn_taken
                (elim_false (stops (turn_of w event).answer) (still (after w event) (n + 1) Stopped)
                (later (written + line_size (n + 1)) (after w event)) (stop_is ∙ p)
                ∙ sym (ap₂ later full_is world_is));
          }

      -- Reading stops: nothing comes behind the line.
      pub goes_no_further : t.stop ≡ true → Stands c l input ending count o (used + size) t.full t.out (still t.world (n + 1) Stopped)
      goes_no_further p =
          with_rest turn_taken
          (elim_true (stops (turn_of w event).answer) (still (after w event) (n + 1) Stopped) (later (written + line_size (n + 1)) (after w event))
          (stop_is ∙ p)
          ∙ sym (ap (λ (v : World). still v (n + 1) Stopped) world_is))
