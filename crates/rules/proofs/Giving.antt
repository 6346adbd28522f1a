-- 512 bytes given to a drive that writes: what they leave is what the last of them finds staged.
use Prim.Native.Nat.{ℕ, zero, suc, ◌+◌, ◌<◌}
use mathlib.Core.Path.{◌≡◌, refl, sym, ap, subst, ◌∙◌}
use mathlib.Core.Bool.{true, false}
use mathlib.Core.List.{List, [], ◌∷◌, ◌++◌, append_assoc}
use native.Mathlib.Omega.{arith}
use native.Mathlib.Numerals.{add-one}
use lib.Dec.{ltb}
use lib.ListN.{length, set, take, length-set}
use lib.Seq.{take_all, take-suc-set}
use borrow.Author.Tests.{lt-ltb}
use Rattle.std.specs.Prelude.{Some}
use Rattle.basis.specs.Choice.{pick}
use Rattle.basis.proofs.Choosing.{choice_holds}
use Rattle.rules.specs.declared.drive.Drive.{Drive}
use Rattle.rules.specs.declared.unit.Port.{Port}
use Rattle.rules.specs.declared.phase.Phase.{Phase}
use Rattle.rules.specs.declared.phase.Phase.TheVariants.{Rest, Taking}
use Rattle.rules.specs.declared.event.Act.TheVariants.{Give}
use Rattle.rules.specs.declared.event.Event.TheVariants.{Own}
use Rattle.rules.specs.Drive.{writes}
use Rattle.rules.specs.Late.{block_room, goes_on}
use Rattle.rules.specs.Unit.{at_phase}
use Rattle.rules.specs.Event.{bodied_event, event_of}
use Rattle.rules.specs.Refusal.{in_step_at}
use Rattle.rules.specs.Phase.{given_before}
use Rattle.rules.specs.Effect.{Seat, seat, Acted, leaves, with_block, resting}
use Rattle.rules.specs.Bytes.{staged_byte, after_block, stored, byte_given}
use Rattle.rules.specs.Run.{World, after, run, turns, given_each}
use Rattle.rules.specs.Promises.Strike.{AllTaken}
use Rattle.rules.proofs.Seated.{Sits, left, Moves, sits_step}

-- the phase in which n bytes of a block were given
abbrev pub place_at : ℕ → Phase
place_at zero = Rest
place_at (suc n) = Taking (suc n)

pub given_place_lem : (n : ℕ) → given_before (place_at n) ≡ n
given_place_lem zero = refl
given_place_lem (suc n) = refl

pub may_give : (n : ℕ) (d : Drive) (b : ℕ) → writes d ≡ true → in_step_at (place_at n) d (Give b) ≡ true
may_give zero d b h = h
may_give (suc n) d b h = h

pub give_event : (b : ℕ) → event_of (2 ∷ b ∷ []) ≡ Some (Own (Give b))
unfolding event_of bodied_event pick
give_event b = refl

-- the drive stays selected
pub stored_here : (g : List ℕ) (p : Port) (d : Drive) (t : List ℕ) → (stored g p d t).moved.port.selected ≡ p.selected
unfolding stored after_block
stored_here g p d t =
    let P : Acted → Type 0 = λ m. m.moved.port.selected ≡ p.selected in
    choice_holds P (block_room d.late d.head (length t))
    (choice_holds P (goes_on d.late (d.head + 513) (length (with_block g d t))) refl refl) refl

given_here : (g : List ℕ) (s : Seat) (n : ℕ) → (byte_given g s n).moved.port.selected ≡ s.port.selected
given_here g s n =
    choice_holds (λ (m : Acted). m.moved.port.selected ≡ s.port.selected) (ltb n 511) refl
    (stored_here g (resting s) s.drive s.tape)

-- before the 512th the byte is staged in its place
pub staged_there : (g : List ℕ) (n b : ℕ) → n < 511 → staged_byte n b g ≡ set g n b
unfolding staged_byte pick
staged_there g n b l = rw (lt-ltb n 511 l)

part_given : (g : List ℕ) (s : Seat) (n : ℕ) → n < 511
    → byte_given g s n ≡ leaves false (at_phase (place_at (suc n)) s.port) s.drive s.tape
unfolding pick
part_given g s n l = rw (lt-ltb n 511 l, add-one)

last_staged : (g : List ℕ) (b : ℕ) → length g ≡ 512 → staged_byte 511 b g ≡ take 511 g ++ (b ∷ [])
unfolding staged_byte pick
last_staged g b e =
    sym (take_all 512 (set g 511 b) (omega (arith, length-set g 511 b, e))) ∙ take-suc-set g 511 b (omega (arith, e))

-- what giving these bytes left
pub record Given (w : World) (bs body : List ℕ) (m : Acted) : Type 0 where
  pub next : Sits (run w (given_each bs)) body (left m)
  pub answers : m.moved.raised ≡ false → AllTaken (turns w (given_each bs))

module _ (p : Port) (d : Drive) (t : List ℕ) (may : writes d ≡ true) where
  abbrev seat_at : ℕ → Seat
  seat_at n = seat (at_phase (place_at n) p) d t

  give_moves : (w : World) (g : List ℕ) (n b : ℕ) → Sits w g (seat_at n)
      → Moves w (2 ∷ b ∷ []) (staged_byte n b g) (byte_given (staged_byte n b g) (seat_at n) n)
  give_moves w g n b k =
      subst (λ (m : ℕ). Moves w (2 ∷ b ∷ []) (staged_byte m b g) (byte_given (staged_byte m b g) (seat_at n) m)) (given_place_lem n)
      (sits_step w g (seat_at n) (2 ∷ b ∷ []) (Give b) k (give_event b) (may_give n d b may) (given_here (staged_byte (given_before (place_at n)) b g) (seat_at n) (given_before (place_at n))))

  give_next : (w : World) (g : List ℕ) (n b : ℕ) → n < 511 → Sits w g (seat_at n)
      → Moves w (2 ∷ b ∷ []) (set g n b) (leaves false (at_phase (place_at (suc n)) p) d t)
  give_next w g n b l k =
      subst (λ (x : List ℕ). Moves w (2 ∷ b ∷ []) x (leaves false (at_phase (place_at (suc n)) p) d t)) (staged_there g n b l)
      (subst (Moves w (2 ∷ b ∷ []) (staged_byte n b g)) (part_given (staged_byte n b g) (seat_at n) n l) (give_moves w g n b k))

  give_last : (w : World) (g : List ℕ) (b : ℕ) → Sits w g (seat_at 511)
      → Moves w (2 ∷ b ∷ []) (take 511 g ++ (b ∷ [])) (stored (take 511 g ++ (b ∷ [])) (at_phase Rest p) d t)
  unfolding pick
  give_last w g b k =
      subst (λ (x : List ℕ). Moves w (2 ∷ b ∷ []) x (stored x (at_phase Rest p) d t))
      (last_staged g b (ap length (sym k.staging) ∙ k.sound.whole)) (give_moves w g 511 b k)

  -- the bytes from place n on, the last of them at 511
  give_rest : (bs : List ℕ) (w : World) (g : List ℕ) (n b : ℕ) → n + length (b ∷ bs) ≡ 512 → Sits w g (seat_at n)
      → Given w (b ∷ bs) (take n g ++ (b ∷ bs)) (stored (take n g ++ (b ∷ bs)) (at_phase Rest p) d t)
  unfolding pick
  give_rest [] w g n b e k =
      let q : n ≡ 511 = omega (arith, e) in
      subst (λ (x : ℕ). Sits w g (seat_at x) → Given w (b ∷ []) (take x g ++ (b ∷ [])) (stored (take x g ++ (b ∷ [])) (at_phase Rest p) d t)) (sym q)
      (λ k'. let m = give_last w g b k' in record { next = m.next; answers = λ r. (m.answer ∙ rw r, tt) }) k
  give_rest (b' ∷ bs) w g n b e k =
      let l : n < 511 = omega (arith, e) in
      let m = give_next w g n b l k in
      let size : length g ≡ 512 = ap length (sym k.staging) ∙ k.sound.whole in
      let body : take (suc n) (set g n b) ++ (b' ∷ bs) ≡ take n g ++ (b ∷ b' ∷ bs) =
      ap (λ (x : List ℕ). x ++ (b' ∷ bs)) (take-suc-set g n b (omega (arith, size))) ∙ append_assoc (take n g) (b ∷ []) (b' ∷ bs) in
      let r = give_rest bs (after w (2 ∷ b ∷ [])) (set g n b) (suc n) b' (omega (arith, e)) m.next in
      let r' = subst (λ (x : List ℕ). Given (after w (2 ∷ b ∷ [])) (b' ∷ bs) x (stored x (at_phase Rest p) d t)) body r in
      record { next = r'.next; answers = λ x. (m.answer, r'.answers x) }

  -- a whole block given from Rest on
  pub block_given : (w : World) (g body : List ℕ) → length body ≡ 512 → Sits w g (seat (at_phase Rest p) d t)
      → Given w body body (stored body (at_phase Rest p) d t)
  block_given w g [] e k = absurd (omega (arith, e))
  block_given w g (b ∷ bs) e k = give_rest bs w g 0 b (omega (arith, e)) k
