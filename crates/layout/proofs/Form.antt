-- Bytes that are a record are the bytes of it.
use Prim.Native.Nat.{ℕ, zero, suc, ◌+◌, ◌*◌, ◌%◌, ◌/◌, ◌<◌, ◌≤◌}
use mathlib.Core.Path.{◌≡◌, refl, sym, ap, ap₂, ◌∙◌}
use mathlib.Core.Bool.{true}
use mathlib.Core.List.{List, [], ◌∷◌, ◌++◌}
use native.Mathlib.Nat.{add-mul-mod_self_left, add-mul-div_left, mod-eq_of_lt, div-eq_of_lt, zero-add}
use native.Mathlib.Omega.{arith}
use borrow.Author.Tests.{leb-true, eqb-true}
use lib.Dec.{eqb}
use lib.ListN.{length, drop}
use lib.Seq.{take_all, get_or-take, get_or-drop}
use Rattle.basis.specs.Choice.{pick}
use Rattle.basis.proofs.Choosing.{both}
use Rattle.layout.specs.Number.{two, four, eight, byte_at, two_at, four_at, eight_at}
use Rattle.rules.specs.Phase.{which_phase, how_far}
use Rattle.layout.specs.Written.{flag, unused, mode_byte, drive_bytes, port_bytes, unit_bytes}
use Rattle.layout.specs.Written.{port_size, drive_size, record_size}
use Rattle.layout.specs.Read.{stretch, is_flag, is_mode, is_phase, is_unused, is_drive, is_port, is_record}
use Rattle.layout.specs.Read.{flag_of, mode_of, phase_of, drive_of, port_of, core_of, staging_of}
use Rattle.layout.specs.Laws.{Octets, OneForm}
use Rattle.basis.proofs.Placing.{each, each_is}
use Rattle.layout.proofs.Stretch.{stretch_long, stretch_end, stretch_off}

-- lists that agree part by part
ends : ◌≡◌ {A = List ℕ} [] []
ends = refl

then : {a b : ℕ} {l r : List ℕ} → a ≡ b → l ≡ r → a ∷ l ≡ b ∷ r
then p q = ap₂ (λ (x : ℕ) (y : List ℕ). x ∷ y) p q

joined : {a b l r : List ℕ} → a ≡ b → l ≡ r → a ++ l ≡ b ++ r
joined p q = ap₂ (λ (x y : List ℕ). x ++ y) p q

-- the halves of a number are given back by it
low : (k a b : ℕ) → a < k → (a + k * b) % k ≡ a
low k a b small = add-mul-mod_self_left a k b ∙ mod-eq_of_lt small

high : (k a b : ℕ) → a < k → (a + k * b) / k ≡ b
high k a b small = add-mul-div_left a b (omega (arith, small)) ∙ ap (λ (x : ℕ). x + b) (div-eq_of_lt small) ∙ zero-add b

halves : (bytes : ℕ → List ℕ) (k a b : ℕ) → a < k → bytes ((a + k * b) % k) ++ bytes ((a + k * b) / k) ≡ bytes a ++ bytes b
halves bytes k a b small = joined (ap bytes (low k a b small)) (ap bytes (high k a b small))

-- The first n bytes are below 256.
abbrev Small : ℕ → List ℕ → Type 0
Small n l = (i : ℕ) → i < n → byte_at l i < 256

-- the bytes of a number that is read from bytes are these
abbrev pair : List ℕ → ℕ → List ℕ
pair l i = byte_at l i ∷ byte_at l (i + 1) ∷ []

module _ (l : List ℕ) (n : ℕ) (small : Small n l) where
  two_below : (i : ℕ) → i + 2 ≤ n → two_at l i < 65536
  two_below i fits = omega (arith, small i (omega arith), small (i + 1) (omega arith))

  four_below : (i : ℕ) → i + 4 ≤ n → four_at l i < 4294967296
  four_below i fits = omega (arith, two_below i (omega arith), two_below (i + 2) (omega arith))

  two_at_lem : (i : ℕ) → i + 2 ≤ n → two (two_at l i) ≡ pair l i
  two_at_lem i fits = halves (λ (b : ℕ). b ∷ []) 256 (byte_at l i) (byte_at l (i + 1)) (small i (omega arith))

  four_at_lem : (i : ℕ) → i + 4 ≤ n → four (four_at l i) ≡ pair l i ++ pair l (i + 2)
  four_at_lem i fits =
      halves two 65536 (two_at l i) (two_at l (i + 2)) (two_below i (omega arith))
      ∙ joined (two_at_lem i (omega arith)) (two_at_lem (i + 2) (omega arith))

  eight_at_lem : (i : ℕ) → i + 8 ≤ n → eight (eight_at l i) ≡ (pair l i ++ pair l (i + 2)) ++ (pair l (i + 4) ++ pair l (i + 4 + 2))
  eight_at_lem i fits =
      halves four 4294967296 (four_at l i) (four_at l (i + 4)) (four_below i (omega arith))
      ∙ joined (four_at_lem i (omega arith)) (four_at_lem (i + 4) (omega arith))

unused_form : (n : ℕ) → is_unused n ≡ true → unused ≡ n
unused_form n e = sym (eqb-true n unused e)

flag_form : (b : ℕ) → is_flag b ≡ true → flag (flag_of b) ≡ b
flag_form zero e = refl
flag_form (suc zero) e = refl
flag_form (suc (suc n)) e = absurd (omega (arith, leb-true (suc (suc n)) 1 e))

mode_form : (b : ℕ) → is_mode b ≡ true → mode_byte (mode_of b) ≡ b
unfolding mode_of pick
mode_form zero e = refl
mode_form (suc zero) e = refl
mode_form (suc (suc zero)) e = refl
mode_form (suc (suc (suc n))) e = absurd (omega (arith, leb-true (suc (suc (suc n))) 2 e))

phase_form : (b n : ℕ) → is_phase b n ≡ true → (which_phase (phase_of b n) ≡ b) × (how_far (phase_of b n) ≡ n)
unfolding phase_of pick
phase_form zero n e = (refl, sym (eqb-true n 0 e))
phase_form (suc zero) n e = (refl, refl)
phase_form (suc (suc zero)) n e = (refl, refl)
phase_form (suc (suc (suc zero))) n e = (refl, refl)
phase_form (suc (suc (suc (suc m)))) n e = absurd (omega (arith, leb-true (suc (suc (suc (suc m)))) 3 (both _ _ e).0))

-- a list of n bytes is each of them
whole : (n : ℕ) (l : List ℕ) → length l ≡ n → each n 0 l ≡ l
whole n l size = each_is n 0 l (omega (arith, size)) ∙ take_all n l (omega (arith, size))

drive_form : (d : List ℕ) → length d ≡ drive_size → Small drive_size d → is_drive d ≡ true → drive_bytes (drive_of d) ≡ d
unfolding is_drive drive_of drive_bytes
drive_form d size small so =
    let head = eight_at_lem d drive_size small 0 (omega arith) in
    let room = four_at_lem d drive_size small 8 (omega arith) in
    let errors = two_at_lem d drive_size small 12 (omega arith) in
    let underruns = two_at_lem d drive_size small 14 (omega arith) in
    let spare = two_at_lem d drive_size small 30 (omega arith) in
    let s0 = both _ _ so in
    let s1 = both _ _ s0.1 in
    let s2 = both _ _ s1.1 in
    let s3 = both _ _ s2.1 in
    let s4 = both _ _ s3.1 in
    let c0 = both _ _ s4.0 in
    let c1 = both _ _ c0.1 in
    let c2 = both _ _ c1.1 in
    let c3 = both _ _ c2.1 in
    let c4 = both _ _ c3.1 in
    let c5 = both _ _ c4.1 in
    let c6 = both _ _ c5.1 in
    let u0 = both _ _ s4.1 in
    let u1 = both _ _ u0.1 in
    let number = ap four (unused_form _ u0.0) ∙ room in
    let mode = then (mode_form (byte_at d 19) s2.0) (then refl (then (flag_form (byte_at d 21) s3.0) ends)) in
    let state = then (flag_form (byte_at d 16) s0.0) (then (flag_form (byte_at d 17) s1.0) (then (unused_form _ u1.0) mode)) in
    let octet1 = then (flag_form (byte_at d 27) c5.0) (then (flag_form (byte_at d 28) c6.0) (then (flag_form (byte_at d 29) c6.1) ends)) in
    let octet0 = then (flag_form (byte_at d 24) c2.0) (then (flag_form (byte_at d 25) c3.0) (then (flag_form (byte_at d 26) c4.0) octet1)) in
    let bits = then (flag_form (byte_at d 22) c0.0) (then (flag_form (byte_at d 23) c1.0) octet0) in
    let last = ap two (unused_form _ u1.1) ∙ spare in
    joined head (joined number (joined errors (joined underruns (joined state (joined bits last))))) ∙ whole drive_size d size

port_form : (p : List ℕ) → length p ≡ port_size → Small port_size p → is_port p ≡ true → port_bytes (port_of p) ≡ p
unfolding is_port port_of port_bytes
port_form p size small so =
    let number = eight_at_lem p port_size small 4 (omega arith) in
    let s0 = both _ _ so in
    let s1 = both _ _ s0.1 in
    let phase = phase_form (byte_at p 3) (eight_at p 4) s1.1 in
    let selected : byte_at p 1 ≡ byte_at p 1 = refl in
    let line = then selected (then (flag_form (byte_at p 2) s1.0) (then phase.0 ends)) in
    let front = then (sym (eqb-true (byte_at p 0) 2 s0.0)) line in
    let octets : each 6 12 p ≡ each 6 12 p = refl in
    joined front (joined (ap eight phase.1 ∙ number) octets) ∙ whole port_size p size

-- what a stretch has is small where the whole is
stretch_small : (l : List ℕ) (at n : ℕ) → Octets l → Small n (stretch at n l)
unfolding stretch
stretch_small l at n small i lt = rw (get_or-take n (drop at l) i 0 lt, get_or-drop at l i 0) (small (at + i))

-- a stretch, and what is behind it
next : (l : List ℕ) {r : List ℕ} (at n : ℕ) → r ≡ drop (at + n) l → stretch at n l ++ r ≡ drop at l
next l at n e = ap (λ (x : List ℕ). stretch at n l ++ x) e ∙ stretch_off l at n

-- a list of a record's size is its parts
parts : (l : List ℕ) → length l ≡ record_size
    → stretch 0 18 l ++ (stretch 18 32 l ++ (stretch 50 32 l ++ (stretch 82 32 l ++ (stretch 114 32 l ++ stretch 146 512 l)))) ≡ l
parts l size = next l 0 18 (next l 18 32 (next l 50 32 (next l 82 32 (next l 114 32 (stretch_end l 146 512 size)))))

-- what the port and a drive say is written as the stretch that they were read from
module _ (l : List ℕ) (small : Octets l) (size : length l ≡ record_size) where
  port_at : is_port (stretch 0 18 l) ≡ true → port_bytes (port_of (stretch 0 18 l)) ≡ stretch 0 18 l
  port_at = port_form (stretch 0 18 l) (stretch_long l 0 18 (omega (arith, size))) (stretch_small l 0 18 small)

  drive_at_lem : (at : ℕ) → at + 32 ≤ record_size → is_drive (stretch at 32 l) ≡ true → drive_bytes (drive_of (stretch at 32 l)) ≡ stretch at 32 l
  drive_at_lem at fits = drive_form (stretch at 32 l) (stretch_long l at 32 (omega (arith, size, fits))) (stretch_small l at 32 small)

pub record_long : (l : List ℕ) → is_record l ≡ true → length l ≡ record_size
unfolding is_record
record_long l so = eqb-true (length l) record_size (both _ _ so).0

pub one_form : OneForm
unfolding is_record core_of staging_of unit_bytes
one_form l small so =
    let size = record_long l so in
    let drive0 = drive_at_lem l small size 18 (omega arith) in
    let drive1 = drive_at_lem l small size 50 (omega arith) in
    let drive2 = drive_at_lem l small size 82 (omega arith) in
    let drive3 = drive_at_lem l small size 114 (omega arith) in
    let s0 = both _ _ (both (eqb (length l) record_size) _ so).1 in
    let s1 = both _ _ s0.1 in
    let s2 = both _ _ s1.1 in
    let s3 = both _ _ s2.1 in
    let port = port_at l small size s0.0 in
    joined port (joined (drive0 s1.0) (joined (drive1 s2.0) (joined (drive2 s3.0) (joined (drive3 s3.1) refl)))) ∙ parts l size
