-- What the code's arrays and parts come to.
use Prim.Native.Nat.{ℕ, zero, suc, ◌*◌, min, ◌+◌, ◌-◌, ◌≤◌}
use mathlib.Core.Path.{◌≡◌, refl, sym, ap, ◌∙◌}
use mathlib.Core.Bool.{Bool, true, false, ◌&&◌, and_assoc}
use mathlib.Core.List.{List, [], ◌∷◌, ◌++◌, append_assoc}
use native.Mathlib.Omega.{arith}
use lib.ListN.{length, get_or, take, drop, length-append}
use lib.Dec.{eqb}
use lib.Seq.{take_all, take_at, drop_at, drop-drop}
use Rattle.rules.specs.declared.drive.Drive.{Drive}
use Rattle.rules.specs.declared.unit.Port.{Port}
use Rattle.rules.specs.declared.unit.Core.{Core}
use Rattle.rules.specs.Phase.{report_size}
use Rattle.rules.specs.Unit.{one_of, drive_at}
use Rattle.rules.proofs.Places.{one_holds, last_one}
use Rattle.basis.specs.Choice.{pick}
use Rattle.basis.proofs.Placing.{each, each_is}
use Rattle.layout.specs.Number.{two, four, eight, byte_at}
use Rattle.basis.specs.Placed.{placed}
use Rattle.layout.specs.Written.{flag, unused, mode_byte, latched_bytes, drive_bytes, port_bytes, unit, unit_bytes}
use Rattle.layout.specs.Written.{port_size, drive_size, record_size}
use Rattle.std.specs.Prelude.{fold}
use Rattle.layout.specs.Read.{stretch, is_flag, is_latched, drive_of, core_of, staging_of}
use Rattle.layout.proofs.Stretch.{stretch_end}

-- a part copied over an array of its size is that part
pub part_copied : (l : List ℕ) (at end n : ℕ) (r : List ℕ) → end ≡ at + n → r ≡ take (end - at) (drop at l) → r ≡ stretch at n l
unfolding stretch
part_copied l at end n r e is = let k : end - at ≡ n = omega (arith, e) in rw (k) at is

-- a drive by its number: it ends inside the record, and its stretch is read as it
pub drive_inside : (i : ℕ) → one_of i 18 50 82 114 ≤ 114
drive_inside = one_holds (λ n. n ≤ 114) (omega arith) (omega arith) (omega arith) (omega arith)

-- the drives lie a drive's bytes apart, and a number above 3 means the last
pub drives_apart : (i : ℕ) → 18 + 32 * min i 3 ≡ one_of i 18 50 82 114
unfolding one_of pick
drives_apart zero = refl
drives_apart (suc zero) = refl
drives_apart (suc (suc zero)) = refl
drives_apart (suc (suc (suc n))) =
    let i = suc (suc (suc n)) in omega (arith, last_one {A = ℕ} i 18 50 82 114 (λ e. omega (arith, e)) (λ e. omega (arith, e)) (λ e. omega (arith, e)))

pub drive_found : (l : List ℕ) (i : ℕ) → drive_of (stretch (one_of i 18 50 82 114) drive_size l) ≡ drive_at (core_of l) i
unfolding one_of pick core_of
drive_found l i = go (eqb i 0) (eqb i 1) (eqb i 2)
  where
    at : ℕ → Drive
    at n = drive_of (stretch n drive_size l)

    go : (p q r : Bool) → at (pick p 18 (pick q 50 (pick r 82 114))) ≡ pick p (at 18) (pick q (at 50) (pick r (at 82) (at 114)))
    go true q r = refl
    go false true r = refl
    go false false true = refl
    go false false false = refl

-- six octets are their list
pub six : (o : List ℕ) → length o ≡ 6 → get_or o 0 0 ∷ get_or o 1 0 ∷ get_or o 2 0 ∷ get_or o 3 0 ∷ get_or o 4 0 ∷ get_or o 5 0 ∷ [] ≡ o
six o size = each_is 6 0 o (omega (arith, size)) ∙ take_all 6 o (omega (arith, size))

-- the octets are the stretch behind the phase
pub octets_read : (l : List ℕ) → length l ≡ port_size
    → stretch 12 6 l ≡ byte_at l 12 ∷ byte_at l 13 ∷ byte_at l 14 ∷ byte_at l 15 ∷ byte_at l 16 ∷ byte_at l 17 ∷ []
unfolding stretch
octets_read l size = sym (each_is 6 12 l (omega (arith, size)))

-- the latched bits are bools where all of their eight bytes are, one after the other
pub latched_folded : (l : List ℕ) → 30 ≤ length l → fold (λ so b. so && is_flag b) true (take 8 (drop 22 l)) ≡ is_latched l
latched_folded l size = ap (fold (λ so b. so && is_flag b) true) (sym (each_is 8 22 l size)) ∙ simp and_assoc

-- the bytes of a drive, made one by one from what each call gave
pub drive_listed : (d : Drive) (h e u l : List ℕ) (a b m x : ℕ)
    → h ≡ eight d.head → e ≡ two d.errors.0 → u ≡ two d.underruns.0 → l ≡ latched_bytes d.latched
    → a ≡ flag d.loaded → b ≡ flag d.protected → m ≡ mode_byte d.mode → x ≡ flag d.exception
    → each 8 0 h
    ++ (four unused ++ (each 2 0 e ++ (each 2 0 u ++ ((a ∷ b ∷ unused ∷ m ∷ d.late ∷ x ∷ []) ++ (each 8 0 l ++ two unused)))))
    ≡ drive_bytes d
unfolding drive_bytes
drive_listed d h e u l a b m x p0 p1 p2 p3 p4 p5 p6 p7 = rw (p0, p1, p2, p3, p4, p5, p6, p7) refl

-- A buffer whose first bytes are written; what is behind them is still what it was.
pub record Wrote (o r : List ℕ) (to : ℕ) (w : List ℕ) : Type 0 where
  pub long : length w ≡ to
  pub is : r ≡ w ++ drop to o

pub nothing_yet : (o : List ℕ) → Wrote o o 0 []
nothing_yet o = record { long = refl; is = refl }

pub put_on : {o r r' w : List ℕ} (b : List ℕ) (at n : ℕ) → Wrote o r at w → length b ≡ n → r' ≡ placed r at b → Wrote o r' (at + n) (w ++ b)
unfolding placed
put_on {o} {r} {r'} {w} b at n so size is =
    let front : take at r ≡ w = ap (take at) so.is ∙ take_at w (drop at o) at so.long in
    let rest : drop at r ≡ drop at o = ap (drop at) so.is ∙ drop_at w (drop at o) at so.long in
    let behind : drop (at + n) r ≡ drop (at + n) o = sym (drop-drop n at r) ∙ ap (drop n) rest ∙ drop-drop n at o in
    record { long = rw (length-append w b, so.long, size) refl; is = is ∙ rw (size, front, behind) refl }

pub port_long : (p : Port) → length p.octets ≡ report_size → length (port_bytes p) ≡ port_size
unfolding port_bytes
port_long p size = simp size

pub drive_long : (d : Drive) → length (drive_bytes d) ≡ drive_size
unfolding drive_bytes
drive_long d = refl

-- All of a record but its staging block, in the order in which it is written.
abbrev pub core_bytes : Core → List ℕ
core_bytes c = port_bytes c.port ++ drive_bytes c.drive0 ++ drive_bytes c.drive1 ++ drive_bytes c.drive2 ++ drive_bytes c.drive3

pub core_long : (c : Core) → length c.port.octets ≡ report_size → length (core_bytes c) ≡ 146
core_long c size =
    simp (
      length-append,
      port_long c.port size,
      drive_long c.drive0,
      drive_long c.drive1,
      drive_long c.drive2,
      drive_long c.drive3,
    )

pub core_then : (c : Core) (g : List ℕ) → core_bytes c ++ g ≡ unit_bytes (unit c g)
unfolding unit_bytes
core_then c g = simp append_assoc

-- what five puts one behind the other have written, and the staging block that was there, is a record
pub core_written : (o r : List ℕ) (c : Core) → length o ≡ record_size → Wrote o r 146 (core_bytes c) → r ≡ unit_bytes (unit c (staging_of o))
unfolding staging_of
core_written o r c size wrote =
    wrote.is ∙ ap (λ (g : List ℕ). core_bytes c ++ g) (sym (stretch_end o 146 512 size)) ∙ core_then c (staging_of o)
