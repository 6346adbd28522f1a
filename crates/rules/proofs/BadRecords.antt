-- A bad record at a drive's head, by its numbers, and the bits that it leaves the drive with.
use Prim.Native.Nat.{ℕ}
use mathlib.Core.Path.{◌≡◌, refl}
use mathlib.Core.Bool.{Bool, true}
use mathlib.Core.List.{List}
use native.Mathlib.Omega.{arith}
use Rattle.std.specs.Prelude.{Result, Ok, Err}
use Rattle.tape.specs.declared.found.Kind.{Kind}
use Rattle.tape.specs.declared.found.Kind.TheVariants.{Block, Mark}
use Rattle.tape.specs.declared.found.Why.{Why}
use Rattle.tape.specs.declared.found.Why.TheVariants.{End, Unknown, Bad}
use Rattle.tape.specs.Record.{found_at}
use Rattle.tape.specs.Laws.{Stands, whole_block, cut_block, off_tape, UnknownKind}
use Rattle.tape.proofs.Standing.{case_found, found_case, unknown_found, found_unknown}
use Rattle.rules.specs.declared.drive.Drive.{Drive}
use Rattle.rules.specs.Edge.{halted, spoilt, edged, checked}
use Rattle.rules.specs.Promises.BadKinds.{WholeBlock, BadRecord, unknown, runs_past, above, StoodOr, stood, given}

pub whole_found : (t : List ℕ) (h : ℕ) → WholeBlock t h → found_at t h ≡ Ok Block
whole_found t h b = case_found t h (Ok Block) (whole_block b.ends b.kind)

pub found_whole : (t : List ℕ) (h : ℕ) → found_at t h ≡ Ok Block → WholeBlock t h
found_whole t h e = go (found_case t h (Ok Block) e)
  where
    go : Stands t h (Ok Block) → WholeBlock t h
    go (whole_block b k) = record { kind = k; ends = b }

found_bad : (t : List ℕ) (h : ℕ) → found_at t h ≡ Err Bad → BadRecord t h
found_bad t h e = go (found_case t h (Err Bad) e)
  where
    go : Stands t h (Err Bad) → BadRecord t h
    go (cut_block b s k) = runs_past b k s
    go (off_tape b) = above b

-- A bad record by what is found there.
data Broken (t : List ℕ) (h : ℕ) : Type 0 where
  by_kind : found_at t h ≡ Err Unknown → Broken t h
  otherwise : found_at t h ≡ Err Bad → Broken t h

bad_found : (t : List ℕ) (h : ℕ) → BadRecord t h → Broken t h
bad_found t h (unknown u) = by_kind (unknown_found t h u)
bad_found t h (runs_past b k s) = otherwise (case_found t h (Err Bad) (cut_block b s k))
bad_found t h (above b) = otherwise (case_found t h (Err Bad) (off_tape b))

-- ---- a bit that stands: what a drive is left with tells of the record at its head

pub stands_by : {b : Bool} {X Y : Type 0} → (X → Y) → StoodOr b X → StoodOr b Y
stands_by f (stood e) = stood e
stands_by f (given x) = given (f x)

-- The record at the head of d, and what d became by it.
pub record Told (t : List ℕ) (d e : Drive) : Type 0 where
  pub ude : e.latched.ude ≡ true → StoodOr d.latched.ude (BadRecord t d.head)
  pub bnl : e.latched.bnl ≡ true → StoodOr d.latched.bnl (BadRecord t d.head × UnknownKind t e.head)
  pub pair : (d.latched.bnl ≡ true → d.latched.ude ≡ true) → e.latched.bnl ≡ true → e.latched.ude ≡ true

pub halted_told : (t : List ℕ) (d : Drive) (w : Why) → found_at t d.head ≡ Err w → Told t d (halted w d)
halted_told t d End q = record { ude = λ h. stood h; bnl = λ h. stood h; pair = λ f h. f h }
halted_told t d Unknown q =
    let u = found_unknown t d.head q in
    record { ude = λ _. given (unknown u); bnl = λ _. given (unknown u, u); pair = λ _ _. refl }
halted_told t d Bad q = record { ude = λ _. given (found_bad t d.head q); bnl = λ h. stood h; pair = λ _ _. refl }

edged_told : (t : List ℕ) (d : Drive) (f : Result Kind Why) → found_at t d.head ≡ f → Told t d (edged f d)
edged_told t d (Ok Block) q = record { ude = λ h. stood h; bnl = λ h. stood h; pair = λ f h. f h }
edged_told t d (Ok Mark) q = record { ude = λ h. stood h; bnl = λ h. stood h; pair = λ f h. f h }
edged_told t d (Err w) q = halted_told t d w q

pub checked_told : (t : List ℕ) (d : Drive) → Told t d (checked t d).drive
unfolding checked
checked_told t d = edged_told t d (found_at t d.head) refl

-- ---- at a bad record UDE stands, and BNL with it by the kind at the head

pub record Gives (t : List ℕ) (e : Drive) : Type 0 where
  pub ude : e.latched.ude ≡ true
  pub bnl : UnknownKind t e.head → e.latched.bnl ≡ true

pub halted_gives : (t : List ℕ) (d : Drive) (w : Why) → found_at t d.head ≡ Err w → BadRecord t d.head → Gives t (halted w d)
halted_gives t d End q b = absurd (go (bad_found t d.head b))
  where
    go : Broken t d.head → ⊥
    go (by_kind k) = let z : ◌≡◌ {A = ℕ} 0 1 = cc in omega arith
    go (otherwise k) = let z : ◌≡◌ {A = ℕ} 0 1 = cc in omega arith
halted_gives t d Unknown q b = record { ude = refl; bnl = λ _. refl }
halted_gives t d Bad q b = record { ude = refl; bnl = λ u. let k = unknown_found t d.head u in cc }

broken_gives : (t : List ℕ) (d : Drive) → BadRecord t d.head → Broken t d.head → ((checked t d).raised ≡ true) × Gives t (checked t d).drive
unfolding checked
broken_gives t d b (by_kind q) = rw q (refl, halted_gives t d Unknown q b)
broken_gives t d b (otherwise q) = rw q (refl, halted_gives t d Bad q b)

pub checked_gives : (t : List ℕ) (d : Drive) → BadRecord t d.head → ((checked t d).raised ≡ true) × Gives t (checked t d).drive
checked_gives t d b = broken_gives t d b (bad_found t d.head b)

pub spoilt_gives : (t : List ℕ) (d : Drive) (f : Result Kind Why) → found_at t d.head ≡ f → Gives t (halted (spoilt f) d)
spoilt_gives t d (Ok Block) q = record { ude = refl; bnl = λ u. let k = unknown_found t d.head u in cc }
spoilt_gives t d (Ok Mark) q = record { ude = refl; bnl = λ u. let k = unknown_found t d.head u in cc }
spoilt_gives t d (Err End) q = record { ude = refl; bnl = λ u. let k = unknown_found t d.head u in cc }
spoilt_gives t d (Err Unknown) q = record { ude = refl; bnl = λ _. refl }
spoilt_gives t d (Err Bad) q = record { ude = refl; bnl = λ u. let k = unknown_found t d.head u in cc }
