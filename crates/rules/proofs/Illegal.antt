-- An order is illegal exactly by the first four tests, and then changes no tape.
use Prim.Native.Nat.{ℕ, ◌≤◌}
use mathlib.Core.Path.{◌≡◌, refl, sym, ap, subst, ◌∙◌}
use mathlib.Core.Bool.{Bool, true, false, false≢true}
use mathlib.Core.List.{List}
use native.Mathlib.Omega.{arith}
use lib.ListN.{length}
use Rattle.std.specs.Prelude.{Result, Ok, Err, Some, Option, None}
use Rattle.basis.specs.Choice.{pick}
use Rattle.std.specs.Prelude.{Result, Ok, Err}
use Rattle.tape.specs.declared.found.Kind.{Kind}
use Rattle.tape.specs.declared.found.Kind.TheVariants.{Block, Mark}
use Rattle.tape.specs.declared.found.Why.{Why}
use Rattle.tape.specs.declared.found.Why.TheVariants.{End, Unknown, Bad}
use Rattle.tape.specs.declared.pass.Stopped.{Stopped}
use Rattle.tape.specs.Record.{found_at}
use Rattle.tape.specs.Walk.{passed}
use Rattle.rules.specs.declared.drive.Drive.{Drive}
use Rattle.rules.specs.declared.drive.Mode.TheVariants.{Reading}
use Rattle.rules.specs.declared.drive.Bit.TheVariants.{Ill}
use Rattle.rules.specs.declared.phase.Phase.TheVariants.{Rest}
use Rattle.rules.specs.declared.unit.Port.{Port}
use Rattle.rules.specs.declared.unit.Core.{Core}
use Rattle.rules.specs.declared.event.Act.TheVariants.{Command}
use Rattle.rules.specs.declared.event.Event.TheVariants.{Own}
use Rattle.rules.specs.declared.order.Order.{Order}
use Rattle.rules.specs.declared.order.Order.TheVariants.{Select, Bot, Erase, Initialize, Write, WriteMark, Read, ReadMark, ReadStatus}
use Rattle.rules.specs.declared.order.Fault.{Fault}
use Rattle.rules.specs.declared.order.Fault.TheVariants.{Illegal, Empty, Plugged, Full}
use Rattle.rules.specs.Drive.{latching, in_mode, passed_to}
use Rattle.rules.specs.Unit.{Lent, drive_at, put_drive, at_phase}
use Rattle.rules.specs.Order.{order_of}
use Rattle.rules.specs.Edge.{halted, edged, checked, standing}
use Rattle.rules.specs.Effect.{Seat, Acted, ordered, fault_of, commanded}
use Rattle.rules.specs.Step.{staged_in, seat_of, landed, effect_of}
use Rattle.rules.specs.Promises.Orders.{fits5, fits6, fits7, first_four, OnlyIll, IllegalRules, IllegalExactly}
use Rattle.rules.proofs.Places.{Got, same, other, got, put_same, tape_back}
use Rattle.rules.proofs.Sound.{Sound, sound}
use Rattle.rules.proofs.StepBy.{effect_by}
use Rattle.rules.proofs.Tests.{first_test_decides}

-- ---- no other order latches ILL

halted_ill : (w : Why) (d : Drive) → (halted w d).latched.ill ≡ d.latched.ill
halted_ill End d = refl
halted_ill Unknown d = refl
halted_ill Bad d = refl

edged_ill : (f : Result Kind Why) (d : Drive) → (edged f d).latched.ill ≡ d.latched.ill
edged_ill (Ok Block) d = refl
edged_ill (Ok Mark) d = refl
edged_ill (Err w) d = halted_ill w d

checked_ill : (t : List ℕ) (d : Drive) → (checked t d).drive.latched.ill ≡ d.latched.ill
unfolding checked
checked_ill t d = edged_ill (found_at t d.head) d

standing_ill : (r : Result ℕ Stopped) (d : Drive) → (standing r d).latched.ill ≡ d.latched.ill
standing_ill (Ok at) d = refl
standing_ill (Err s) d = halted_ill s.why (passed_to s.at d)

ordered_ill : (s : Seat) (o : Option Order) → (ordered s o).moved.drive.latched.ill ≡ true → s.drive.latched.ill ≡ true
ordered_ill s None h = h
ordered_ill s (Some (Select n)) h = h
ordered_ill s (Some Bot) h = h
ordered_ill s (Some Erase) h = h
ordered_ill s (Some Initialize) h = h
ordered_ill s (Some Write) h = h
ordered_ill s (Some WriteMark) h = h
ordered_ill s (Some Read) h = sym (checked_ill s.tape (in_mode Reading s.drive)) ∙ h
ordered_ill s (Some ReadMark) h = sym (standing_ill (passed s.tape s.drive.head) s.drive) ∙ h
ordered_ill s (Some ReadStatus) h = absurd (false≢true h)

commanded_ill : (s : Seat) (o : Option Order) (f : Result (Unit {0}) Fault) → (f ≡ Err Illegal → ⊥) → (commanded s o f).moved.drive.latched.ill ≡ true
    → s.drive.latched.ill ≡ true
commanded_ill s o (Ok u) n h = ordered_ill s o h
commanded_ill s o (Err Illegal) n h = absurd (n refl)
commanded_ill s o (Err Empty) n h = h
commanded_ill s o (Err Plugged) n h = h
commanded_ill s o (Err Full) n h = h

-- ---- of one event

four_decide : (s : Seat) (k : ℕ) → first_four s.port.online s.drive k ≡ true → fault_of s (order_of k) ≡ Err Illegal
unfolding pick
four_decide s k h = first_test_decides s k ∙ rw h

four_let : (s : Seat) (k : ℕ) → first_four s.port.online s.drive k ≡ false → fault_of s (order_of k) ≡ Err Illegal → ⊥
unfolding pick
four_let s k h e =
    go (fits5 s.drive k) (fits6 s.drive k) (fits7 s.drive (length s.tape) k) (rw h at (sym (first_test_decides s k) ∙ e))
  where
    go : (a b c : Bool) → pick {A = Result (Unit {0}) Fault} a (Err Empty) (pick b (Err Plugged) (pick c (Err Full) (Ok tt))) ≡ Err Illegal → ⊥
    go true b c q = let z : ◌≡◌ {A = ℕ} 0 1 = cc in omega arith
    go false true c q = let z : ◌≡◌ {A = ℕ} 0 1 = cc in omega arith
    go false false true q = let z : ◌≡◌ {A = ℕ} 0 1 = cc in omega arith
    go false false false q = let z : ◌≡◌ {A = ℕ} 0 1 = cc in omega arith

-- the drive with number i after the selected one became d
other_same : {A : Type 0} (f : Drive → A) (c : Core) (p : Port) (d : Drive) (i : ℕ) → i ≤ 3 → c.port.selected ≤ 3
    → f d ≡ f (drive_at c c.port.selected) → f (drive_at (put_drive c p c.port.selected d) i) ≡ f (drive_at c i)
other_same f c p d i r n e = go _ (got i c.port.selected d c.drive0 c.drive1 c.drive2 c.drive3 r n)
  where
    go : (x : Drive) → Got i c.port.selected d (drive_at c i) x → f x ≡ f (drive_at c i)
    go x (same q) = e ∙ ap (λ (j : ℕ). f (drive_at c j)) q
    go x (other q) = refl

illegal_leaves : (c : Core) (l : Lent) (k : ℕ) → Sound c l → first_four c.port.online (drive_at c c.port.selected) k ≡ true
    → OnlyIll c l (effect_of c l (Some (Own (Command k))))
unfolding pick
illegal_leaves c l k s h =
    let d = latching Ill (drive_at c c.port.selected) in
    let e = four_decide (seat_of c l) k h in
    subst (λ (m : Acted). OnlyIll c l (landed c (staged_in c (Command k) l) m)) (sym (ap (commanded (seat_of c l) (order_of k)) e))
    (record {
      answer = refl;
      lent = tape_back l c.port.selected;
      heads = λ i r. other_same (λ (x : Drive). x.head) c (at_phase Rest c.port) d i r s.sel refl;
      modes = λ i r. other_same (λ (x : Drive). x.mode) c (at_phase Rest c.port) d i r s.sel refl;
      exception = rw put_same;
      ill = rw put_same;
    })

legal_latches_none : (c : Core) (l : Lent) (k : ℕ) → first_four c.port.online (drive_at c c.port.selected) k ≡ false
    → (drive_at (effect_of c l (Some (Own (Command k)))).turn.core c.port.selected).latched.ill ≡ true
    → (drive_at c c.port.selected).latched.ill ≡ true
legal_latches_none c l k n h =
    commanded_ill (seat_of c l) (order_of k) (fault_of (seat_of c l) (order_of k)) (four_let (seat_of c l) k n) (rw put_same at h)

effect_illegal : (c : Core) (l : Lent) (k : ℕ) → Sound c l → IllegalRules c l k (effect_of c l (Some (Own (Command k))))
effect_illegal c l k s = record { illegal = illegal_leaves c l k s; legal = legal_latches_none c l k }

pub illegal_exactly : IllegalExactly
illegal_exactly c l event k w q n =
    effect_by (IllegalRules c l k) c l event (Some (Own (Command k))) q n (λ p s _. effect_illegal c l k (sound c l p s w))
