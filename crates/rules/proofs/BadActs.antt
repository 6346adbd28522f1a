-- UDE and BNL of one act of the selected drive.
use Prim.Native.Nat.{ℕ, ◌+◌}
use mathlib.Core.Path.{◌≡◌, refl, sym, ap, ◌∙◌}
use mathlib.Core.Bool.{true, false, true≢false, false≢true}
use mathlib.Core.List.{List}
use Rattle.std.specs.Prelude.{Result, Ok, Err, Option, None, Some}
use Rattle.basis.specs.Choice.{pick}
use Rattle.tape.specs.declared.found.Kind.{Kind}
use Rattle.tape.specs.declared.found.Kind.TheVariants.{Block, Mark}
use Rattle.tape.specs.declared.found.Why.{Why}
use Rattle.tape.specs.declared.found.Why.TheVariants.{End, Unknown, Bad}
use Rattle.tape.specs.declared.pass.Stopped.{Stopped}
use Rattle.tape.specs.Record.{found_at}
use Rattle.tape.specs.Walk.{passed}
use Rattle.tape.specs.Laws.{UnknownKind}
use Rattle.tape.proofs.Standing.{found_unknown}
use Rattle.tape.proofs.Walking.{passed_stops}
use Rattle.rules.specs.declared.drive.Drive.{Drive}
use Rattle.rules.specs.declared.drive.Mode.TheVariants.{Reading}
use Rattle.rules.specs.declared.phase.Phase.TheVariants.{Giving}
use Rattle.rules.specs.declared.event.Act.{Act}
use Rattle.rules.specs.declared.event.Act.TheVariants.{Command, Give, Take, Online, Offline}
use Rattle.rules.specs.declared.order.Order.{Order}
use Rattle.rules.specs.declared.order.Order.TheVariants.{Select, Bot, Erase, Initialize, Write, WriteMark, Read, ReadMark, ReadStatus}
use Rattle.rules.specs.declared.order.Fault.{Fault}
use Rattle.rules.specs.declared.order.Fault.TheVariants.{Illegal, Empty, Plugged, Full}
use Rattle.rules.specs.Drive.{in_mode, passed_to}
use Rattle.rules.specs.Order.{order_of}
use Rattle.rules.specs.Edge.{is_block, halted, spoilt, standing}
use Rattle.rules.specs.Effect.{Seat, Acted, leaves, resting, ordered, fault_of, commanded}
use Rattle.rules.specs.Bytes.{handed}
use Rattle.rules.specs.Step.{act}
use Rattle.rules.specs.Promises.Orders.{decided}
use Rattle.rules.specs.Promises.BadKinds.{WholeBlock, BadRecord, GivesUde, read, read_mark, first_byte, inside, last_byte, StoodOr, stood, given}
use Rattle.rules.proofs.Codes.{orders, read_code, pass_code}
use Rattle.rules.proofs.Tests.{first_test_decides}
use Rattle.rules.proofs.Acts
use Rattle.rules.proofs.BadRecords.{whole_found, found_whole, stands_by, Told, halted_told, checked_told, Gives, halted_gives, checked_gives, spoilt_gives}

-- ---- a bit that it leaves stood before, or a rule gave it

pub record Tells (s : Seat) (a : Act) (m : Acted) : Type 0 where
  pub ude : m.moved.drive.latched.ude ≡ true → StoodOr s.drive.latched.ude (GivesUde s a)
  pub bnl : m.moved.drive.latched.bnl ≡ true → StoodOr s.drive.latched.bnl (GivesUde s a × UnknownKind m.tape m.moved.drive.head)
  pub pair : (s.drive.latched.bnl ≡ true → s.drive.latched.ude ≡ true) → m.moved.drive.latched.bnl ≡ true → m.moved.drive.latched.ude ≡ true

as_was : (s : Seat) (a : Act) (m : Acted) → m.moved.drive.latched.ude ≡ s.drive.latched.ude
    → m.moved.drive.latched.bnl ≡ s.drive.latched.bnl → Tells s a m
as_was s a m u b = record { ude = λ h. stood (sym u ∙ h); bnl = λ h. stood (sym b ∙ h); pair = λ f h. u ∙ f (sym b ∙ h) }

-- by the record at the head of d, which has the drive's bits
by_record : (s : Seat) (a : Act) (m : Acted) (d : Drive) → d.latched ≡ s.drive.latched → m.tape ≡ s.tape
    → Told s.tape d m.moved.drive → (BadRecord s.tape d.head → GivesUde s a) → Tells s a m
by_record s a m d l t k f =
    record {
      ude = λ h. rw l at (stands_by f (k.ude h));
      bnl = λ h. rw l at (stands_by {Y = GivesUde s a × UnknownKind m.tape m.moved.drive.head} (λ p. (f p.0, rw t p.1)) (k.bnl h));
      pair = λ g h. k.pair (rw l g) h;
    }

passes_tests : (s : Seat) (k : ℕ) (o : Option Order) → order_of k ≡ o → fault_of s o ≡ Ok tt → decided s k ≡ Ok tt
passes_tests s k o e h = sym (first_test_decides s k) ∙ ap (fault_of s) e ∙ h

search_tells : (s : Seat) → fault_of s (Some ReadMark) ≡ Ok tt → (r : Result ℕ Stopped) → passed s.tape s.drive.head ≡ r
    → Tells s (Command 160) (leaves true (resting s) (standing r s.drive) s.tape)
search_tells s h (Ok at) q = as_was s _ _ refl refl
search_tells s h (Err x) q =
    by_record s _ _ (passed_to x.at s.drive) refl refl
    (halted_told s.tape (passed_to x.at s.drive) x.why (passed_stops s.tape s.drive.head 1 x.at x.why q))
    (read_mark (passes_tests s 160 (Some ReadMark) orders.pass h) x.at x.why q)

ordered_tells : (s : Seat) (c : ℕ) (o : Option Order) → order_of c ≡ o → fault_of s o ≡ Ok tt → Tells s (Command c) (ordered s o)
ordered_tells s c None e h = as_was s _ _ refl refl
ordered_tells s c (Some (Select n)) e h = as_was s _ _ refl refl
ordered_tells s c (Some Bot) e h = as_was s _ _ refl refl
ordered_tells s c (Some Erase) e h = as_was s _ _ refl refl
ordered_tells s c (Some Initialize) e h = as_was s _ _ refl refl
ordered_tells s c (Some Write) e h = as_was s _ _ refl refl
ordered_tells s c (Some WriteMark) e h = as_was s _ _ refl refl
ordered_tells s c (Some Read) e h =
    let d = in_mode Reading s.drive in
    rw (read_code c e) (by_record s (Command 128) _ d refl refl (checked_told s.tape d) (read (passes_tests s 128 (Some Read) orders.read h)))
ordered_tells s c (Some ReadMark) e h = rw (pass_code c e) (search_tells s h _ refl)
ordered_tells s c (Some ReadStatus) e h =
    record { ude = λ z. absurd (false≢true z); bnl = λ z. absurd (false≢true z); pair = λ _ z. absurd (false≢true z) }

commanded_tells : (s : Seat) (c : ℕ) (f : Result (Unit {0}) Fault) → fault_of s (order_of c) ≡ f → Tells s (Command c) (commanded s (order_of c) f)
commanded_tells s c (Ok u) h = ordered_tells s c (order_of c) refl h
commanded_tells s c (Err Illegal) h = as_was s _ _ refl refl
commanded_tells s c (Err Empty) h = as_was s _ _ refl refl
commanded_tells s c (Err Plugged) h = as_was s _ _ refl refl
commanded_tells s c (Err Full) h = as_was s _ _ refl refl

inside_tells : (s : Seat) (n : ℕ) → s.port.phase ≡ Giving n → (f : Result Kind Why) → found_at s.tape s.drive.head ≡ f → is_block f ≡ false
    → Tells s Take (leaves true (resting s) (halted (spoilt f) s.drive) s.tape)
inside_tells s n p f q b = go f q b
  where
    no : (f : Result Kind Why) → found_at s.tape s.drive.head ≡ f → is_block f ≡ false → GivesUde s Take
    no f q b = inside n p (λ k. true≢false (sym (ap is_block (sym q ∙ whole_found s.tape s.drive.head k)) ∙ b))

    go : (f : Result Kind Why) → found_at s.tape s.drive.head ≡ f → is_block f ≡ false
        → Tells s Take (leaves true (resting s) (halted (spoilt f) s.drive) s.tape)
    go (Ok Block) q b = absurd (true≢false b)
    go (Ok Mark) q b = record { ude = λ _. given (no (Ok Mark) q b); bnl = λ h. stood h; pair = λ _ _. refl }
    go (Err End) q b = record { ude = λ _. given (no (Err End) q b); bnl = λ h. stood h; pair = λ _ _. refl }
    go (Err Unknown) q b =
        let g = no (Err Unknown) q b in
        record { ude = λ _. given g; bnl = λ _. given (g, found_unknown s.tape s.drive.head q); pair = λ _ _. refl }
    go (Err Bad) q b = record { ude = λ _. given (no (Err Bad) q b); bnl = λ h. stood h; pair = λ _ _. refl }

take_tells : (g : List ℕ) (s : Seat) (m : Acted) → Acts.Does g s Take m → Tells s Take m
take_tells g s m (Acts.hands_octet k e) = as_was s _ _ refl refl
take_tells g s m (Acts.hands_byte n l w e) = as_was s _ _ refl refl
take_tells g s m (Acts.hands_last q w e) =
    by_record s Take m (passed_to (s.drive.head + 513) s.drive) refl refl (checked_told s.tape _)
    (last_byte q (found_whole s.tape s.drive.head e))
take_tells g s m (Acts.meets_edge q r) = by_record s Take m s.drive refl refl (checked_told s.tape s.drive) (first_byte q)
take_tells g s m (Acts.finds_no_block n q b) = inside_tells s n q _ refl b

give_tells : (g : List ℕ) (s : Seat) (b : ℕ) (m : Acted) → Acts.Does g s (Give b) m → Tells s (Give b) m
give_tells g s b m (Acts.stages x n l w) = as_was s _ _ refl refl
give_tells g s b m (Acts.records_block x q w r n) = as_was s _ _ refl refl
give_tells g s b m (Acts.records_last x q w r) = as_was s _ _ refl refl
give_tells g s b m (Acts.drops_block x) = as_was s _ _ refl refl

online_tells : (g : List ℕ) (s : Seat) (m : Acted) → Acts.Does g s Online m → Tells s Online m
online_tells g s m Acts.goes_up = as_was s _ _ refl refl

offline_tells : (g : List ℕ) (s : Seat) (m : Acted) → Acts.Does g s Offline m → Tells s Offline m
offline_tells g s m Acts.goes_down = as_was s _ _ refl refl
offline_tells g s m Acts.goes_idle = as_was s _ _ refl refl
offline_tells g s m Acts.goes_home = as_was s _ _ refl refl
offline_tells g s m (Acts.leaves_mark u x w r) = as_was s _ _ refl refl
offline_tells g s m Acts.has_no_room = as_was s _ _ refl refl

pub does_tells : (g : List ℕ) (s : Seat) (a : Act) → Acts.Does g s a (act g s a) → Tells s a (act g s a)
does_tells g s (Command c) k = commanded_tells s c _ refl
does_tells g s (Give b) k = give_tells g s b _ k
does_tells g s Take k = take_tells g s _ k
does_tells g s Online k = online_tells g s _ k
does_tells g s Offline k = offline_tells g s _ k

-- ---- where a rule gives UDE it stands, and BNL with it by the kind at the head

no_block : (t : List ℕ) (h : ℕ) → (WholeBlock t h → ⊥) → (f : Result Kind Why) → found_at t h ≡ f → is_block f ≡ false
no_block t h n (Ok Block) q = absurd (n (found_whole t h q))
no_block t h n (Ok Mark) q = refl
no_block t h n (Err w) q = refl

order_gives : (s : Seat) (k : ℕ) (o : Option Order) → order_of k ≡ o → decided s k ≡ Ok tt → Gives (ordered s o).tape (ordered s o).moved.drive
    → Gives (commanded s (order_of k) (fault_of s (order_of k))).tape (commanded s (order_of k) (fault_of s (order_of k))).moved.drive
order_gives s k o e h g = rw (first_test_decides s k ∙ h, e) g

pub act_gives : (g : List ℕ) (s : Seat) (a : Act) → GivesUde s a → Gives (act g s a).tape (act g s a).moved.drive
unfolding pick handed
act_gives g s a (read h b) = order_gives s 128 (Some Read) orders.read h (checked_gives s.tape (in_mode Reading s.drive) b).1
act_gives g s a (read_mark h at w q b) =
    order_gives s 160 (Some ReadMark) orders.pass h
    (rw q (halted_gives s.tape (passed_to at s.drive) w (passed_stops s.tape s.drive.head 1 at w q) b))
act_gives g s a (first_byte p b) = let k = checked_gives s.tape s.drive b in rw (p, k.0) k.1
act_gives g s a (inside n p b) =
    rw (p, no_block s.tape s.drive.head b _ refl) (spoilt_gives s.tape s.drive _ refl)
act_gives g s a (last_byte p k b) =
    rw (p, ap is_block (whole_found s.tape s.drive.head k)) (checked_gives s.tape (passed_to (s.drive.head + 513) s.drive) b).1
