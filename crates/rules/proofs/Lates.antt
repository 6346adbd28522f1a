-- What becomes of late blocks over one event.
use Prim.Native.Nat.{ℕ, ◌+◌, ◌≤◌}
use mathlib.Core.Path.{◌≡◌, refl, sym, ap, subst, ◌∙◌}
use mathlib.Core.Bool.{Bool, true, false, true≢false, false≢true}
use mathlib.Core.List.{List}
use lib.Dec.{leb}
use lib.ListN.{length}
use Rattle.std.specs.Prelude.{Option, None, Some}
use Rattle.basis.specs.Choice.{pick}
use Rattle.std.specs.Prelude.{Result, Ok, Err}
use Rattle.tape.specs.declared.found.Kind.{Kind}
use Rattle.tape.specs.declared.found.Kind.TheVariants.{Block, Mark}
use Rattle.tape.specs.declared.found.Why.{Why}
use Rattle.tape.specs.declared.found.Why.TheVariants.{End, Unknown, Bad}
use Rattle.tape.specs.declared.pass.Stopped.{Stopped}
use Rattle.tape.specs.Record.{found_at}
use Rattle.tape.specs.Walk.{passed}
use Rattle.rules.specs.declared.drive.Drive.{Drive}
use Rattle.rules.specs.declared.drive.Mode.{Mode}
use Rattle.rules.specs.declared.drive.Mode.TheVariants.{Writing, Reading}
use Rattle.rules.specs.declared.unit.Core.{Core}
use Rattle.rules.specs.declared.event.Act.{Act}
use Rattle.rules.specs.declared.event.What.{What}
use Rattle.rules.specs.declared.event.What.TheVariants.{In, Out, Error, Underrun}
use Rattle.rules.specs.declared.event.Event.{Event}
use Rattle.rules.specs.declared.event.Event.TheVariants.{Reset, Named, Own}
use Rattle.rules.specs.declared.order.Order.TheVariants.{Erase}
use Rattle.rules.specs.declared.answer.Answer.TheVariants.{Taken, Raised}
use Rattle.rules.specs.Drive.{is_writing, in_mode, passed_to}
use Rattle.rules.specs.Late.{allowed_at}
use Rattle.rules.specs.Unit.{Lent, drive_at, tape_at}
use Rattle.rules.specs.Event.{event_of}
use Rattle.rules.specs.Order.{row_for}
use Rattle.rules.specs.Refusal.{slot_answer, refusal_in}
use Rattle.rules.specs.Edge.{halted, spoilt, edged, checked_by, checked, standing}
use Rattle.rules.specs.Slot.{befallen}
use Rattle.rules.specs.Effect.{Acted}
use Rattle.rules.specs.Step.{Stepped, act, staged_in, seat_of, effect_of}
use Rattle.rules.specs.Promises.Table.{answer_to}
use Rattle.rules.specs.Promises.Late.{LateMove, ended, begun, counted, kept, LateMoves}
use Rattle.rules.proofs.Places.{Got, same, other}
use Rattle.rules.proofs.Sound.{Fit, Sound, possible_fit}
use Rattle.rules.proofs.Rooms.{none_outside}
use Rattle.rules.proofs.Codes.{named_real}
use Rattle.rules.proofs.Acts
use Rattle.rules.proofs.Acts.{writing_is, only_idle}
use Rattle.rules.proofs.Refused.{taken_not_refused}
use Rattle.rules.proofs.StepBy.{sound_step, slot_empty, own_does}
use Rattle.rules.proofs.Keeps.{empty_idle}
use Rattle.rules.proofs.Changes.{quiet_answer}
use Rattle.rules.proofs.Status.{own_drive, named_drive, reset_holds}

-- a mode that is not Writing
pub quits : (m : Mode) → is_writing m ≡ false → m ≡ Writing → ⊥
quits m e w = true≢false (sym (ap is_writing w) ∙ e)

-- A drive that is not Writing, and allows none.
record Off (d : Drive) : Type 0 where
  mode : is_writing d.mode ≡ false
  late : d.late ≡ 0

halted_off : (w : Why) (d : Drive) → Off (halted w d)
halted_off End d = record { mode = refl; late = refl }
halted_off Unknown d = record { mode = refl; late = refl }
halted_off Bad d = record { mode = refl; late = refl }

standing_off : (r : Result ℕ Stopped) (d : Drive) → Off (standing r d)
standing_off (Ok at) d = record { mode = refl; late = refl }
standing_off (Err s) d = halted_off s.why (passed_to s.at d)

-- the edge check of such a drive, and one that raised EXCEPTION
checked_off : (t : List ℕ) (d : Drive) → Off d → Off (checked t d).drive
unfolding checked
checked_off t d o = go (found_at t d.head)
  where
    go : (f : Result Kind Why) → Off (edged f d)
    go (Ok Block) = o
    go (Ok Mark) = record { mode = refl; late = refl }
    go (Err w) = halted_off w d

raised_off : (t : List ℕ) (d : Drive) → (checked t d).raised ≡ true → Off (checked t d).drive
unfolding checked
raised_off t d = go (found_at t d.head)
  where
    go : (f : Result Kind Why) → (checked_by f d).raised ≡ true → Off (edged f d)
    go (Ok Block) r = absurd (false≢true r)
    go (Ok Mark) r = record { mode = refl; late = refl }
    go (Err w) r = halted_off w d

-- what WRITE allows, in numbers
allowed_is : (h n : ℕ) → allowed_at h n ≡ pick (leb (h + 1541) n) 0 2
unfolding pick allowed_at
allowed_is h n = refl

module _ (c : Core) (l : Lent) (event : List ℕ) where
  off : (i : ℕ) (d d' : Drive) → Off d' → LateMove c l event i d d'
  off i d d' o = ended (quits d'.mode o.mode) o.late

  -- mode and late blocks as they were, and the head where the drive is Writing
  still : (i : ℕ) (d d' : Drive) → Fit d → d'.mode ≡ d.mode → d'.late ≡ d.late → (d.mode ≡ Writing → d'.head ≡ d.head)
      → LateMove c l event i d d'
  still i d d' f m n h = go (is_writing d.mode) refl
    where
      go : (b : Bool) → is_writing d.mode ≡ b → LateMove c l event i d d'
      go true e = let w = writing_is d.mode e in kept w (h w) n
      go false e = off i d d' (record { mode = ap is_writing m ∙ e; late = n ∙ none_outside d.mode d.late e f.late })

  abbrev n : ℕ
  n = c.port.selected

  abbrev d : Drive
  d = drive_at c n

  abbrev t : List ℕ
  t = tape_at l n

  own_late : (g : List ℕ) → Fit d → (a : Act) (m : Acted) → event_of event ≡ Some (Own a) → answer_to c l event ≡ pick m.moved.raised Raised Taken
      → Acts.Does g (seat_of c l) a m → LateMove c l event n d m.moved.drive
  own_late g f a m q h (Acts.selects k j r e) = still n d _ f refl refl (λ _. refl)
  own_late g f a m q h (Acts.rewinds k i) = still n d _ f refl refl (λ w. absurd (quits d.mode (ap is_writing i) w))
  own_late g f a m q h (Acts.erases p) =
      still n d _ f refl refl (λ w. absurd (quits d.mode (ap is_writing (only_idle d.mode (row_for Erase) refl refl p.sequence)) w))
  own_late g f a m q h (Acts.sets_writing p) =
      begun refl (record { order = q; answer = h ∙ quiet_answer false refl }) (allowed_is d.head (length t))
  own_late g f a m q h (Acts.records_mark p) = off n d _ (record { mode = refl; late = refl })
  own_late g f a m q h (Acts.sets_reading k p) = off n d _ (checked_off t (in_mode Reading d) (record { mode = refl; late = refl }))
  own_late g f a m q h (Acts.searches k) = off n d _ (standing_off (passed t d.head) d)
  own_late g f a m q h Acts.reports = still n d _ f refl refl (λ _. refl)
  own_late g f a m q h (Acts.faults k b) = still n d _ f refl refl (λ _. refl)
  own_late g f a m q h (Acts.meets_plug k) = still n d _ f refl refl (λ _. refl)
  own_late g f a m q h (Acts.finds_no_room k) = off n d _ (record { mode = refl; late = refl })
  own_late g f a m q h (Acts.stages b k r w) = still n d _ f refl refl (λ _. refl)
  own_late g f a m q h (Acts.records_block b p w r more) =
      counted refl b (record { given = record { byte = q; place = p; taken = rw h (taken_not_refused false) }; room = r }) more refl refl
  own_late g f a m q h (Acts.records_last b p w r) = off n d _ (record { mode = refl; late = refl })
  own_late g f a m q h (Acts.drops_block b) = off n d _ (record { mode = refl; late = refl })
  own_late g f a m q h (Acts.hands_octet k e) = still n d _ f refl refl (λ _. refl)
  own_late g f a m q h (Acts.hands_byte k r w e) = still n d _ f refl refl (λ _. refl)
  own_late g f a m q h (Acts.hands_last p w e) =
      off n d _ (checked_off t (passed_to (d.head + 513) d)
      (record { mode = ap is_writing w; late = none_outside d.mode d.late (ap is_writing w) f.late }))
  own_late g f a m q h (Acts.meets_edge p r) = off n d _ (raised_off t d r)
  own_late g f a m q h (Acts.finds_no_block k p e) = off n d _ (halted_off (spoilt (found_at t d.head)) d)
  own_late g f a m q h Acts.goes_up = still n d _ f refl refl (λ _. refl)
  own_late g f a m q h Acts.goes_down = still n d _ f refl refl (λ _. refl)
  own_late g f a m q h Acts.goes_idle = off n d _ (record { mode = refl; late = refl })
  own_late g f a m q h Acts.goes_home = off n d _ (record { mode = refl; late = refl })
  own_late g f a m q h (Acts.leaves_mark u x w r) = off n d _ (record { mode = refl; late = refl })
  own_late g f a m q h Acts.has_no_room = off n d _ (record { mode = refl; late = refl })

  befallen_late : (j : ℕ) (x : What) (y : Drive) → slot_answer y.loaded x ≡ Taken → Fit y → LateMove c l event j y (befallen x y)
  befallen_late j (In p) y h f =
      still j y _ f refl refl
      (λ w. absurd (quits y.mode (ap is_writing (empty_idle y.mode y.loaded y.protected (slot_empty y.loaded h) f.mode)) w))
  befallen_late j Out y h f = off j y _ (record { mode = refl; late = refl })
  befallen_late j Error y h f = still j y _ f refl refl (λ _. refl)
  befallen_late j Underrun y h f = still j y _ f refl refl (λ _. refl)

  abbrev Moved : ℕ → Stepped → Type 0
  Moved i s = s.turn.answer ≡ answer_to c l event → LateMove c l event i (drive_at c i) (drive_at s.turn.core i)

  -- a drive that nothing reached
  untouched : (i : ℕ) → Fit (drive_at c i) → LateMove c l event i (drive_at c i) (drive_at c i)
  untouched i f = still i _ _ f refl refl (λ _. refl)

  effect_late : (e : Option Event) → event_of event ≡ e → (i : ℕ) → i ≤ 3 → Sound c l → refusal_in c e ≡ Taken → Moved i (effect_of c l e)
  effect_late None q i r k h z = untouched i (k.fit i)
  effect_late (Some Reset) q i r k h z = off i _ _ (reset_holds Off (λ y. record { mode = refl; late = refl }) c i)
  effect_late (Some (Named j x)) q i r k h z = go _ (named_drive c l j x i r (named_real event j x q))
    where
      go : (y : Drive) → Got i j (befallen x (drive_at c j)) (drive_at c i) y → LateMove c l event i (drive_at c i) y
      go y (same e) = subst (λ (u : ℕ). LateMove c l event u (drive_at c u) (befallen x (drive_at c j))) e (befallen_late j x (drive_at c j) h (k.fit j))
      go y (other o) = untouched i (k.fit i)
  effect_late (Some (Own a)) q i r k h z = go _ (own_drive c l a i r k)
    where
      m : Acted
      m = act (staged_in c a l).staging (seat_of c l) a

      go : (y : Drive) → Got i n m.moved.drive (drive_at c i) y → LateMove c l event i (drive_at c i) y
      go y (same e) =
          subst (λ (u : ℕ). LateMove c l event u (drive_at c u) m.moved.drive) e
          (own_late (staged_in c a l).staging (k.fit n) a m q (sym z) (own_does c l a k h))
      go y (other o) = untouched i (k.fit i)

pub late_moves : LateMoves
late_moves c l event i r w p =
    sound_step (Moved c l event i) c l event w (λ a _. untouched c l event i (possible_fit c p i)) (λ k h. effect_late c l event (event_of event) refl i r k h)
    refl
