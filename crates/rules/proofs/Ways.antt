-- The orders of a strike, each from the seat of a drive that may take it, and the line that falls and rises.
use Prim.Native.Nat.{ℕ, ◌+◌, ◌≤◌}
use mathlib.Core.Path.{◌≡◌, refl, ap, subst, ◌∙◌}
use mathlib.Core.Bool.{Bool, true, false}
use mathlib.Core.List.{List, [], ◌∷◌}
use native.Mathlib.Omega.{arith}
use lib.ListN.{length}
use borrow.Author.Tests.{le-leb}
use Rattle.std.specs.Prelude.{Ok, Some, Option}
use Rattle.basis.specs.Choice.{pick}
use Rattle.std.specs.Prelude.{Ok}
use Rattle.tape.specs.declared.found.Kind.TheVariants.{Block, Mark}
use Rattle.tape.specs.Record.{found_at, mark_record}
use Rattle.tape.specs.Recording.{recorded}
use Rattle.tape.specs.Walk.{passed}
use Rattle.rules.specs.declared.drive.Drive.{Drive}
use Rattle.rules.specs.declared.drive.Mode.{Mode}
use Rattle.rules.specs.declared.drive.Mode.TheVariants.{Idle, Writing, Reading}
use Rattle.rules.specs.declared.drive.Bit.TheVariants.{Fil}
use Rattle.rules.specs.declared.unit.Port.{Port}
use Rattle.rules.specs.declared.phase.Phase.TheVariants.{Rest, Status}
use Rattle.rules.specs.declared.event.Act.TheVariants.{Command, Take, Online, Offline}
use Rattle.rules.specs.declared.event.Event.TheVariants.{Own}
use Rattle.rules.specs.declared.order.Order.{Order}
use Rattle.rules.specs.declared.order.Order.TheVariants.{Bot, Write, WriteMark, Read, ReadMark, ReadStatus}
use Rattle.rules.specs.Drive.{in_mode, rewound, stopping, made, passed_to, cleared}
use Rattle.rules.specs.Unit.{at_phase, at_level, showing}
use Rattle.rules.specs.Event.{bare_event, event_of}
use Rattle.rules.specs.Order.{order_of, illegal, fault_by}
use Rattle.rules.specs.Edge.{checked}
use Rattle.rules.specs.Octets.{octets_of}
use Rattle.rules.specs.Effect.{Seat, seat, Acted, leaves, ordered, fault_of}
use Rattle.rules.specs.Bytes.{octet_taken, after_octet}
use Rattle.rules.specs.Online.{dropped, leaving, left_alone, levelled}
use Rattle.rules.specs.Step.{act}
use Rattle.rules.specs.Run.{World, after}
use Rattle.rules.proofs.Codes.{orders, command_event}
use Rattle.rules.proofs.Tests.{status_passes}
use Rattle.rules.proofs.Seated.{Sits, Moves, sits_step}
use Rattle.rules.proofs.Rooms.{none_late}
use Rattle.rules.proofs.Handing.{take_event}

-- A drive that takes tape orders: loaded, without EXCEPTION, ONLINE up.
pub record Fit (p : Port) (d : Drive) (m : Mode) : Type 0 where
  pub online : p.online ≡ true
  pub loaded : d.loaded ≡ true
  pub calm : d.exception ≡ false
  pub mode : d.mode ≡ m

line_events : (event_of (4 ∷ []) ≡ Some (Own Online)) × (event_of (5 ∷ []) ≡ Some (Own Offline))
unfolding event_of bare_event pick
line_events = (refl, refl)

module _ (p : Port) (d : Drive) (t : List ℕ) where
  abbrev here : Seat
  here = seat (at_phase Rest p) d t

  -- an order that passes the tests, and leaves the drive selected
  order_moves : (w : World) (g : List ℕ) (k : ℕ) (o : Option Order) → Sits w g here → order_of k ≡ o → fault_of here o ≡ Ok tt
      → (ordered here o).moved.port.selected ≡ p.selected → Moves w (1 ∷ k ∷ []) g (ordered here o)
  order_moves w g k o sits q fine same =
      let e : act g here (Command k) ≡ ordered here o = rw (q, fine) in
      subst (Moves w (1 ∷ k ∷ []) g) e
      (sits_step w g here (1 ∷ k ∷ []) (Command k) sits (command_event k) refl (ap (λ (m : Acted). m.moved.port.selected) e ∙ same))

  bot_fine : Fit p d Idle → fault_of here (Some Bot) ≡ Ok tt
  unfolding fault_of fault_by illegal pick
  bot_fine f = rw (f.calm, f.mode, f.loaded)

  write_fine : Fit p d Idle → d.protected ≡ false → d.head + 1541 ≤ length t → fault_of here (Some Write) ≡ Ok tt
  unfolding fault_of fault_by illegal pick
  write_fine f o r = rw (f.calm, f.mode, f.online, f.loaded, o, le-leb (d.head + 514) (length t) (omega (arith, r)))

  mark_fine : Fit p d Writing → d.protected ≡ false → d.head + 1 ≤ length t → fault_of here (Some WriteMark) ≡ Ok tt
  unfolding fault_of fault_by illegal pick
  mark_fine f o r = rw (f.calm, f.mode, f.online, f.loaded, o, le-leb (d.head + 1) (length t) r)

  read_fine : Fit p d Idle → fault_of here (Some Read) ≡ Ok tt
  unfolding fault_of fault_by illegal pick
  read_fine f = rw (f.calm, f.mode, f.online, f.loaded)

  pass_fine : Fit p d Idle → fault_of here (Some ReadMark) ≡ Ok tt
  unfolding fault_of fault_by illegal pick
  pass_fine f = rw (f.calm, f.mode, f.online, f.loaded)

  pub bot_moves : (w : World) (g : List ℕ) → Sits w g here → Fit p d Idle
      → Moves w (1 ∷ 33 ∷ []) g (leaves false (at_phase Rest p) (rewound d) t)
  bot_moves w g k f = order_moves w g 33 (Some Bot) k orders.bot (bot_fine f) refl

  pub write_moves : (w : World) (g : List ℕ) → Sits w g here → Fit p d Idle → d.protected ≡ false → d.head + 1541 ≤ length t
      → Moves w (1 ∷ 64 ∷ []) g (leaves false (at_phase Rest p) (in_mode Writing d) t)
  write_moves w g k f o r = rw (none_late d.head (length t) r) at (order_moves w g 64 (Some Write) k orders.write (write_fine f o r) refl)

  pub mark_moves : (w : World) (g : List ℕ) → Sits w g here → Fit p d Writing → d.protected ≡ false → d.head + 1 ≤ length t
      → Moves w (1 ∷ 96 ∷ []) g (leaves false (at_phase Rest p) (in_mode Idle (made (d.head + 1) d)) (recorded t d.head mark_record))
  mark_moves w g k f o r = order_moves w g 96 (Some WriteMark) k orders.mark (mark_fine f o r) refl

  read_moves : (w : World) (g : List ℕ) → Sits w g here → Fit p d Idle
      → Moves w (1 ∷ 128 ∷ []) g (leaves (checked t (in_mode Reading d)).raised (at_phase Rest p) (checked t (in_mode Reading d)).drive t)
  read_moves w g k f = order_moves w g 128 (Some Read) k orders.read (read_fine f) refl

  pub read_at_block : (w : World) (g : List ℕ) → Sits w g here → Fit p d Idle → found_at t d.head ≡ Ok Block
      → Moves w (1 ∷ 128 ∷ []) g (leaves false (at_phase Rest p) (in_mode Reading d) t)
  unfolding checked
  read_at_block w g k f b = rw b at (read_moves w g k f)

  pub read_at_mark : (w : World) (g : List ℕ) → Sits w g here → Fit p d Idle → found_at t d.head ≡ Ok Mark
      → Moves w (1 ∷ 128 ∷ []) g (leaves true (at_phase Rest p) (stopping Fil (passed_to (d.head + 1) d)) t)
  unfolding checked
  read_at_mark w g k f b = rw b at (read_moves w g k f)

  pub pass_moves : (w : World) (g : List ℕ) (at : ℕ) → Sits w g here → Fit p d Idle → passed t d.head ≡ Ok at
      → Moves w (1 ∷ 160 ∷ []) g (leaves true (at_phase Rest p) (stopping Fil (passed_to at d)) t)
  pass_moves w g at k f e = rw e at (order_moves w g 160 (Some ReadMark) k orders.pass (pass_fine f) refl)

  pub status_moves : (w : World) (g : List ℕ) → Sits w g here
      → Moves w (1 ∷ 192 ∷ []) g (leaves false (showing (octets_of d) (at_phase Rest p)) (cleared d) t)
  status_moves w g k = order_moves w g 192 (Some ReadStatus) k orders.status (status_passes here) refl

  falls : (online exception loaded : Bool) (m : Mode) → online ≡ true → exception ≡ false → loaded ≡ true → m ≡ Idle
      → pick online (pick exception (leaves false (at_level false p) (in_mode Idle d) t) (pick loaded (leaving here m) (levelled false here))) (levelled false here)
      ≡ left_alone here t
  unfolding pick
  falls online exception loaded m up calm there idle = rw (up, calm, there, idle)

  -- the line falls with the drive Idle, and rises
  pub fall_moves : (w : World) (g : List ℕ) → Sits w g here → Fit p d Idle
      → Moves w (5 ∷ []) g (leaves false (at_level false p) (rewound (in_mode Idle d)) t)
  unfolding dropped pick
  fall_moves w g k f =
      let e : act g here Offline ≡ leaves false (at_level false p) (rewound (in_mode Idle d)) t =
      falls p.online d.exception d.loaded d.mode f.online f.calm f.loaded f.mode in
      subst (Moves w (5 ∷ []) g) e
      (sits_step w g here (5 ∷ []) Offline k line_events.1 refl (ap (λ (m : Acted). m.moved.port.selected) e))

  pub rise_moves : (w : World) (g : List ℕ) → Sits w g here → Moves w (4 ∷ []) g (leaves false (at_level true p) d t)
  rise_moves w g k = sits_step w g here (4 ∷ []) Online k line_events.0 refl refl

  -- an octet handed out
  pub octet_next : (w : World) (g : List ℕ) (k : ℕ) → Sits w g (seat (at_phase (Status k) p) d t)
      → Sits (after w (3 ∷ [])) g (seat (at_phase (after_octet k) p) d t)
  unfolding octet_taken
  octet_next w g k s = (sits_step w g (seat (at_phase (Status k) p) d t) (3 ∷ []) Take s take_event refl refl).next
