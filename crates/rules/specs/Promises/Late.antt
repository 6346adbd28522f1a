-- Past early warning: how the late blocks that a drive allows may move, what stands behind a block, where EOM comes, and how many a WRITE takes.
use Rattle.std.specs.Prelude.{ℕ, ◌+◌, ◌-◌, ◌≤◌, ◌<◌, ◌≡◌, Bool, true, false, not, ◌&&◌, List, [], ◌∷◌, leb, eqb, length, Err, Option, None, Some}
use Rattle.basis.specs.Choice.{pick}
use Rattle.tape.specs.declared.found.Why.TheVariants.{End}
use Rattle.tape.specs.Record.{found_at}
use Rattle.rules.specs.declared.drive.Drive.{Drive}
use Rattle.rules.specs.declared.drive.Mode.TheVariants.{Idle, Writing}
use Rattle.rules.specs.declared.unit.Core.{Core}
use Rattle.rules.specs.declared.event.Act.{Act}
use Rattle.rules.specs.declared.event.Act.TheVariants.{Command, Give, Take, Online, Offline}
use Rattle.rules.specs.declared.event.Event.{Event}
use Rattle.rules.specs.declared.event.Event.TheVariants.{Reset, Named, Own}
use Rattle.rules.specs.declared.answer.Answer.{Answer}
use Rattle.rules.specs.declared.answer.Answer.TheVariants.{Taken, Raised}
use Rattle.rules.specs.Unit.{Lent, Whole, drive_at, tape_at}
use Rattle.rules.specs.Event.{event_of}
use Rattle.rules.specs.Refusal.{possible}
use Rattle.rules.specs.Reach.{accepted}
use Rattle.rules.specs.Run.{World, after, turn_of}
use Rattle.rules.specs.Promises.Table.{answer_to}
use Rattle.rules.specs.Promises.Status.{drive_after}
use Rattle.rules.specs.Promises.Plug.{tape_after}
use Rattle.rules.specs.Promises.Changes.{Accepted, block_asks, LastGiven, LastByte}
use Rattle.rules.specs.Promises.Orders.{fits7}
use Rattle.rules.specs.Promises.Strike.{drive_of, tape_of, Works}

-- ---- Of one event

-- What becomes of the late blocks of drive i, which was d and is d'.
pub data LateMove (c : Core) (l : Lent) (event : List ℕ) (i : ℕ) (d d' : Drive) : Type 0 where
  -- A drive that is not Writing allows none.
  ended : (d'.mode ≡ Writing → ⊥) → d'.late ≡ 0 → LateMove c l event i d d'
  -- It accepts WRITE: none where head + 1541 <= L, else two.
  begun : c.port.selected ≡ i → Accepted c l event 64 → d'.late ≡ pick (leb (d.head + 1541) (length (tape_at l i))) 0 2
      → LateMove c l event i d d'
  -- A block is recorded on it, not the last that a late WRITE takes: one less.
  counted : c.port.selected ≡ i → (b : ℕ) → LastByte c l event b → (d.late ≡ 1 → ⊥) → d'.head ≡ d.head + 513 → d'.late ≡ d.late - 1
      → LateMove c l event i d d'
  -- By all else it stays as it is while the drive is Writing, and so does the head.
  kept : d.mode ≡ Writing → d'.head ≡ d.head → d'.late ≡ d.late → LateMove c l event i d d'

abbrev pub LateMoves : Type 0
LateMoves =
    (c : Core) (l : Lent) (event : List ℕ) (i : ℕ) → i ≤ 3 → Whole l → possible c ≡ true
    → LateMove c l event i (drive_at c i) (drive_after c l event i)

-- A block is never recorded without the byte behind it: the data ends there, and test 7 lets a mark through.
pub record Behind (d : Drive) (t : List ℕ) (h : ℕ) : Type 0 where
  pub head : d.head ≡ h + 513
  pub room : d.head + 1 ≤ length t
  pub end : found_at t d.head ≡ Err End
  pub mark : fits7 d (length t) 96 ≡ false

abbrev pub ByteBehind : Type 0
ByteBehind =
    (c : Core) (l : Lent) (event : List ℕ) (b : ℕ) → Whole l → LastByte c l event b
    → Behind (drive_after c l event c.port.selected) (tape_after c l event c.port.selected) (drive_at c c.port.selected).head

-- The WRITE goes on behind it: the block has room, it is not the last late one, and the next one has room by the same test.
abbrev pub onwards : Drive → ℕ → Bool
onwards d size =
    leb (d.head + block_asks d.late) size && (not (eqb d.late 1) && leb (d.head + 513 + block_asks d.late) size)

-- EOM comes exactly where it does not go on.
pub record EomOrOn (d d' : Drive) (size : ℕ) (a : Answer) : Type 0 where
  pub on : onwards d size ≡ true → (a ≡ Taken) × (d'.mode ≡ Writing)
  pub eom : onwards d size ≡ false → (a ≡ Raised) × (d'.mode ≡ Idle) × (d'.latched.eom ≡ true)

abbrev pub EomExactly : Type 0
EomExactly =
    (c : Core) (l : Lent) (event : List ℕ) (b : ℕ) → Whole l → LastGiven c l event b
    → EomOrOn (drive_at c c.port.selected) (drive_after c l event c.port.selected) (length (tape_at l c.port.selected)) (answer_to c l event)

-- ---- Of a run

-- An act of the host that is such a one: a byte given, or WRITE ordered.
abbrev pub is_act : (Act → Bool) → Option Event → Bool
is_act f None = false
is_act f (Some Reset) = false
is_act f (Some (Named i w)) = false
is_act f (Some (Own a)) = f a

abbrev pub is_give : Act → Bool
is_give (Command k) = false
is_give (Give b) = true
is_give Take = false
is_give Online = false
is_give Offline = false

abbrev pub is_write : Act → Bool
is_write (Command k) = eqb k 64
is_write (Give b) = false
is_write Take = false
is_write Online = false
is_write Offline = false

-- An event records a block on drive i: a byte is given, and the head stands a block further. Drive i accepts a WRITE.
abbrev pub records_on : ℕ → World → List ℕ → Bool
records_on i w e = is_act is_give (event_of e) && eqb (drive_at (after w e).core i).head ((drive_at w.core i).head + 513)

abbrev pub accepts_write : ℕ → World → List ℕ → Bool
accepts_write i w e = eqb w.core.port.selected i && (is_act is_write (event_of e) && accepted (turn_of w e).answer)

-- The blocks that a run records on drive i, up to the next WRITE that it accepts.
abbrev pub one_if : Bool → ℕ
one_if true = 1
one_if false = 0

abbrev pub none_if : Bool → ℕ → ℕ
none_if true n = 0
none_if false n = n

abbrev pub blocks_on : ℕ → World → List (List ℕ) → ℕ
blocks_on i w [] = 0
blocks_on i w (e ∷ es) = none_if (accepts_write i w e) (one_if (records_on i w e) + blocks_on i (after w e) es)

-- A WRITE that is accepted past early warning takes at most two, whatever comes in between.
abbrev pub AtMostTwo : Type 0
AtMostTwo =
    (w : World) (e : List ℕ) → Works w → Accepted w.core w.lent e 64 → length (tape_of w) < (drive_of w).head + 1541
    → (es : List (List ℕ)) → blocks_on w.core.port.selected (after w e) es ≤ 2
