-- A raw trace is bytes, and the kind fixes how long an event is. The one cutting of a trace into events.
use Rattle.std.specs.Prelude.{ℕ, zero, suc, Bool, ◌&&◌, Option, Some, None, Result, Ok, Err, List, [], ◌∷◌, length, take, drop, leb}
use Rattle.basis.specs.Choice.{pick}
use Rattle.trace.specs.declared.cut.Cut.{Cut}
use Rattle.trace.specs.declared.cut.Cut.TheVariants.{UnknownKind, CutOff, NoneLeft}

-- The kinds are 01 to 0A; those from 03 to 06 have no body, the others one of one byte.
abbrev pub first_kind : ℕ
first_kind = 1

abbrev pub first_bare : ℕ
first_bare = 3

abbrev pub last_bare : ℕ
last_bare = 6

abbrev pub last_kind : ℕ
last_kind = 10

-- An event of its kind alone, and one with a body.
abbrev pub bare_size : ℕ
bare_size = 1

abbrev pub bodied_size : ℕ
bodied_size = 2

-- The bytes of an event by its kind, if the kind is known.
unfoldable pub kind_size : ℕ → Option ℕ
kind_size k =
    pick (leb first_bare k && leb k last_bare) (Some bare_size) (pick (leb first_kind k && leb k last_kind) (Some bodied_size) None)

-- What n bytes begin with, where the first is of a kind with this size.
unfoldable pub cut_by : Option ℕ → ℕ → Result ℕ Cut
cut_by None n = Err UnknownKind
cut_by (Some size) n = pick (leb size n) (Ok size) (Err CutOff)

-- The size of the whole event that a stretch of bytes begins with, or why none does.
unfoldable pub cut_of : List ℕ → Result ℕ Cut
cut_of [] = Err NoneLeft
cut_of (k ∷ l) = cut_by (kind_size k) (length (k ∷ l))

-- The bytes that are answered as one event, of n bytes cut so; None: none yet. An unknown kind is an event of one byte;
-- where the input ends, what is cut off is one event.
abbrev pub answered : Bool → ℕ → Result ℕ Cut → Option ℕ
answered ending n (Ok size) = Some size
answered ending n (Err UnknownKind) = Some bare_size
answered ending n (Err CutOff) = pick ending (Some n) None
answered ending n (Err NoneLeft) = None

unfoldable pub next_size : Bool → List ℕ → Option ℕ
next_size ending l = answered ending (length l) (cut_of l)

-- The events of a stretch of bytes, one after the other; with fuel, since each has at least one byte.
abbrev pub events_by : ℕ → Bool → List ℕ → List (List ℕ)
events_by zero ending l = []
events_by (suc fuel) ending l =
    elim (next_size ending l) [ None ↦ [] | Some size ↦ take size l ∷ events_by fuel ending (drop size l) ]

unfoldable pub events_of : Bool → List ℕ → List (List ℕ)
events_of ending l = events_by (length l) ending l
