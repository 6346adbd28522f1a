-- The laws of a tape that whoever stands above may cite: here each is stated, in proofs/ each is proved.
use Rattle.std.specs.Prelude.{ℕ, ◌+◌, ◌≤◌, ◌<◌, ◌≡◌, List, length, get_or, take, drop, Some, None, Result, Ok, Err}
use Rattle.tape.specs.declared.found.Kind.{Kind}
use Rattle.tape.specs.declared.found.Kind.TheVariants.{Block, Mark}
use Rattle.tape.specs.declared.found.Why.{Why}
use Rattle.tape.specs.declared.found.Why.TheVariants.{End, Unknown, Bad}
use Rattle.tape.specs.Record.{end_kind, block_kind, mark_kind, body_size, block_size, mark_size, mark_record, block_record, found_at}
use Rattle.tape.specs.Recording.{recorded, written, written_at}
use Rattle.tape.specs.Walk.{Trail, block, mark, stop, trail, start_of, past_marks, passed, end_of}

-- What stands at an offset, case by case, with the bytes that make each case.
pub data Stands (t : List ℕ) (h : ℕ) : Result Kind Why → Type 0 where
  whole_block : h + block_size ≤ length t → get_or t h 0 ≡ block_kind → Stands t h (Ok Block)
  one_mark : h < length t → get_or t h 0 ≡ mark_kind → Stands t h (Ok Mark)
  one_end : h < length t → get_or t h 0 ≡ end_kind → Stands t h (Err End)
  tape_end : h ≡ length t → Stands t h (Err End)
  other_kind : h < length t → (get_or t h 0 ≡ end_kind → ⊥) → (get_or t h 0 ≡ block_kind → ⊥) → (get_or t h 0 ≡ mark_kind → ⊥) → Stands t h (Err Unknown)
  cut_block : h < length t → length t < h + block_size → get_or t h 0 ≡ block_kind → Stands t h (Err Bad)
  off_tape : length t < h → Stands t h (Err Bad)

-- The cases say the same as `found_at`: each case is found, and what is found is one of the cases.
abbrev pub CaseFound : Type 0
CaseFound = (t : List ℕ) (h : ℕ) (f : Result Kind Why) → Stands t h f → found_at t h ≡ f

abbrev pub FoundCase : Type 0
FoundCase = (t : List ℕ) (h : ℕ) (f : Result Kind Why) → found_at t h ≡ f → Stands t h f

-- A kind that nobody knows: a byte of the tape, 03 to FF.
pub record UnknownKind (t : List ℕ) (h : ℕ) : Type 0 where
  pub there : h < length t
  pub kind : 3 ≤ get_or t h 0

abbrev pub UnknownFound : Type 0
UnknownFound = (t : List ℕ) (h : ℕ) → UnknownKind t h → found_at t h ≡ Err Unknown

abbrev pub FoundUnknown : Type 0
FoundUnknown = (t : List ℕ) (h : ℕ) → found_at t h ≡ Err Unknown → UnknownKind t h

-- A block or a mark that is found ends inside the tape.
abbrev pub BlockFits : Type 0
BlockFits = (t : List ℕ) (h : ℕ) → found_at t h ≡ Ok Block → h + block_size ≤ length t

abbrev pub MarkFits : Type 0
MarkFits = (t : List ℕ) (h : ℕ) → found_at t h ≡ Ok Mark → h + mark_size ≤ length t

-- What a record put at offset h leaves of the tape t.
pub record Kept (t rec : List ℕ) (h : ℕ) : Type 0 where
  -- The length is kept.
  pub size : length (recorded t h rec) ≡ length t
  -- Every byte before the record is as it was.
  pub before : take h (recorded t h rec) ≡ take h t
  -- Each byte of the record stands in its place.
  pub bytes : (i : ℕ) → i < length rec → get_or (recorded t h rec) (h + i) 0 ≡ get_or rec i 0
  -- Every byte past the record and the 00 after it is as it was.
  pub after : drop (h + (length rec + 1)) (recorded t h rec) ≡ drop (h + (length rec + 1)) t
  -- Right after the record the data ends.
  pub ends : found_at (recorded t h rec) (h + length rec) ≡ Err End

abbrev pub RecordingKeeps : Type 0
RecordingKeeps = (t rec : List ℕ) (h : ℕ) → h + length rec ≤ length t → Kept t rec h

-- A mark and a block are found where they were recorded.
abbrev pub MarkFound : Type 0
MarkFound = (t : List ℕ) (h : ℕ) → h + mark_size ≤ length t → found_at (recorded t h mark_record) h ≡ Ok Mark

abbrev pub BlockFound : Type 0
BlockFound =
    (t body : List ℕ) (h : ℕ) → length body ≡ body_size → h + block_size ≤ length t → found_at (recorded t h (block_record body)) h ≡ Ok Block

-- The three laws of the walk: a block, a mark, and where it stops.
abbrev pub TrailBlock : Type 0
TrailBlock = (t : List ℕ) (h : ℕ) → found_at t h ≡ Ok Block → trail t h ≡ block h (trail t (h + block_size))

abbrev pub TrailMark : Type 0
TrailMark = (t : List ℕ) (h : ℕ) → found_at t h ≡ Ok Mark → trail t h ≡ mark h (trail t (h + mark_size))

abbrev pub TrailStop : Type 0
TrailStop = (t : List ℕ) (h : ℕ) (w : Why) → found_at t h ≡ Err w → trail t h ≡ stop h w

-- A walk starts where it is asked to.
abbrev pub TrailStart : Type 0
TrailStart = (t : List ℕ) (h : ℕ) → start_of (trail t h) ≡ h

-- The walk as a relation: what each offset on the way holds. Whoever goes by cases over a walk goes by these.
pub data Walks (t : List ℕ) : ℕ → Trail → Type 0 where
  over_block : {h : ℕ} {r : Trail} → found_at t h ≡ Ok Block → Walks t (h + block_size) r → Walks t h (block h r)
  over_mark : {h : ℕ} {r : Trail} → found_at t h ≡ Ok Mark → Walks t (h + mark_size) r → Walks t h (mark h r)
  at_stop : {h : ℕ} {w : Why} → found_at t h ≡ Err w → Walks t h (stop h w)

abbrev pub TrailWalks : Type 0
TrailWalks = (t : List ℕ) (h : ℕ) → Walks t h (trail t h)

-- Passing ends on the tape, or where it began.
abbrev pub PassedWithin : Type 0
PassedWithin = (t : List ℕ) (h b : ℕ) → length t ≤ b → h ≤ b → end_of (passed t h) ≤ b

-- Where passing stopped there is no record, and for that reason.
abbrev pub PassedStops : Type 0
PassedStops = (t : List ℕ) (h n at : ℕ) (w : Why) → past_marks n (trail t h) ≡ Err (record { at = at; why = w }) → found_at t at ≡ Err w

-- What an answer says: `Some` that the record has room, where it ends and that the tape has it; `None` that it has none and the tape is as found.
pub record WasMade (t : List ℕ) (h n spare : ℕ) (rec : List ℕ) (next : ℕ) (t' : List ℕ) : Type 0 where
  pub room : h + (n + spare) ≤ length t
  pub next_is : next ≡ h + n
  pub tape_is : t' ≡ recorded t h rec

abbrev pub NextMeans : Type 0
NextMeans =
    (t : List ℕ) (h n spare : ℕ) (rec : List ℕ) (next : ℕ) (t' : List ℕ)
    → written (Some next) t' ≡ written_at t h n spare rec → WasMade t h n spare rec next t'

pub record NotMade (t : List ℕ) (h n spare : ℕ) (t' : List ℕ) : Type 0 where
  pub full : length t < h + (n + spare)
  pub tape_is : t' ≡ t

abbrev pub NoRoomMeans : Type 0
NoRoomMeans =
    (t : List ℕ) (h n spare : ℕ) (rec t' : List ℕ) → written None t' ≡ written_at t h n spare rec → NotMade t h n spare t'
