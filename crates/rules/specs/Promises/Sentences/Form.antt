-- The form of a run that stands for a sentence: what is there, the events, what each of them is answered, and all that is there after them.
use Rattle.std.specs.Prelude.{ℕ, ◌≡◌, Bool, true, false, List, [], ◌∷◌, map, Option, None, Some}
use Rattle.rules.specs.declared.answer.Turn.{Turn}
use Rattle.rules.specs.declared.answer.Lines.{Lines}
use Rattle.rules.specs.Answer.{row_of}
use Rattle.rules.specs.Run.{World, run, turns}

-- What an event is answered: the number, the byte handed out or none, the lines.
pub record Seen : Type 0 where
  pub answer : ℕ
  pub byte : Option ℕ
  pub lines : Lines

abbrev pub says : ℕ → Lines → Seen
says a l = record { answer = a; byte = None; lines = l }

abbrev pub hands : ℕ → ℕ → Lines → Seen
hands a b l = record { answer = a; byte = Some b; lines = l }

-- The lines that are up, by their letters; `O` is none of them.
abbrev pub lines : Bool → Bool → Bool → Lines
lines r e d = record { ready = r; exception = e; direction = d }

abbrev pub R : Lines
R = lines true false false

abbrev pub RD : Lines
RD = lines true false true

abbrev pub E : Lines
E = lines false true false

abbrev pub ED : Lines
ED = lines false true true

abbrev pub D : Lines
D = lines false false true

abbrev pub O : Lines
O = lines false false false

-- A row of a table of runs, and what its run shows.
pub record Case : Type 0 where
  pub start : World
  pub events : List (List ℕ)
  pub seen : List Seen
  pub end : World

pub record Shown : Type 0 where
  pub seen : List Seen
  pub end : World

abbrev pub seen_of : Turn → Seen
seen_of t = record { answer = (row_of t.answer).number; byte = t.byte; lines = t.lines }

abbrev pub shown_by : Case → Shown
shown_by r = record { seen = map seen_of (turns r.start r.events); end = run r.start r.events }

abbrev pub wanted : Case → Shown
wanted r = record { seen = r.seen; end = r.end }

abbrev pub Hold : List Case → Type 0
Hold rows = map shown_by rows ≡ map wanted rows

-- Several events; one event; one event that is refused, and so leaves all as found.
abbrev pub rows : World → List (List ℕ) → List Seen → World → Case
rows w es s w' = record { start = w; events = es; seen = s; end = w' }

abbrev pub row : World → List ℕ → Seen → World → Case
row w e s w' = rows w (e ∷ []) (s ∷ []) w'

abbrev pub still : World → List ℕ → ℕ → Lines → Case
still w e a l = row w e (says a l) w
