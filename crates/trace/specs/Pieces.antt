-- A trace that comes in pieces: what a run over one piece leaves is answered with what comes behind it, and no event is lost or answered twice.
use Rattle.std.specs.Prelude.{ℕ, ◌+◌, ◌≡◌, Bool, true, false, List, [], ◌∷◌, ◌++◌, drop}
use Rattle.rules.specs.Run.{World, after, turn_of}
use Rattle.trace.specs.declared.run.Halt.TheVariants.{InputOut, RoomOut, Stopped}
use Rattle.trace.specs.Cut.{events_of}
use Rattle.trace.specs.Play.{line_in, stops, Run, play}

-- What is told of a whole trace, with room for all of it:
-- the world that it leaves, the count of events answered in all, whether an answer 4 stopped it, the text.
pub record Told : Type 0 where
  pub world : World
  pub count : ℕ
  pub stopped : Bool
  pub text : List ℕ

abbrev pub ended : World → ℕ → Bool → Told
ended w n s = record { world = w; count = n; stopped = s; text = [] }

abbrev pub behind : List ℕ → Told → Told
behind text t = record { world = t.world; count = t.count; stopped = t.stopped; text = text ++ t.text }

-- A line for each event, up to and with the first answer 4.
abbrev pub tell : World → ℕ → List (List ℕ) → Told
tell w n [] = ended w n false
tell w n (e ∷ es) =
    behind (line_in w e (n + 1))
    (elim (stops (turn_of w e).answer) [
      | true ↦ ended (after w e) (n + 1) true
      | false ↦ tell (after w e) (n + 1) es
    ])

-- A run over a piece, and then other events; after an answer 4 none.
abbrev pub gone_on : Run → List (List ℕ) → Told
gone_on r es =
    behind r.text
    (elim r.halt [
      | InputOut ↦ tell r.world r.count es
      | RoomOut ↦ tell r.world r.count es
      | Stopped ↦ ended r.world r.count true
    ])

pub record NothingLost : Type 0 where
  -- The bytes l are run as far as their whole events and the room go; then what is left of them, with m behind it.
  pub piece : (room full : ℕ) (w : World) (n : ℕ) (ending : Bool) (l m : List ℕ)
      → tell w n (events_of ending (l ++ m)) ≡ gone_on (play room full w n (events_of false l))
      (events_of ending (drop (play room full w n (events_of false l)).used l ++ m))
  -- The last bytes of the input are run, as far as the room goes; then what is left of them.
  pub last : (room full : ℕ) (w : World) (n : ℕ) (l : List ℕ)
      → tell w n (events_of true l) ≡ gone_on (play room full w n (events_of true l))
      (events_of true (drop (play room full w n (events_of true l)).used l))
  -- Where the input ran out no event is left in it.
  pub spent : (room full : ℕ) (w : World) (n : ℕ) (ending : Bool) (l : List ℕ)
      → (play room full w n (events_of ending l)).halt ≡ InputOut → events_of ending (drop (play room full w n (events_of ending l)).used l) ≡ []
