-- Demand 3 is about something: two quite different runs that reach drive 0 alike, and one that differs in a single event and ends otherwise.
use Rattle.std.specs.Prelude.{ℕ, ◌≡◌, List, [], ◌∷◌, ◌++◌, replicate}
use Rattle.rules.specs.Run.{World, run, fresh_world}
use Rattle.rules.specs.Reach.{real_change, reached}
use Rattle.rules.specs.Promises.Events.{error, underrun}
use Rattle.rules.specs.Promises.Runs.{report, open_in, command, online, giving}

abbrev pub sample_world : World
sample_world = fresh_world (replicate 16 0) (replicate 2054 0) [] []

-- Drive 0 loaded and reported, ONLINE up, away to drive 1 and back, and a mark.
abbrev pub plain_run : List (List ℕ)
plain_run = open_in 0 ++ (report ++ (online ++ (command 2 ++ (report ++ (command 1 ++ command 96)))))

-- The same with a cartridge, counts, a repeated level, a recorded block and a mark at drive 1.
abbrev pub busy_run : List (List ℕ)
busy_run =
    (open_in 1 ++ open_in 0)
    ++ ((error 1 ∷ report)
    ++ (((online ++ command 2) ++ (report ++ online))
    ++ (((command 64 ++ giving 512 7) ++ (command 96 ++ (underrun 1 ∷ []))) ++ (command 1 ++ command 96))))

-- The events that reach drive 0 in both.
abbrev pub reached_both : List (List ℕ)
reached_both = open_in 0 ++ (report ++ (online ++ (command 2 ++ (command 1 ++ command 96))))

-- The plain run without its last event, the mark.
abbrev pub shorter_run : List (List ℕ)
shorter_run = open_in 0 ++ (report ++ (online ++ (command 2 ++ (report ++ command 1))))

pub record Samples : Type 0 where
  pub plain : reached real_change 0 sample_world plain_run ≡ reached_both
  pub busy : reached real_change 0 sample_world busy_run ≡ reached_both
  pub busy_tape : (run sample_world busy_run).lent.tape0 ≡ 2 ∷ replicate 15 0
  pub shorter : reached real_change 0 sample_world shorter_run ≡ open_in 0 ++ (report ++ (online ++ (command 2 ++ command 1)))
  pub shorter_tape : (run sample_world shorter_run).lent.tape0 ≡ replicate 16 0
