-- An event that moves the phase alone: what it leaves, and what it hands back.
use Rattle.std.specs.Prelude.{ℕ, Bool, false, Option}
use Rattle.rules.specs.declared.phase.Phase.{Phase}
use Rattle.rules.specs.declared.unit.Core.{Core}
use Rattle.rules.specs.declared.answer.Answer.TheVariants.{Taken}
use Rattle.rules.specs.declared.answer.Turn.{Turn}
use Rattle.rules.specs.Unit.{moved_to}

-- A byte within a block is taken: READY and EXCEPTION are down, DIRECTION is up where the host takes bytes.
abbrev pub moved_on : Core → Phase → Option ℕ → Bool → Turn
moved_on c ph byte direction =
    record {
      answer = Taken;
      byte = byte;
      lines = record { ready = false; exception = false; direction = direction };
      core = moved_to c ph;
    }
