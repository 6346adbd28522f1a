-- Documents 01 and 02 sentence by sentence: each field is a list of runs that would end otherwise if the definitions said something else.
pub mod Form
pub mod Scene
pub mod State
pub mod Refusals
pub mod Orders
pub mod Bytes
pub mod Line
pub mod Slots
pub mod Late
pub mod Octets
use Rattle.std.specs.Prelude.{◌≡◌}
use Rattle.rules.specs.Unit.{fresh_unit}
use Rattle.rules.specs.Promises.Sentences.Form.{Hold}
use Rattle.rules.specs.Promises.Sentences.State.{new_unit, starting, resetting, lit_lines, PhasesTold}
use Rattle.rules.specs.Promises.Sentences.Refusals.{AnswersTold, impossible, TooLongIs, FiveThenSix, malformed, out_of_step, no_slot}
use Rattle.rules.specs.Promises.Sentences.Orders.{exception_up, unknown_code, sequence, line_low, empty, plug, room}
use Rattle.rules.specs.Promises.Sentences.Orders.{selecting, homing, marking, reading, passing, status, bits_stay}
use Rattle.rules.specs.Promises.Sentences.Bytes.{giving, storing, octets_out, taking, nothing_there, spoiling, last_taken, whole_block}
use Rattle.rules.specs.Promises.Sentences.Line.{rising, falling}
use Rattle.rules.specs.Promises.Sentences.Slots.{coming_in, going_out, counting, own_tape}
use Rattle.rules.specs.Promises.Sentences.Late.{late_storing, late_kept, late_gone, late_never}
use Rattle.rules.specs.Promises.Sentences.Octets.{bits, counters, whole_report}

pub record SentencesHold : Type 0 where
  -- State
  pub fresh : fresh_unit ≡ new_unit
  pub start : Hold starting
  pub reset : Hold resetting
  pub lines : Hold lit_lines
  pub phases : PhasesTold
  -- Answers
  pub numbers : AnswersTold
  pub answer5 : Hold impossible
  pub answer6 : TooLongIs
  pub order : FiveThenSix
  pub answer4 : Hold malformed
  pub answer2 : Hold out_of_step
  pub answer3 : Hold no_slot
  -- Commands: the tests
  pub test1 : Hold exception_up
  pub test2 : Hold unknown_code
  pub test3 : Hold sequence
  pub test4 : Hold line_low
  pub test5 : Hold empty
  pub test6 : Hold plug
  pub test7 : Hold room
  -- Commands: effects, edge check, recording
  pub select : Hold selecting
  pub bot_erase : Hold homing
  pub write_mark : Hold marking
  pub read : Hold reading
  pub read_mark : Hold passing
  pub read_status : Hold status
  pub bits_stay : Hold bits_stay
  pub own_tape : Hold own_tape
  -- Bytes
  pub byte_given : Hold giving
  pub block_stored : Hold storing
  pub octets_out : Hold octets_out
  pub byte_taken : Hold taking
  pub no_block : Hold nothing_there
  pub spoilt_block : Hold spoiling
  pub byte_512 : Hold last_taken
  pub whole_block : Hold whole_block
  -- ONLINE, cartridges, counts
  pub raised : Hold rising
  pub dropped : Hold falling
  pub cartridge_in : Hold coming_in
  pub cartridge_out : Hold going_out
  pub counts : Hold counting
  -- Late blocks
  pub late_stored : Hold late_storing
  pub late_kept : Hold late_kept
  pub late_gone : Hold late_gone
  pub late_5 : Hold late_never
  -- Octets
  pub bits : Hold bits
  pub counters : Hold counters
  pub report : Hold whole_report
