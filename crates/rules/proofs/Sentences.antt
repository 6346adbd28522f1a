-- The sentences, computed.
use mathlib.Core.Path.{refl}
use Rattle.basis.specs.Choice.{pick}
use Rattle.tape.specs.Record.{of_kind, found_at}
use Rattle.tape.specs.Recording.{recorded}
use Rattle.tape.specs.Walk.{walk, trail}
use Rattle.rules.specs.Drive.{counted}
use Rattle.rules.specs.Late.{allowed_at, goes_on}
use Rattle.rules.specs.Unit.{one_of, put_at, put_last}
use Rattle.rules.specs.Event.{bare_event, bodied_event, event_of}
use Rattle.rules.specs.Refusal.{possible_drive, possible_phase, possible, short, refusal_of}
use Rattle.rules.specs.Lines.{lines_of}
use Rattle.rules.specs.Order.{order_of, illegal, fault_by}
use Rattle.rules.specs.Edge.{checked}
use Rattle.rules.specs.Octets.{octets_of}
use Rattle.rules.specs.Effect.{fault_of}
use Rattle.rules.specs.Bytes.{staged_byte, after_block, stored, handed, octet_taken}
use Rattle.rules.specs.Online.{dropped}
use Rattle.rules.specs.Step.{step_by, step_of}
use Rattle.rules.specs.Run.{after, turn_of}
use Rattle.rules.specs.Promises.Sentences.{SentencesHold}

pub sentences_hold : SentencesHold
unfolding pick of_kind found_at recorded walk trail counted one_of put_at put_last bare_event bodied_event event_of possible_drive possible_phase possible
    short refusal_of lines_of order_of illegal fault_by checked octets_of fault_of staged_byte allowed_at goes_on after_block stored handed octet_taken
    dropped step_by step_of after turn_of
sentences_hold =
    record {
      fresh = refl;
      start = refl;
      reset = refl;
      lines = refl;
      phases = refl;
      numbers = refl;
      answer5 = refl;
      answer6 = λ g a b c d. refl;
      order = λ a. (refl, refl, refl, refl);
      answer4 = refl;
      answer2 = refl;
      answer3 = refl;
      test1 = refl;
      test2 = refl;
      test3 = refl;
      test4 = refl;
      test5 = refl;
      test6 = refl;
      test7 = refl;
      select = refl;
      bot_erase = refl;
      write_mark = refl;
      read = refl;
      read_mark = refl;
      read_status = refl;
      bits_stay = refl;
      own_tape = refl;
      byte_given = refl;
      block_stored = refl;
      octets_out = refl;
      byte_taken = refl;
      no_block = refl;
      spoilt_block = refl;
      byte_512 = refl;
      whole_block = refl;
      raised = refl;
      dropped = refl;
      cartridge_in = refl;
      cartridge_out = refl;
      counts = refl;
      late_stored = refl;
      late_kept = refl;
      late_gone = refl;
      late_5 = refl;
      bits = refl;
      counters = refl;
      report = refl;
    }
