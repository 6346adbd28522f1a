use Prim.Native.Nat.{◌+◌}
use Rattle.rules.specs.Order.{mark_room}
use Rattle.tape.proofs.Answers.{next_means, no_room_means}
use Rattle.basis.specs.Choice.{pick}
use Rattle.tape.specs.Record.{mark_record, mark_size}
use borrow.Author.Tests.{le-leb, lt-leb}
use lib.ListN.{length}
use Rattle.port.proofs.effect.write_mark.Goals as goal

pub returns-in-Some : goal.returns-in-Some
unfolding pick
returns-in-Some c =
    let a = c.args in
    let w = rw c.in-Some.is at
    c.record_mark.ensures in
    let m = next_means a.tape.now a.at.drive.head mark_size 0 mark_record _ _ w in
    rw (
      c.rests.ensures,
      c.in_mode.ensures,
      c.made.ensures,
      le-leb (a.at.drive.head + mark_room)
          (length a.tape.now) m.room,
      m.next_is,
      m.tape_is,
    )

pub returns-in-None : goal.returns-in-None
unfolding pick
returns-in-None c =
    let a = c.args in
    let w = rw c.in-None.is at c.record_mark.ensures in
    let m = no_room_means a.tape.now a.at.drive.head mark_size 0 mark_record _ w in
    rw (c.rests-in-None.ensures, c.stop.ensures, lt-leb (a.at.drive.head + mark_room) (length a.tape.now) m.full, m.tape_is)
