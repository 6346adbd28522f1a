use mathlib.Core.Logic.{inl, inr}
use Rattle.basis.specs.Choice.{pick}
use Rattle.port.proofs.effect.carry_out.Goals as goal

pub returns-in-Select : goal.returns-in-Select
returns-in-Select c =
    rw (c.leaves.ensures, c.select.ensures, c.at_drive.ensures, c.in-Select.is)

pub returns-in-Bot : goal.returns-in-Bot
returns-in-Bot c =
    elim c.in-Bot.is [
      | inl e ↦ rw (c.rests.ensures, c.rewind.ensures, e)
      | inr e ↦ rw (c.rests.ensures, c.rewind.ensures, e)
    ]

pub returns-in-Erase : goal.returns-in-Erase
returns-in-Erase c = rw (c.erase.ensures, c.in-Erase.is)

pub returns-in-Write : goal.returns-in-Write
returns-in-Write c = rw (c.write.ensures, c.in-Write.is)

pub returns-in-WriteMark : goal.returns-in-WriteMark
unfolding pick
returns-in-WriteMark c =
    let e = c.in-WriteMark.is in
    let has = rw e at c.requires in
    rw e (rw has at c.write_mark.ensures)

pub returns-in-Read : goal.returns-in-Read
returns-in-Read c = rw (c.read.ensures, c.in-Read.is)

pub returns-in-ReadMark : goal.returns-in-ReadMark
returns-in-ReadMark c = rw (c.read_mark.ensures, c.in-ReadMark.is)

pub returns-in-ReadStatus : goal.returns-in-ReadStatus
returns-in-ReadStatus c = rw (c.read_status.ensures c.args.tape.now, c.in-ReadStatus.is)
