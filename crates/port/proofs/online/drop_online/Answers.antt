-- The two tests choose between the rules of the book.
use Rattle.port.proofs.Level.{with_cartridge, with_exception, with_neither}
use Rattle.rules.specs.Online.{dropped}
use mathlib.Core.Path.{sym}
use Rattle.port.proofs.online.drop_online.Goals as goal

pub returns-then-at : goal.returns-then-at
unfolding dropped
returns-then-at c =
    let a = c.args in
    rw (c.falls.ensures, c.in_mode.ensures)
    (sym (with_exception a.at.port.online a.at.drive.exception a.at.drive.loaded _ _ _ c.if-at.true))

pub returns-then-at-2 : goal.returns-then-at-2
unfolding dropped
returns-then-at-2 c =
    let a = c.args in
    rw c.leave.ensures
    (sym (with_cartridge a.at.port.online a.at.drive.exception a.at.drive.loaded _ _ _ c.if-at.false c.if-at-2.true))

pub returns : goal.returns
unfolding dropped
returns c =
    let a = c.args in
    rw c.falls-2.ensures
    (sym (with_neither a.at.port.online a.at.drive.exception a.at.drive.loaded _ _ _ c.if-at.false c.if-at-2.false))
