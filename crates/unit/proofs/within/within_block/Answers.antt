-- Each test in its turn, as the definition has them.
use mathlib.Core.Path.{◌≡◌, refl}
use mathlib.Core.Bool.{false, ◌&&◌}
use Rattle.std.specs.Prelude.{is_some}
use Rattle.basis.specs.Choice.{pick}
use Rattle.basis.specs.Tests.{told}
use Rattle.rules.specs.Drive.{writes}
use Rattle.answers.specs.Place.{given_place}
use Rattle.unit.specs.Within.{inside_of}
use Rattle.unit.proofs.within.within_block.Goals.{in-Some+else-writes, in_default}
use Rattle.unit.proofs.within.within_block.Goals as goal

pub returns-then-writes : goal.returns-then-writes
unfolding pick inside_of
returns-then-writes c =
    rw (told c.given_place.ensures.value c.in-Some.is, told c.writes.ensures c.if-writes.true)

pub returns-in_err-n : goal.returns-in_err-n
unfolding pick inside_of
returns-in_err-n c =
    let a = c.args in
    let no : (is_some (given_place a.phase a.event.now) && writes a.drive) ≡ false =
    elim c.match-given_place.branch [
      | in-Some+else-writes w ↦ rw (told c.given_place.ensures.value w.in-Some.is) (told w.writes.ensures w.if-writes.false)
      | in_default w ↦ rw (told c.given_place.ensures.value w.in_default.is) refl
    ] in
    rw (c.from_residual.ensures, no, told c.taken_place.ensures.value c.in_err-n.was)

pub returns-in_err-byte : goal.returns-in_err-byte
unfolding pick inside_of
returns-in_err-byte c =
    let a = c.args in
    let no : (is_some (given_place a.phase a.event.now) && writes a.drive) ≡ false =
    elim c.match-given_place.branch [
      | in-Some+else-writes w ↦ rw (told c.given_place.ensures.value w.in-Some.is) (told w.writes.ensures w.if-writes.false)
      | in_default w ↦ rw (told c.given_place.ensures.value w.in_default.is) refl
    ] in
    let none = told c.next_of.ensures c.in_err-byte.was in
    rw (c.from_residual-in_err-byte.ensures, no, told c.taken_place.ensures.value c.in_ok-n.was, none)

pub returns : goal.returns
unfolding pick inside_of
returns c =
    let a = c.args in
    let no : (is_some (given_place a.phase a.event.now) && writes a.drive) ≡ false =
    elim c.match-given_place.branch [
      | in-Some+else-writes w ↦ rw (told c.given_place.ensures.value w.in-Some.is) (told w.writes.ensures w.if-writes.false)
      | in_default w ↦ rw (told c.given_place.ensures.value w.in_default.is) refl
    ] in
    let there = told c.next_of.ensures c.in_ok-byte.was in
    rw (no, told c.taken_place.ensures.value c.in_ok-n.was, there)
