-- Events: one byte of kind and its body. What a string of bytes of any length means.
use Rattle.std.specs.Prelude.{ℕ, ◌-◌, true, false, List, length, get_or, ltb, leb, eqb, Option, None, Some}
use Rattle.basis.specs.Choice.{pick}
use Rattle.rules.specs.declared.event.Act.TheVariants.{Command, Give, Take, Online, Offline}
use Rattle.rules.specs.declared.event.What.{What}
use Rattle.rules.specs.declared.event.What.TheVariants.{In, Out, Error, Underrun}
use Rattle.rules.specs.declared.event.Event.{Event}
use Rattle.rules.specs.declared.event.Event.TheVariants.{Reset, Named, Own}

-- A body that names a drive: 0 to 3.
abbrev pub named : ℕ → What → Option Event
named n w = pick (leb n 3) (Some (Named n w)) None

-- The body of 07: the drive's number, with the top bit for a protected cartridge.
abbrev pub cartridge_in : ℕ → Option Event
cartridge_in b = pick (ltb b 128) (named b (In false)) (named (b - 128) (In true))

-- The kinds without a body: 03 byte taken, 04 and 05 ONLINE raised and dropped, 06 RESET.
unfoldable pub bare_event : ℕ → Option Event
bare_event k =
    pick (eqb k 3) (Some (Own Take))
    (pick (eqb k 4) (Some (Own Online))
    (pick (eqb k 5) (Some (Own Offline))
    (pick (eqb k 6) (Some Reset) None)))

-- The kinds with a body of one byte: 01 command, 02 byte given, 07 and 08 cartridge in and out, 09 recoverable error, 0A underrun.
unfoldable pub bodied_event : ℕ → ℕ → Option Event
bodied_event k b =
    pick (eqb k 1) (Some (Own (Command b)))
    (pick (eqb k 2) (Some (Own (Give b)))
    (pick (eqb k 7) (cartridge_in b)
    (pick (eqb k 8) (named b Out)
    (pick (eqb k 9) (named b Error)
    (pick (eqb k 10) (named b Underrun) None)))))

-- Anything else is no event: a kind unknown, a length wrong, a drive body of another form.
unfoldable pub event_of : List ℕ → Option Event
event_of l =
    pick (eqb (length l) 1) (bare_event (get_or l 0 0))
    (pick (eqb (length l) 2) (bodied_event (get_or l 0 0) (get_or l 1 0)) None)
