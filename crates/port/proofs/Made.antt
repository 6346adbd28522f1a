-- What came of an order to record, in the words of the book.
use Prim.Native.Nat.{ℕ, ◌+◌}
use mathlib.Core.Path.{◌≡◌}
use mathlib.Core.Bool.{true}
use mathlib.Core.List.{List}
use lib.ListN.{length}
use borrow.Author.Tests.{le-leb, lt-leb}
use Rattle.std.specs.Prelude.{Some, None}
use Rattle.basis.specs.Choice.{pick}
use Rattle.tape.specs.Record.{block_size, block_record}
use Rattle.tape.specs.Recording.{written, block_written}
use Rattle.tape.proofs.Answers.{next_means, no_room_means}
use Rattle.rules.specs.declared.drive.Drive.{Drive}
use Rattle.rules.specs.declared.drive.Bit.TheVariants.{Eom}
use Rattle.rules.specs.declared.unit.Port.{Port}
use Rattle.rules.specs.Drive.{made, stopping}
use Rattle.rules.specs.Late.{spare_of, one_less}
use Rattle.rules.specs.Effect.{leaves}
use Rattle.rules.specs.Bytes.{after_block, stored}

-- the spare bytes that are handed over are those of the one room test
module _ (g : List ℕ) (p : Port) (d : Drive) (t t' : List ℕ) where
  pub block_stored : (next : ℕ) → written (Some next) t' ≡ block_written t d.head g (spare_of d.late)
      → after_block d.late p (one_less (made next d)) t' ≡ stored g p d t
  unfolding pick stored
  block_stored next e =
      let m = next_means t d.head block_size (spare_of d.late) (block_record g) next t' e in
      rw (le-leb (d.head + (block_size + spare_of d.late)) (length t) m.room, m.next_is, m.tape_is)

  pub block_refused : written None t' ≡ block_written t d.head g (spare_of d.late) → leaves true p (stopping Eom d) t' ≡ stored g p d t
  unfolding pick stored
  block_refused e =
      let m = no_room_means t d.head block_size (spare_of d.late) (block_record g) t' e in
      rw (lt-leb (d.head + (block_size + spare_of d.late)) (length t) m.full, m.tape_is)
