-- What is left to run from pair to pair comes to the whole run.
use mathlib.Core.Path.{◌≡◌}
use Rattle.std.specs.Slice.Iter.{chunks_exact_rest, chunks_exact_size}
use Rattle.unit.specs.Tapes.{lent_on, Same}
use Rattle.rules.specs.Ran.{UnderWay}
use Rattle.pace.specs.Pairs.{pairs_of}
use Rattle.pace.proofs.run_core.Given as goal

abbrev pub invariant-loop-pair : goal.invariant-loop-pair
invariant-loop-pair l = record {
  under_way : UnderWay l.initial.after (lent_on l.initial.staging l.initial.tapes) (pairs_of l.pairs) l.after (lent_on l.staging l.tapes) (pairs_of (chunks_exact_rest l.pair-iterator));
  by_two : chunks_exact_size l.pair-iterator ≡ 2;
  same : Same l.initial.tapes l.tapes;
}
