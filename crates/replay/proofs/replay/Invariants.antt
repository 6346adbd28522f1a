-- What is not run yet lies inside the input, and every buffer keeps its size.
use Rattle.std.proofs.Common.{◌≡◌, ◌≤◌, length}
use Rattle.unit.specs.Tapes.{Same}
use Rattle.replay.proofs.replay.Given as goal

abbrev pub invariant-loop : goal.invariant-loop
invariant-loop g l = record {
  in_order : l.piece.from ≤ l.piece.to;
  inside : l.piece.to ≤ length l.input;
  same_input : length l.input ≡ length l.initial.input;
  same_out : length l.out ≡ length l.initial.out;
  same_tapes : Same l.initial.tapes l.tapes;
}
