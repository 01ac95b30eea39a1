use Rattle.std.proofs.Common.{◌≡◌, ◌*◌, ◌^◌, drop, pos, neg_ℤ, ◌≤ℤ◌, ◌+ℤ◌}
use Rattle.lpcheck.specs.Steps.{pieces_gain}
use Rattle.lpcheck.proofs.step.gain_of.Given as goal

abbrev pub invariant-loop-piece : goal.invariant-loop-piece
invariant-loop-piece l = record {
  so_far : l.total +ℤ pieces_gain (drop l.piece-index l.pieces) l.d ≡ pieces_gain l.pieces l.d;
  low : neg_ℤ (pos (2 ^ 81 * l.piece-index)) ≤ℤ l.total;
  high : l.total ≤ℤ pos (2 ^ 81 * l.piece-index);
}
