use Rattle.std.proofs.Common.{◌≡◌, ◌*◌, ◌^◌, drop, pos, neg_ℤ, ◌≤ℤ◌, ◌+ℤ◌}
use Rattle.lpcheck.specs.Cells.{lows}
use Rattle.lpcheck.proofs.check.low_of.Given as goal

abbrev pub invariant-loop-at : goal.invariant-loop-at
invariant-loop-at l = record {
  so_far : l.total +ℤ lows (drop l.at l.cols) (drop l.at l.rs) ≡ lows l.cols l.rs;
  low : neg_ℤ (pos (2 ^ 100 * l.at)) ≤ℤ l.total;
  high : l.total ≤ℤ pos (2 ^ 100 * l.at);
}
