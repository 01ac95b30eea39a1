use Rattle.std.proofs.Common.{◌≡◌, ◌*◌, ◌^◌, drop, pos, neg_ℤ, ◌≤ℤ◌, ◌+ℤ◌}
use Rattle.lpcheck.specs.Rows.{worth}
use Rattle.lpcheck.proofs.check.worth_of.Given as goal

abbrev pub invariant-loop-at : goal.invariant-loop-at
invariant-loop-at l = record {
  so_far : l.total +ℤ worth (drop l.at l.rows) (drop l.at l.ys) ≡ worth l.rows l.ys;
  low : neg_ℤ (pos (2 ^ 96 * l.at)) ≤ℤ l.total;
  high : l.total ≤ℤ pos (2 ^ 96 * l.at);
}
