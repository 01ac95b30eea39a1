use Rattle.std.proofs.Common.{◌≡◌, ◌*◌, ◌^◌, drop, pos, neg_ℤ, ◌≤ℤ◌, ◌+ℤ◌}
use Rattle.nodelp.specs.Holding.{excess}
use Rattle.nodelp.proofs.pricing.excess.Given as goal

abbrev pub invariant-loop-at : goal.invariant-loop-at
invariant-loop-at l = record {
  so_far : l.total +ℤ excess (drop l.at l.rows) (drop l.at l.ys) l.v ≡ excess l.rows l.ys l.v;
  low : neg_ℤ (pos (2 ^ 78 * l.at)) ≤ℤ l.total;
  high : l.total ≤ℤ pos (2 ^ 78 * l.at);
}
