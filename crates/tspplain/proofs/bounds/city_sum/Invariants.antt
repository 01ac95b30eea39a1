use Rattle.std.proofs.Common.{◌≡◌, ◌*◌, ◌^◌, pos, ◌≤ℤ◌, neg_ℤ}
use Rattle.tspdef.specs.Sums.{sum_below}
use Rattle.tspdef.specs.Bounds.{city_dual}
use Rattle.tspplain.specs.Values.{closing_of}
use Rattle.tspplain.proofs.bounds.city_sum.Given as goal

abbrev pub invariant-loop-city : goal.invariant-loop-city
invariant-loop-city l = record {
  so_far : l.total ≡ sum_below (city_dual (closing_of l.n l.closing)) l.city;
  low : neg_ℤ (pos (2 ^ 63 * l.city)) ≤ℤ l.total;
  high : l.total ≤ℤ pos (2 ^ 63 * l.city);
}
