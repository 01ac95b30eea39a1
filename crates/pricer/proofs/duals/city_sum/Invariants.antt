use Rattle.std.proofs.Common.{◌≡◌, ◌*◌, ◌^◌, pos, neg_ℤ, ◌≤ℤ◌}
use Rattle.tspdef.specs.Sums.{sum_below}
use Rattle.tspdef.specs.Bounds as defs
use Rattle.pricer.proofs.duals.city_sum.Given as goal

abbrev pub invariant-loop-city : goal.invariant-loop-city
invariant-loop-city l = record {
  so_far : l.total ≡ sum_below (defs.city_dual l.closing) l.city;
  low : neg_ℤ (pos (2 ^ 63 * l.city)) ≤ℤ l.total;
  high : l.total ≤ℤ pos (2 ^ 63 * l.city);
}
