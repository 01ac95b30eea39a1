use Rattle.std.proofs.Common.{◌≡◌, ◌*◌, ◌^◌, ◌≤◌, pos, neg_ℤ}
use Rattle.std.specs.Int.{int_min}
use Rattle.tspdef.specs.Sums.{sum_below}
use Rattle.tspdef.specs.Instances.{dist}
use Rattle.pricer.specs.Prices.{at, cost_of}
use Rattle.pricer.proofs.rows.light_row_loss.Given as goal

abbrev pub invariant-loop-u : goal.invariant-loop-u
invariant-loop-u l = record {
  so_far : neg_ℤ (pos l.total) ≡ sum_below (λ u. int_min (pos 0) (cost_of (dist l.instance l.v u) l.base (at l.price u) (at l.own u))) l.u;
  size : l.total ≤ 2 ^ 52 * l.u;
}
