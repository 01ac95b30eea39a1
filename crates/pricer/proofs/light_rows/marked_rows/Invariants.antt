use Rattle.std.proofs.Common.{◌≡◌, ◌*◌, ◌^◌, ◌≤◌, [], length, pos, neg_ℤ}
use Rattle.tspdef.specs.Bounds as defs
use Rattle.pricer.specs.Prices.{terms}
use Rattle.pricer.proofs.light_rows.marked_rows.Given as goal

abbrev pub invariant-loop-v : goal.invariant-loop-v
invariant-loop-v g l = record {
  so_far : neg_ℤ (pos l.total) ≡ terms l.v (defs.reduced_cost l.instance (g.T.Trail.conditions l.trail) l.closing) [];
  size : l.total ≤ 2 ^ 52 * 2000 * l.v;
  room : length l.shared ≡ l.instance.n;
}
