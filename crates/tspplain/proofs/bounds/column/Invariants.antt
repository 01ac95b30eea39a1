use Rattle.std.proofs.Common.{◌≡◌, ◌*◌, ◌^◌, pos, ◌≤ℤ◌, neg_ℤ}
use Rattle.tspdef.specs.Sums.{sum_below}
use Rattle.tspdef.specs.Bounds.{pair_term, reduced_cost}
use Rattle.tspplain.specs.Values.{instance_of, path_of, closing_of}
use Rattle.tspplain.proofs.bounds.column.Given as goal

abbrev pub invariant-loop-u : goal.invariant-loop-u
invariant-loop-u l = record {
  so_far : l.total ≡ sum_below (λ u. pair_term (path_of l.path) (reduced_cost (instance_of l.instance) (path_of l.path) (closing_of l.instance.n l.closing)) u l.v) l.u;
  low : neg_ℤ (pos (2 ^ 88 * l.u)) ≤ℤ l.total;
  high : l.total ≤ℤ pos (2 ^ 88 * l.u);
}
