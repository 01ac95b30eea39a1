use Rattle.std.proofs.Common.{◌≡◌, ◌*◌, ◌^◌, pos, ◌≤ℤ◌, neg_ℤ}
use Rattle.tspdef.specs.Sums.{sum_pairs}
use Rattle.tspdef.specs.Bounds.{pair_term, reduced_cost}
use Rattle.tspplain.specs.Values.{instance_of, path_of, closing_of}
use Rattle.tspplain.proofs.bounds.pairs.Given as goal

abbrev pub invariant-loop-v : goal.invariant-loop-v
invariant-loop-v l = record {
  so_far : l.total ≡ sum_pairs (pair_term (path_of l.path) (reduced_cost (instance_of l.instance) (path_of l.path) (closing_of l.instance.n l.closing))) l.v;
  low : neg_ℤ (pos (2 ^ 88 * 2000 * l.v)) ≤ℤ l.total;
  high : l.total ≤ℤ pos (2 ^ 88 * 2000 * l.v);
}
