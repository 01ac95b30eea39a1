use Rattle.std.proofs.Common.{◌≡◌}
use Rattle.maxflow.specs.Searches.{IsTree, unmet}
use Rattle.maxflow.proofs.search.Search.reach.Given as goal

abbrev pub invariant-loop-x : goal.invariant-loop-x
invariant-loop-x l = record {
  size : l.self.n ≡ l.fn.self.n;
  start : l.self.start ≡ l.fn.self.start;
  tree : IsTree l.residual.edges.items l.self;
}

abbrev pub decreases-loop-x : goal.decreases-loop-x
decreases-loop-x l = unmet l.self.rank.items
