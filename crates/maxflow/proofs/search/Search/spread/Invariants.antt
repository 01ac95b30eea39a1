use Rattle.std.proofs.Common.{◌≡◌, ◌≤◌}
use Rattle.maxflow.specs.Searches.{IsTree, unmet}
use Rattle.maxflow.proofs.search.Search.spread.Given as goal

abbrev pub invariant-loop-place : goal.invariant-loop-place
invariant-loop-place l = record {
  size : l.self.n ≡ l.fn.self.n;
  start : l.self.start ≡ l.fn.self.start;
  tree : IsTree l.residual.edges.items l.self;
  fewer : unmet l.self.rank.items ≤ unmet l.fn.self.rank.items;
}

abbrev pub invariant-loop-head : goal.invariant-loop-head
invariant-loop-head l = record {
  size : l.self.n ≡ l.fn.self.n;
  start : l.self.start ≡ l.fn.self.start;
  tree : IsTree l.residual.edges.items l.self;
  fewer : unmet l.self.rank.items ≤ unmet l.fn.self.rank.items;
}
