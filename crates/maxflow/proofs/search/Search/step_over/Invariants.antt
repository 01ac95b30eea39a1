use Rattle.std.proofs.Common.{◌≡◌, ◌<◌, ℕ}
use Rattle.maxflow.specs.Edges.{room_at}
use Rattle.maxflow.specs.Edges.{edge_at}
use Rattle.maxflow.specs.Searches.{IsTree, is_met}
use Rattle.maxflow.proofs.search.Search.step_over.Given as goal

abbrev pub invariant-loop-place : goal.invariant-loop-place
invariant-loop-place l = record {
  size : l.self.n ≡ l.fn.self.n;
  start : l.self.start ≡ l.fn.self.start;
  tree : IsTree l.residual.edges.items l.self;
  rank : l.self.rank.items ≡ l.fn.self.rank.items;
  closed : (i : ℕ) → i < l.place → room_at (is_met l.fn.self.rank.items) (edge_at l.residual.edges.items i) ≡ 0;
}
