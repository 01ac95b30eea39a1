use Rattle.std.proofs.Common.{◌≡◌, ◌+◌, ℕ, Bool, true, ◌==◌}
use Rattle.maxflow.specs.Crossings.{crossing}
use Rattle.maxflow.specs.Edges.{room}
use Rattle.maxflow.specs.Searches.{IsTree}
use Rattle.maxflow.specs.Flows.{LacksStops}
use Rattle.maxflow.proofs.route.flow_below.Given as goal

abbrev pub invariant-loop-t : goal.invariant-loop-t
invariant-loop-t l = record {
  residual_size : l.residual.n ≡ l.n;
  size : l.search.n ≡ l.n;
  start : l.search.start ≡ l.s;
  tree : IsTree l.residual.edges.items l.search;
  balance : (p : ℕ → Bool) → p l.s ≡ true → LacksStops l.n l.stops p → l.value + room l.residual.edges.items p ≡ crossing l.pairs p;
}

abbrev pub decreases-loop-t : goal.decreases-loop-t
decreases-loop-t l = room l.residual.edges.items (λ k. k == l.s)
