use Rattle.std.proofs.Common.{◌≡◌, ◌+◌, ◌<◌, ◌≤◌, ℕ, Bool, cond, length, slice_index}
use Rattle.maxflow.specs.Edges.{room}
use Rattle.maxflow.specs.Searches.{IsMetBy}
use Rattle.maxflow.proofs.residual.Residual.send.Given as goal

abbrev pub invariant-loop-here : goal.invariant-loop-here
invariant-loop-here l = record {
  size : l.self.n ≡ l.fn.self.n;
  edges : length l.self.edges.items ≡ length l.fn.self.edges.items;
  inside : l.here < l.search.n;
  met : 0 < slice_index l.search.rank.items l.here;
  enough : l.amount ≤ slice_index l.search.amount.items l.here;
  via : (v : ℕ) → v < l.search.n → 0 < slice_index l.search.rank.items v → (v ≡ l.search.start → ⊥) → slice_index l.search.rank.items v ≤ slice_index l.search.rank.items l.here
      → IsMetBy l.self.edges.items l.search.n l.search.rank.items l.search.parent.items l.search.amount.items v;
  moved : (p : ℕ → Bool) → room l.self.edges.items p + cond (p l.here) l.amount 0 ≡ room l.fn.self.edges.items p + cond (p l.target) l.amount 0;
}

abbrev pub decreases-loop-here : goal.decreases-loop-here
decreases-loop-here l = slice_index l.search.rank.items l.here
