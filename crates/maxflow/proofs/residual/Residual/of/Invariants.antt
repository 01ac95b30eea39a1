use Rattle.std.proofs.Common.{◌≡◌, ◌<◌, ℕ, Bool, take}
use Rattle.std.specs.List.{All}
use Rattle.maxflow.specs.Crossings.{crossing}
use Rattle.maxflow.specs.Edges.{room}
use Rattle.maxflow.proofs.residual.Residual.of.Given as goal

abbrev pub invariant-loop-pair : goal.invariant-loop-pair
invariant-loop-pair l = record {
  within : All (λ e. (e.u < l.n) × (e.v < l.n)) l.edges.items;
  whole : (p : ℕ → Bool) → room l.edges.items p ≡ crossing (take l.pair-index l.pairs) p;
}
