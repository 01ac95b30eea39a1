use Rattle.std.proofs.Common.{◌≡◌, ◌<◌, ℕ, true, slice_index}
use Rattle.maxflow.specs.Flows.{is_stop}
use Rattle.maxflow.proofs.search.Search.met_stop.Given as goal

abbrev pub invariant-loop-k : goal.invariant-loop-k
invariant-loop-k l = (j : ℕ) → j < l.k → is_stop l.stops j ≡ true → slice_index l.self.rank.items j ≡ 0
