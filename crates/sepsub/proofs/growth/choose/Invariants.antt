use Rattle.std.proofs.Common.{◌≡◌, ◌<◌, ℕ, true}
use Rattle.maxflow.specs.Flows.{is_stop}
use Rattle.sepsub.proofs.growth.choose.Given as goal

abbrev pub invariant-loop-k : goal.invariant-loop-k
invariant-loop-k l = (j : ℕ) → j < l.k → is_stop l.stops j ≡ true
