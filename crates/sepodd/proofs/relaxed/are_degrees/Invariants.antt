use Rattle.std.proofs.Common.{◌<◌, ◌==◌, ℕ, pos}
use Rattle.std.specs.Prelude.{◌≤ℤ◌}
use Rattle.maxflow.specs.Crossings.{crossing_weight}
use Rattle.sepodd.proofs.relaxed.are_degrees.Given as goal

abbrev pub invariant-loop-k : goal.invariant-loop-k
invariant-loop-k l = (j : ℕ) → j < l.k → crossing_weight l.x (λ i. i == j) ≤ℤ pos 2098176
