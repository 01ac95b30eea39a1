use Rattle.std.proofs.Common.{◌≢◌, ◌<◌, ℕ}
use Rattle.maxflow.specs.Shrinking.{IsFirst, AreTied}
use Rattle.maxflow.proofs.groups.tied_to.Given as goal

abbrev pub invariant-loop-b : goal.invariant-loop-b
invariant-loop-b l = (k : ℕ) → IsFirst l.n l.groups k → k ≢ l.a → k < l.b → ¬ AreTied l.entries l.groups l.a k
