use Rattle.std.proofs.Common.{◌≡◌, ℕ, ◌-◌, ◌<◌, ◌≤◌, false}
use Rattle.tspdef.specs.Distances.{is_enough}
use Rattle.tspplain.specs.Values.{rule_of}
use Rattle.tspplain.proofs.distances.root.Given as goal

abbrev pub invariant-loop-k : goal.invariant-loop-k
invariant-loop-k l = record {
  below : l.k ≤ l.s;
  none : (j : ℕ) → j < l.k → is_enough (rule_of l.rule) l.s j ≡ false;
}

abbrev pub decreases-loop-k : goal.decreases-loop-k
decreases-loop-k l = l.s - l.k
