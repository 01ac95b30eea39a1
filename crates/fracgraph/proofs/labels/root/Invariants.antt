use Rattle.std.proofs.Common.{◌≡◌, ◌≤◌}
use Rattle.fracgraph.specs.Labels.{root_of}
use Rattle.fracgraph.proofs.labels.root.Given as goal

abbrev pub invariant-loop-here : goal.invariant-loop-here
invariant-loop-here l = record {
  least : l.here ≤ l.city;
  same : root_of l.parents l.here ≡ root_of l.parents l.city;
}

abbrev pub decreases-loop-here : goal.decreases-loop-here
decreases-loop-here l = l.here
