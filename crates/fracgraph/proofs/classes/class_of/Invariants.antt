use Rattle.std.proofs.Common.{◌≡◌, ◌<◌, ◌≤◌, ◌-◌, length}
use Rattle.std.specs.Prelude.{slice_index}
use Rattle.fracgraph.specs.Labels.{IsClass}
use Rattle.fracgraph.proofs.classes.class_of.Given as goal

abbrev pub invariant-loop-here : goal.invariant-loop-here
invariant-loop-here l = record {
  within : l.here ≤ length l._labels;
  same : l.here < length l._labels → slice_index l._labels l.here ≡ l.city;
  so_far : IsClass l.here l._labels l.city l.cities.items;
}

abbrev pub decreases-loop-here : goal.decreases-loop-here
decreases-loop-here l = length l._labels - l.here
