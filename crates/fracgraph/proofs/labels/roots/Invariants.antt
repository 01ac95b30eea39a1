use Rattle.std.proofs.Common.{◌≡◌, ◌<◌, ℕ, length}
use Rattle.std.specs.Prelude.{slice_index}
use Rattle.fracgraph.specs.Labels.{root_of}
use Rattle.fracgraph.proofs.labels.roots.Given as goal

abbrev pub invariant-loop-parent : goal.invariant-loop-parent
invariant-loop-parent l = record {
  long : length l.labels.items ≡ l.parent-index;
  each : (c : ℕ) → c < l.parent-index → slice_index l.labels.items c ≡ root_of l.parents c;
}
