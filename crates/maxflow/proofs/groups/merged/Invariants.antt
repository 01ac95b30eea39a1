use Rattle.std.proofs.Common.{◌≡◌, ◌<◌, ◌≤◌, ℕ, length, slice_index}
use Rattle.maxflow.specs.Shrinking.{merged_to}
use Rattle.maxflow.proofs.groups.merged.Given as goal

abbrev pub invariant-loop-k : goal.invariant-loop-k
invariant-loop-k l = record {
  size : length l.groups.items ≡ length l.fn.groups.items;
  each : (j : ℕ) → j < l.k → slice_index l.groups.items j ≡ merged_to l.a l.b (slice_index l.fn.groups.items j);
  rest : (j : ℕ) → l.k ≤ j → slice_index l.groups.items j ≡ slice_index l.fn.groups.items j;
}
