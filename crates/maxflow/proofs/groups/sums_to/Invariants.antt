use Rattle.std.proofs.Common.{◌≡◌, ◌%◌, ◌^◌, ◌<◌, ℕ, length, take, slice_index}
use Rattle.maxflow.specs.Crossings.{between}
use Rattle.maxflow.specs.Shrinking.{in_group}
use Rattle.maxflow.proofs.groups.sums_to.Given as goal

abbrev pub invariant-loop-entry : goal.invariant-loop-entry
invariant-loop-entry l = record {
  size : length l.values.items ≡ l.n;
  sums : (k : ℕ) → k < l.n → slice_index l.values.items k ≡ between (take l.entry-index l.entries) (in_group l.groups l.a) (in_group l.groups k) % 2 ^ 64;
}
