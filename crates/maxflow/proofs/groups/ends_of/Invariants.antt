use Rattle.std.proofs.Common.{◌≡◌, ◌%◌, ◌^◌, ◌<◌, ◌==◌, ℕ, length, take, slice_index}
use Rattle.maxflow.specs.Crossings.{crossing}
use Rattle.maxflow.proofs.groups.ends_of.Given as goal

abbrev pub invariant-loop-entry : goal.invariant-loop-entry
invariant-loop-entry l = record {
  size : length l.degrees.items ≡ l.n;
  sums : (k : ℕ) → k < l.n → slice_index l.degrees.items k ≡ crossing (take l.entry-index l.entries) (λ j. j == k) % 2 ^ 64;
}
