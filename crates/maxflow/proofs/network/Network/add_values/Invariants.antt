use Rattle.std.proofs.Common.{◌≡◌, ◌+◌, ◌%◌, ◌^◌, ◌<◌, ℕ, length, take, slice_index}
use Rattle.maxflow.specs.Crossings.{between_cities}
use Rattle.maxflow.proofs.network.Network.add_values.Given as goal

abbrev pub invariant-loop-pair : goal.invariant-loop-pair
invariant-loop-pair l = record {
  size : length l.weights ≡ length l.fn.weights;
  sums : (k : ℕ) → k < length l.fn.weights → slice_index l.weights k ≡ (slice_index l.fn.weights k + between_cities (take l.pair-index l.self.entries) l.city k) % 2 ^ 64;
}
