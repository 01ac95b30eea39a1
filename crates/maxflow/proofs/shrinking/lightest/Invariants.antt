use Rattle.std.proofs.Common.{◌<◌, ◌≤◌, ℕ, length, slice_index}
use Rattle.maxflow.proofs.shrinking.lightest.Given as goal

abbrev pub invariant-loop-city : goal.invariant-loop-city
invariant-loop-city l = record {
  inside : l.best < length l.degrees;
  least : (k : ℕ) → k < l.city → slice_index l.degrees l.best ≤ slice_index l.degrees k;
}
