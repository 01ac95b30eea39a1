use Rattle.std.proofs.Common.{◌≡◌, ◌<◌, ℕ, length, slice_index}
use Rattle.sepodd.proofs.uncrossing.alone.Given as goal

abbrev pub invariant-loop-city : goal.invariant-loop-city
invariant-loop-city l = record {
  size : length l.numbers.items ≡ l.city;
  each : (k : ℕ) → k < l.city → slice_index l.numbers.items k ≡ k;
}
