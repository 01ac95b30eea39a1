use Rattle.std.proofs.Common.{◌≡◌, ◌<◌, ◌≤◌, ◌==◌, ℕ, length, slice_index}
use Rattle.sepodd.specs.Folding.{joined}
use Rattle.sepodd.proofs.uncrossing.merged.Given as goal

abbrev pub invariant-loop-k : goal.invariant-loop-k
invariant-loop-k l = record {
  size : length l.numbers.items ≡ length l.fn.numbers.items;
  each : (j : ℕ) → j < l.k → slice_index l.numbers.items j ≡ joined (λ g. g == l.t) l.s (slice_index l.fn.numbers.items j);
  rest : (j : ℕ) → l.k ≤ j → slice_index l.numbers.items j ≡ slice_index l.fn.numbers.items j;
}
