use Rattle.std.proofs.Common.{◌≡◌, ℕ, ◌<◌, length}
use Rattle.std.specs.Prelude.{pos, slice_index_or}
use Rattle.onetree.specs.OneTrees.{reduced}
use Rattle.onetree.proofs.frontier.from_first.Given as goal

abbrev pub invariant-loop-v : goal.invariant-loop-v
invariant-loop-v l = record {
  all : length l.least.items ≡ l.instance.n;
  same : (k : ℕ) → k < l.v → slice_index_or l.least.items k (pos 0) ≡ reduced l.instance l.duals 1 k;
}
