use Rattle.std.proofs.Common.{◌≡◌, ℕ, ◌<◌, ◌≤◌, Bool, length}
use Rattle.std.specs.Prelude.{pos, slice_index, slice_index_or}
use Rattle.onetree.specs.OneTrees.{reduced}
use Rattle.onetree.specs.Growing.{AreNearest, IsNearest, with_city}
use Rattle.onetree.proofs.frontier.relax.Given as goal

abbrev pub invariant-loop-v : goal.invariant-loop-v
invariant-loop-v l = record {
  near : length l.near ≡ l.instance.n;
  least : length l.least ≡ l.instance.n;
  done : (s : ℕ → Bool) → AreNearest l.instance.n (reduced l.instance l.duals) s l.initial.near l.initial.least
      → (k : ℕ) → 0 < k → k < l.v → k < l.instance.n → IsNearest l.instance.n (reduced l.instance l.duals) (with_city s l.city) k (slice_index l.near k) (slice_index_or l.least k (pos 0));
  ahead_near : (k : ℕ) → l.v ≤ k → slice_index l.near k ≡ slice_index l.initial.near k;
  ahead_least : (k : ℕ) → l.v ≤ k → slice_index_or l.least k (pos 0) ≡ slice_index_or l.initial.least k (pos 0);
}
