use Rattle.std.proofs.Common.{◌≡◌, ◌<◌, ℕ, vec_len, slice_index}
use Rattle.tspdef.specs.Fixed.{pairs_at}
use Rattle.neigh.proofs.walk.fixed_counts.Given as goal

abbrev pub invariant-loop-city : goal.invariant-loop-city
invariant-loop-city l = record {
  size : vec_len l.counts ≡ l.city;
  counts : (c : ℕ) → c < l.city → slice_index l.counts.items c ≡ pairs_at l.instance.fixed c;
}
