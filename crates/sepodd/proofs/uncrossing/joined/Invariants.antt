use Rattle.std.proofs.Common.{◌≡◌, ◌<◌, ℕ, not, vec_len, slice_index}
use Rattle.sepodd.specs.Folding.{differ, joined}
use Rattle.sepodd.specs.Sides.{is_marked}
use Rattle.sepodd.proofs.uncrossing.joined.Given as goal

abbrev pub invariant-loop-k : goal.invariant-loop-k
invariant-loop-k l = record {
  size : vec_len l.all ≡ l.k;
  each : (j : ℕ) → j < l.k → slice_index l.all.items j ≡ joined (λ g. not (differ (is_marked l.marks g) l.marked)) l.to (slice_index l.numbers j);
}
