use Rattle.std.proofs.Common.{◌≡◌, ℕ, ◌<◌, ◌||◌, false, length, map, slice_index_or}
use Rattle.tspdef.specs.Cuts.{pair_set}
use Rattle.sepblos.specs.Violated.{is_in_any}
use Rattle.sepblos.proofs.violated.mark_pairs.Given as goal

abbrev pub decreases-loop-pair : goal.decreases-loop-pair
decreases-loop-pair l = length l.rest

abbrev pub invariant-loop-pair : goal.invariant-loop-pair
invariant-loop-pair l = record {
  long : length l.marks ≡ length l.initial.marks;
  so_far : (c : ℕ) → c < length l.initial.marks
      → (slice_index_or l.marks c false || is_in_any (map pair_set l.rest) c) ≡ (slice_index_or l.initial.marks c false || is_in_any (map pair_set l.pairs) c);
}
