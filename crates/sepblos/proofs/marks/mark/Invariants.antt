use Rattle.std.proofs.Common.{◌≡◌, ℕ, ◌<◌, ◌||◌, false, length, take, slice_index_or}
use Rattle.tspdef.specs.Sets.{has}
use Rattle.sepblos.proofs.marks.mark.Given as goal

abbrev pub invariant-loop-city : goal.invariant-loop-city
invariant-loop-city l = record {
  long : length l.marks ≡ length l.initial.marks;
  marked : (c : ℕ) → c < length l.initial.marks → slice_index_or l.marks c false ≡ (slice_index_or l.initial.marks c false || has (take l.city-index l.cities) c);
}
