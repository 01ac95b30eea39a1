use Rattle.std.proofs.Common.{◌≡◌, ℕ, ◌<◌, false, length, take, slice_index_or}
use Rattle.cutform.specs.Cut.{cities_of_each}
use Rattle.sepblos.specs.Violated.{is_in_any}
use Rattle.sepblos.proofs.violated.marks_of_sets.Given as goal

abbrev pub invariant-loop-set : goal.invariant-loop-set
invariant-loop-set l = record {
  long : length l.marks.items ≡ l.n;
  marked : (city : ℕ) → city < l.n → slice_index_or l.marks.items city false ≡ is_in_any (cities_of_each (take l.set-index l.sets)) city;
}
