use Rattle.std.proofs.Common.{◌≡◌, ℕ, ◌||◌, false, take, slice_index_or}
use Rattle.tspdef.specs.Sets.{has}
use Rattle.cutform.proofs.comb.mark.Given as goal

abbrev pub invariant-loop-city : goal.invariant-loop-city
invariant-loop-city l = (c : ℕ) → slice_index_or l.marks c false ≡ (slice_index_or l.initial.marks c false || has (take l.city-index l.cities) c)
