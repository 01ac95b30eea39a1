use Rattle.std.proofs.Common.{◌≡◌, ◌<◌, ℕ, length}
use Rattle.std.specs.Prelude.{slice_index}
use Rattle.fracgraph.proofs.labels.own_parents.Given as goal

abbrev pub invariant-loop-city : goal.invariant-loop-city
invariant-loop-city l = record {
  long : length l.parents.items ≡ l.city;
  own : (c : ℕ) → c < l.city → slice_index l.parents.items c ≡ c;
}
