use Rattle.std.proofs.Common.{◌≡◌, ◌<◌, ℕ, length}
use Rattle.std.specs.Prelude.{slice_index}
use Rattle.pricer.proofs.rays.own_labels.Given as goal

abbrev pub invariant-loop-city : goal.invariant-loop-city
invariant-loop-city l = record {
  long : length l.labels.items ≡ l.city;
  own : (v : ℕ) → v < l.city → slice_index l.labels.items v ≡ v;
}
