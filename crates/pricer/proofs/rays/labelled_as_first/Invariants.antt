use Rattle.std.proofs.Common.{◌≡◌, ◌&&◌, ℕ}
use Rattle.std.specs.Prelude.{slice_index, nat_lt, ◌==◌}
use Rattle.tspdef.specs.Sets.{has, IsSet}
use Rattle.pricer.proofs.rays.labelled_as_first.Given as goal

abbrev pub invariant-loop-city : goal.invariant-loop-city
invariant-loop-city l = record {
  set : IsSet l.city l.cities.items;
  members : (c : ℕ) → has l.cities.items c ≡ (nat_lt c l.city && (slice_index l.labels c == l.home));
}
