use Rattle.std.proofs.Common.{◌≡◌, ◌<◌, ℕ, length}
use Rattle.std.specs.Prelude.{slice_index}
use Rattle.tspinst.proofs.fixing.own_names.Given as goal

abbrev pub invariant-loop-city : goal.invariant-loop-city
invariant-loop-city l = record {
  all : length l.names.items ≡ l.city;
  own : (c : ℕ) → c < l.city → slice_index l.names.items c ≡ c;
}
