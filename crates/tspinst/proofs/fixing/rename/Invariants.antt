use Rattle.std.proofs.Common.{◌≡◌, ◌<◌, ◌≤◌, ℕ, length}
use Rattle.std.specs.Prelude.{slice_index}
use Rattle.tspinst.specs.Fixings.{renamed}
use Rattle.tspinst.proofs.fixing.rename.Given as goal

abbrev pub invariant-loop-city : goal.invariant-loop-city
invariant-loop-city l = record {
  all : length l.names.items ≡ length l.initial.names.items;
  below : (c : ℕ) → c < l.city → slice_index l.names.items c ≡ renamed l.from l.to (slice_index l.initial.names.items c);
  above : (c : ℕ) → l.city ≤ c → slice_index l.names.items c ≡ slice_index l.initial.names.items c;
}
