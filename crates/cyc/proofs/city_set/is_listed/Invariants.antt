use Rattle.std.proofs.Common.{◌≡◌, drop}
use Rattle.tspdef.specs.Sets.{has}
use Rattle.cyc.proofs.city_set.is_listed.Given as goal

abbrev pub invariant-loop-listed : goal.invariant-loop-listed
invariant-loop-listed l = record {
  rest : has l.cities l.city ≡ has (drop l.listed-index l.cities) l.city;
}
