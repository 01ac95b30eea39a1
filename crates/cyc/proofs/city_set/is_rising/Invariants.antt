use Rattle.std.proofs.Common.{◌↔◌, ◌≤◌, drop}
use Rattle.tspdef.specs.Sets.{RisesFrom, IsSet}
use Rattle.cyc.proofs.city_set.is_rising.Given as goal

abbrev pub invariant-loop-city : goal.invariant-loop-city
invariant-loop-city l = record {
  bound : l.least ≤ l.n;
  rest : IsSet l.n l.cities ↔ RisesFrom l.n l.least (drop l.city-index l.cities);
}
