use Rattle.std.proofs.Common.{◌≡◌, ◌+◌, ◌≤◌, drop}
use Rattle.tspdef.specs.Sets.{has}
use Rattle.tspdef.specs.Tours.{steps, crossings}
use Rattle.cyc.proofs.Turns.{turns}
use Rattle.cyc.proofs.tour.count_crossings.Given as goal

abbrev pub invariant-loop-city : goal.invariant-loop-city
invariant-loop-city l = record {
  bound : l.count ≤ l.city-index;
  rest : l.count + turns (has l.set.cities) l.home l.inside (drop l.city-index l.cities) ≡ crossings (has l.set.cities) (steps l.cities);
}
