use Rattle.std.proofs.Common.{◌≡◌, ◌<◌, ◌-◌, ◌++◌}
use Rattle.std.specs.List.{AllByRecursion}
use Rattle.tspdef.specs.Tours.{AreDistinct}
use Rattle.neigh.specs.Walk.{walk_on, nearest_walk}
use Rattle.neigh.proofs.walk.walk_cities.Given as goal

abbrev pub invariant-loop-step : goal.invariant-loop-step
invariant-loop-step l = record {
  here : l.here < l.instance.n;
  below : AllByRecursion (λ c. c < l.instance.n) l.rest.items;
  distinct : AreDistinct l.rest.items;
  walk : l.walk.items ++ walk_on l.instance (l.instance.n - l._step) l.here l.rest.items ≡ nearest_walk l.instance;
}
