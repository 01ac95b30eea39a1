use Rattle.std.proofs.Common.{◌≡◌, ◌++◌, take, filter}
use Rattle.tspdef.specs.Tours.{has_step}
use Rattle.neigh.proofs.walk.add_partners.Given as goal

abbrev pub invariant-loop-city : goal.invariant-loop-city
invariant-loop-city l = l.found.items ≡ l.fn.found.items ++ filter (has_step l.instance.fixed l.here) (take l.city-index l.rest)
