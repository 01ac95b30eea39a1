use Rattle.std.proofs.Common.{◌≡◌, ◌++◌, take, filter}
use Rattle.neigh.specs.Walk.{is_end}
use Rattle.neigh.proofs.walk.add_ends.Given as goal

abbrev pub invariant-loop-city : goal.invariant-loop-city
invariant-loop-city l = l.found.items ≡ l.fn.found.items ++ filter (is_end l.instance.fixed) (take l.city-index l.rest)
