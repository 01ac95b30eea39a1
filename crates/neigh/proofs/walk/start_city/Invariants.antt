use Rattle.std.proofs.Common.{◌≡◌, ◌-◌, filter}
use Rattle.std.specs.List.{range_with_len}
use Rattle.neigh.specs.Walk.{is_end, lowest_of, start_city}
use Rattle.neigh.proofs.walk.start_city.Given as goal

abbrev pub invariant-loop-city : goal.invariant-loop-city
invariant-loop-city l = lowest_of (filter (is_end l.instance.fixed) (range_with_len l.city (l.instance.n - l.city))) ≡ start_city l.instance
