use Rattle.tspdef.specs.Sets.{IsSet}
use Rattle.intervalcombs.proofs.handles.marked_set.Given as goal

abbrev pub invariant-loop-city : goal.invariant-loop-city
invariant-loop-city l = IsSet l.city l.cities.items
