use Rattle.std.proofs.Common.{◌≡◌, ◌+◌, take, sum_by}
use Rattle.tspdef.specs.Sets.{has}
use Rattle.cutpool.specs.Nears.{row_weight}
use Rattle.cutpool.proofs.violated.without_set.Given as goal

abbrev pub invariant-loop-city : goal.invariant-loop-city
invariant-loop-city l = l.left + sum_by (λ c. row_weight l.rows c (has l.set.cities)) (take l.city-index l.set.cities) ≡ l.room
