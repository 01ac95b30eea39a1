use Rattle.std.proofs.Common.{◌≡◌, ◌+◌, take, sum_by}
use Rattle.cutpool.specs.Nears.{set_weight}
use Rattle.cutpool.proofs.violated.without_sets.Given as goal

abbrev pub invariant-loop-set : goal.invariant-loop-set
invariant-loop-set l = l.left + sum_by (λ s. set_weight l.rows s.cities) (take l.set-index l.sets) ≡ l.room
