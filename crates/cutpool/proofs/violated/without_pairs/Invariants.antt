use Rattle.std.proofs.Common.{◌≡◌, ◌+◌, take, sum_by}
use Rattle.tspdef.specs.Cuts.{pair_set}
use Rattle.cutpool.specs.Nears.{set_weight}
use Rattle.cutpool.proofs.violated.without_pairs.Given as goal

abbrev pub invariant-loop-pair : goal.invariant-loop-pair
invariant-loop-pair l = l.left + sum_by (λ p. set_weight l.rows (pair_set p)) (take l.pair-index l.pairs) ≡ l.room
