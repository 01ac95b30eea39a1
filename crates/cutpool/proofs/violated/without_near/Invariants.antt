use Rattle.std.proofs.Common.{◌≡◌, ◌+◌, take, sum_by}
use Rattle.tspdef.specs.Sets.{has}
use Rattle.tspdef.specs.Cuts.{pair_set}
use Rattle.cutpool.specs.Nears.{left_by}
use Rattle.cutpool.proofs.violated.without_near.Given as goal

abbrev pub invariant-loop-near : goal.invariant-loop-near
invariant-loop-near l = l.left + sum_by (left_by (has (pair_set l.pair))) (take l.near-index l.row) ≡ l.room
