use Rattle.std.proofs.Common.{◌≡◌, ◌+◌, take, sum_by}
use Rattle.tspdef.specs.Sets.{has}
use Rattle.cutpool.specs.Nears.{left_by}
use Rattle.cutpool.proofs.violated.without_row.Given as goal

abbrev pub invariant-loop-near : goal.invariant-loop-near
invariant-loop-near l = l.left + sum_by (left_by (has l.set.cities)) (take l.near-index l.row) ≡ l.room
