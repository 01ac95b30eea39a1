use Rattle.std.proofs.Common.{◌≡◌, take, filter}
use Rattle.cutpool.specs.Pool.{misses}
use Rattle.cutpool.proofs.pool.CutPool.violated.Given as goal

abbrev pub invariant-loop-cut : goal.invariant-loop-cut
invariant-loop-cut l = l.found.items ≡ filter (misses l.x) (take l.cut-index l.cut-items)
