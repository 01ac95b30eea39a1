use Rattle.branchx.specs.Table.{IsBestBefore}
use Rattle.branchx.proofs.nearest.nearest_open.Given as goal

abbrev pub invariant-loop-u : goal.invariant-loop-u
invariant-loop-u l = IsBestBefore l.x l.table l.u 0 l.best
