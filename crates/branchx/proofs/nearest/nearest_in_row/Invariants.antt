use Rattle.branchx.specs.Table.{IsBestBefore}
use Rattle.branchx.proofs.nearest.nearest_in_row.Given as goal

abbrev pub invariant-loop-v : goal.invariant-loop-v
invariant-loop-v l = IsBestBefore l.x l.table l.u l.v l.best
