use Rattle.std.proofs.Common.{◌≡◌, take}
use Rattle.simplex.specs.Columns.{values_at}
use Rattle.simplex.proofs.made.values_of.Given as goal

abbrev pub invariant-loop-column : goal.invariant-loop-column
invariant-loop-column l = l.xs.items ≡ values_at l.x (take l.column-index l.cols)
