use Rattle.std.proofs.Common.{◌≡◌, map, take}
use Rattle.lpcheck.specs.Cells.{cells_of}
use Rattle.lpcheck.proofs.cells.grow_table.Given as goal

abbrev pub invariant-loop-at : goal.invariant-loop-at
invariant-loop-at l = l.whole.items ≡ map (cells_of l.cols) (take l.at l.rows)
