use Rattle.std.proofs.Common.{◌≡◌, ◌++◌, drop}
use Rattle.lpcheck.specs.Cells.{cells_from}
use Rattle.lpcheck.proofs.cells.extend.Given as goal

abbrev pub invariant-loop-place : goal.invariant-loop-place
invariant-loop-place l = l.list.items ++ cells_from l.place l.row (drop l.place l.cols) ≡ cells_from 0 l.row l.cols
