use Rattle.std.proofs.Common.{◌≡◌, length, map, take, drop}
use Rattle.lpcheck.specs.Cells.{cells_of}
use Rattle.lpcheck.proofs.cells.widen.Given as goal

abbrev pub invariant-loop-at : goal.invariant-loop-at
invariant-loop-at l = record {
  wide : take l.at l.table.items ≡ map (cells_of l.cols) (take l.at l.rows);
  rest : drop l.at l.table.items ≡ drop l.at l.initial.table.items;
  size : length l.table.items ≡ length l.initial.table.items;
}
