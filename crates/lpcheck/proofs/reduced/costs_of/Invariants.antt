use Rattle.std.proofs.Common.{◌≡◌, [], map, take}
use Rattle.std.specs.List.{All}
use Rattle.lpcheck.specs.Rows.{reduced, IsCheap}
use Rattle.lpcheck.proofs.reduced.costs_of.Given as goal

abbrev pub invariant-loop-column : goal.invariant-loop-column
invariant-loop-column l = record {
  so_far : l.rs.items ≡ map (reduced [] []) (take l.column-index l.cols);
  cheap : All IsCheap (take l.column-index l.cols);
}
