use Rattle.std.proofs.Common.{◌≡◌, ◌+◌, ◌*◌, ◌^◌, ◌≤◌, drop}
use Rattle.lpcheck.specs.Cells.{dot}
use Rattle.lpcheck.proofs.check.activity_of.Given as goal

abbrev pub invariant-loop-cell : goal.invariant-loop-cell
invariant-loop-cell l = record {
  so_far : l.total + dot (drop l.cell-index l.cells) l.xs ≡ dot l.cells l.xs;
  most : l.total ≤ 2 ^ 48 * l.cell-index;
}
