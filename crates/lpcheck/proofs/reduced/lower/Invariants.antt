use Rattle.std.proofs.Common.{◌≡◌, ◌+◌, ◌*◌, ◌^◌, drop, length}
use Rattle.std.specs.List.{All}
use Rattle.lpcheck.specs.Sizes.{IsWithin}
use Rattle.lpcheck.specs.Cells.{lowered}
use Rattle.lpcheck.proofs.reduced.lower.Given as goal

abbrev pub invariant-loop-cell : goal.invariant-loop-cell
invariant-loop-cell l = record {
  so_far : lowered l.d (drop l.cell-index l.cells) l.rs ≡ lowered l.d l.cells l.initial.rs;
  size : All (IsWithin (2 ^ 100 + 2 ^ 80 * l.cell-index)) l.rs;
  all : length l.rs ≡ length l.initial.rs;
}
