use Rattle.std.proofs.Common.{◌≡◌, drop, length, ℤ, ◌+ℤ◌}
use Rattle.lpcheck.specs.Steps.{pieces_gain, cells_gain}
use Rattle.lpcheck.proofs.step.pieces_of.Given as goal

abbrev pub invariant-loop-cell : goal.invariant-loop-cell
invariant-loop-cell l = record {
  gains : (d : ℤ) → pieces_gain l.pieces.items d +ℤ cells_gain l.cols l.rs (drop l.cell-index l.cells) d ≡ cells_gain l.cols l.rs l.cells d;
  few : length l.pieces.items ≡ l.cell-index;
}
