use Rattle.std.proofs.Common.{◌≡◌, map, take}
use Rattle.lpcheck.specs.Rows.{reduced}
use Rattle.lpcheck.proofs.reduced.lower_by_rows.Given as goal

abbrev pub invariant-loop-at : goal.invariant-loop-at
invariant-loop-at l = l.rs ≡ map (reduced (take l.at l.rows) (take l.at l.ys)) l.cols
