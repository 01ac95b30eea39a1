use Rattle.std.proofs.Common.{◌≡◌, map, ◌≤ℤ◌}
use Rattle.lpcheck.specs.Rows.{reduced, lower_side}
use Rattle.lpcheck.specs.Rests.{AreDuals}
use Rattle.lpcheck.proofs.leap.leap.Given as goal

abbrev pub invariant-loop : goal.invariant-loop
invariant-loop l = record {
  duals : AreDuals l.rows l.ys;
  costs : l.rs ≡ map (reduced l.rows l.ys) l.cols;
  better : lower_side l.rows l.cols l.initial.ys ≤ℤ lower_side l.rows l.cols l.ys;
}
