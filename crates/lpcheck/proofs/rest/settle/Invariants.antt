use Rattle.std.proofs.Common.{◌≡◌, map, ◌^◌, pos, ◌-ℤ◌}
use Rattle.lpcheck.specs.Rows.{reduced, lower_side}
use Rattle.lpcheck.specs.Rests.{AreDuals}
use Rattle.lpcheck.specs.Steps.{room}
use Rattle.lpcheck.proofs.rest.settle.Given as goal

abbrev pub invariant-loop-from : goal.invariant-loop-from
invariant-loop-from l = record {
  duals : AreDuals l.rows l.ys;
  costs : l.rs ≡ map (reduced l.rows l.ys) l.cols;
}

abbrev pub decreases-loop-from : goal.decreases-loop-from
decreases-loop-from l = room (pos (2 ^ 126) -ℤ lower_side l.rows l.cols l.ys)
