use Rattle.std.proofs.Common.{◌≤◌, ◌-◌, pos, ◌≤ℤ◌}
use Rattle.lpcheck.specs.Steps.{IsFound}
use Rattle.lpcheck.proofs.BestSteps.{NoneBelow}
use Rattle.lpcheck.proofs.step.best_step.Given as goal

abbrev pub invariant-loop-power : goal.invariant-loop-power
invariant-loop-power l = record {
  most : l.power ≤ 62;
  least : 10 ≤ l.power;
  found : pos 1024 ≤ℤ l.best.gain → IsFound l.place.sense l.place.rhs l.pieces l.place.y l.best.next l.best.gain;
  none : NoneBelow l.place.sense l.place.rhs l.pieces l.place.y l.power l.best.gain;
}

abbrev pub decreases-loop-power : goal.decreases-loop-power
decreases-loop-power l = 62 - l.power
