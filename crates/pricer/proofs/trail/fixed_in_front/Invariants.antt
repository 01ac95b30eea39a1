use Rattle.std.proofs.Common.{◌≡◌, ◌+◌, drop}
use Rattle.branchx.specs.Cond as cond
use Rattle.pricer.specs.Trails.{fixed_in_front}
use Rattle.pricer.proofs.trail.fixed_in_front.Given as goal

abbrev pub invariant-loop-condition : goal.invariant-loop-condition
invariant-loop-condition l = record {
  all : l.count ≡ l.condition-index;
  left : l.count + fixed_in_front (cond.conditions_of (drop l.condition-index l.conditions)) ≡ fixed_in_front (cond.conditions_of l.conditions);
}
