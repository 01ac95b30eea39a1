use Rattle.std.proofs.Common.{take}
use Rattle.branchx.specs.Cond.{conditions_of}
use Rattle.pricer.specs.Rays.{AreLabels}
use Rattle.pricer.proofs.rays.merge_all.Given as goal

abbrev pub invariant-loop-condition : goal.invariant-loop-condition
invariant-loop-condition l = AreLabels l.n (conditions_of (take l.condition-index l.conditions)) l.labels
