use Rattle.std.proofs.Common.{◌≡◌, take}
use Rattle.branchx.proofs.path.copy_conditions.Given as goal

abbrev pub invariant-loop-cond : goal.invariant-loop-cond
invariant-loop-cond l = l.copies.items ≡ take l.cond-index l.conditions
