use Rattle.std.proofs.Common.{◌≡◌, take}
use Rattle.tspdef.specs.Paths.{fixed_conditions}
use Rattle.branchx.specs.Cond.{conditions_of}
use Rattle.branchx.proofs.path.fixed_conds.Given as goal

abbrev pub invariant-loop-u : goal.invariant-loop-u
invariant-loop-u l = conditions_of l.conditions.items ≡ fixed_conditions (take l.u-index l.fixed)
