use Rattle.std.proofs.Common.{◌≡◌, [], take}
use Rattle.tspdef.specs.Paths.{branches}
use Rattle.branchx.specs.Cond.{conditions_of}
use Rattle.certtests.proofs.leaves.behind_fixed.Given as goal

-- all so far are fixed pairs
abbrev pub invariant-loop-place : goal.invariant-loop-place
invariant-loop-place l = branches (conditions_of (take l.place l.conditions)) ≡ []
