use Rattle.std.proofs.Common.{◌<◌}
use Rattle.branchx.specs.Branch.{IsSplit}
use Rattle.treebook.specs.Tree.{branch_of}
use Rattle.worker.specs.Splits.{IsEdge}
use Rattle.grunt.proofs.probes.probed.Given as goal

abbrev pub invariant-loop-place : goal.invariant-loop-place
invariant-loop-place l = IsSplit l.path.n l.path.conditions l.best × (l.path.n < 6 → IsEdge (branch_of l.best))
