use Rattle.std.proofs.Common.{length}
use Rattle.tspplain.proofs.paths.+branch_at.Given as goal

abbrev pub decreases-branch_at : goal.decreases-branch_at
decreases-branch_at l = length l.path.now
