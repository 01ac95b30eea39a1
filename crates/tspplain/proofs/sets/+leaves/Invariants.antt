use Rattle.std.proofs.Common.{length}
use Rattle.tspplain.proofs.sets.+leaves.Given as goal

abbrev pub decreases-leaves : goal.decreases-leaves
decreases-leaves l = length l.xs.now
