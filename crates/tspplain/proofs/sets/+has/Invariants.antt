use Rattle.std.proofs.Common.{length}
use Rattle.tspplain.proofs.sets.+has.Given as goal

abbrev pub decreases-has : goal.decreases-has
decreases-has l = length l.xs.now
