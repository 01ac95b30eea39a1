use Rattle.std.proofs.Common.{length}
use Rattle.tspplain.proofs.cuts.+coefficient.Given as goal

abbrev pub decreases-coefficient : goal.decreases-coefficient
decreases-coefficient l = length l.sets.now
