use Rattle.std.proofs.Common.{length}
use Rattle.tspplain.proofs.odd_cuts.+pairs_coefficient.Given as goal

abbrev pub decreases-pairs_coefficient : goal.decreases-pairs_coefficient
decreases-pairs_coefficient l = length l.pairs.now
