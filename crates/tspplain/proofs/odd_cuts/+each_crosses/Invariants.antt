use Rattle.std.proofs.Common.{length}
use Rattle.tspplain.proofs.odd_cuts.+each_crosses.Given as goal

abbrev pub decreases-each_crosses : goal.decreases-each_crosses
decreases-each_crosses l = length l.pairs.now
