use Rattle.std.proofs.Common.{length}
use Rattle.tspplain.proofs.odd_cuts.+rise_behind.Given as goal

abbrev pub decreases-rise_behind : goal.decreases-rise_behind
decreases-rise_behind l = length l.pairs.now
