use Rattle.std.proofs.Common.{length}
use Rattle.tspplain.proofs.bounds.+cliques_worth.Given as goal

abbrev pub decreases-cliques_worth : goal.decreases-cliques_worth
decreases-cliques_worth l = length l.conds.now
