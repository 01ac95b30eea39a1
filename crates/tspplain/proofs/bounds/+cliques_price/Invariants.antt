use Rattle.std.proofs.Common.{length}
use Rattle.tspplain.proofs.bounds.+cliques_price.Given as goal

abbrev pub decreases-cliques_price : goal.decreases-cliques_price
decreases-cliques_price l = length l.conds.now
