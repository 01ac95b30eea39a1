use Rattle.std.proofs.Common.{length}
use Rattle.tspplain.proofs.closings.+are_clique_sizes.Given as goal

abbrev pub decreases-are_clique_sizes : goal.decreases-are_clique_sizes
decreases-are_clique_sizes l = length l.conds.now
