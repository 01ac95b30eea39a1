use Rattle.std.proofs.Common.{length}
use Rattle.tspplain.proofs.closings.+names_cliques.Given as goal

abbrev pub decreases-names_cliques : goal.decreases-names_cliques
decreases-names_cliques l = length l.conds.now
