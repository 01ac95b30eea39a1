use Rattle.std.proofs.Common.{length}
use Rattle.tspplain.proofs.trees.+fix_all.Given as goal

abbrev pub decreases-fix_all : goal.decreases-fix_all
decreases-fix_all l = length l.fixed.now
