use Rattle.std.proofs.Common.{length}
use Rattle.tspplain.proofs.paths.+is_absent.Given as goal

abbrev pub decreases-is_absent : goal.decreases-is_absent
decreases-is_absent l = length l.path.now
