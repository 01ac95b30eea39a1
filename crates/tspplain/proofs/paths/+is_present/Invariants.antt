use Rattle.std.proofs.Common.{length}
use Rattle.tspplain.proofs.paths.+is_present.Given as goal

abbrev pub decreases-is_present : goal.decreases-is_present
decreases-is_present l = length l.path.now
