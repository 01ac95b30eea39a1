use Rattle.std.proofs.Common.{length}
use Rattle.tspplain.proofs.sets.+meet.Given as goal

abbrev pub decreases-meet : goal.decreases-meet
decreases-meet l = length l.xs.now
