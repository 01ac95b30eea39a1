use Rattle.std.proofs.Common.{length}
use Rattle.tspplain.proofs.tours.+walk_crossings.Given as goal

abbrev pub decreases-walk_crossings : goal.decreases-walk_crossings
decreases-walk_crossings l = length l.rest.now
