use Rattle.std.proofs.Common.{length}
use Rattle.tspplain.proofs.tours.+walked.Given as goal

abbrev pub decreases-walked : goal.decreases-walked
decreases-walked l = length l.rest.now
