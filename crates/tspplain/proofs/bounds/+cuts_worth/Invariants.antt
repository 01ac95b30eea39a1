use Rattle.std.proofs.Common.{length}
use Rattle.tspplain.proofs.bounds.+cuts_worth.Given as goal

abbrev pub decreases-cuts_worth : goal.decreases-cuts_worth
decreases-cuts_worth l = length l.cuts.now
