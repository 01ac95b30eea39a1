use Rattle.std.proofs.Common.{length}
use Rattle.tspplain.proofs.bounds.+cuts_price.Given as goal

abbrev pub decreases-cuts_price : goal.decreases-cuts_price
decreases-cuts_price l = length l.cuts.now
