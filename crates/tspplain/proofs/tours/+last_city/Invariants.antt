use Rattle.std.proofs.Common.{length}
use Rattle.tspplain.proofs.tours.+last_city.Given as goal

abbrev pub decreases-last_city : goal.decreases-last_city
decreases-last_city l = length l.rest.now
