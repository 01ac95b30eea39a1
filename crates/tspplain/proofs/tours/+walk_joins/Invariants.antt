use Rattle.std.proofs.Common.{length}
use Rattle.tspplain.proofs.tours.+walk_joins.Given as goal

abbrev pub decreases-walk_joins : goal.decreases-walk_joins
decreases-walk_joins l = length l.rest.now
