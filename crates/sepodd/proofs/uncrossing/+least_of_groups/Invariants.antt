use Rattle.std.proofs.Common.{length}
use Rattle.sepodd.proofs.uncrossing.+least_of_groups.Given as goal

abbrev pub decreases-least_of_groups : goal.decreases-least_of_groups
decreases-least_of_groups l = length l.groups.items
