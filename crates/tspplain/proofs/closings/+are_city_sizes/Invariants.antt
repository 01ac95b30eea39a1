use Rattle.std.proofs.Common.{length}
use Rattle.tspplain.proofs.closings.+are_city_sizes.Given as goal

abbrev pub decreases-are_city_sizes : goal.decreases-are_city_sizes
decreases-are_city_sizes l = length l.city.now
