use Rattle.neigh.specs.Walk.{nearest_walk}
use Rattle.neigh.proofs.FixedWalks.{walk_is_tour}
use Rattle.neigh.proofs.walk.tours_exist.Goals as goal

pub returns : goal.returns
returns c = λ i is. (nearest_walk i, walk_is_tour i is)
