use Rattle.std.proofs.Common.{◌≡◌, ◌+◌, drop}
use Rattle.tspdef.specs.Cuts.{coefficient}
use Rattle.cutform.specs.Cut.{cities_of_each}
use Rattle.cutform.proofs.cut.crossed_sets.Given as goal

abbrev pub invariant-loop-set : goal.invariant-loop-set
invariant-loop-set l = l.count + coefficient (cities_of_each (drop l.set-index l.sets)) l.u l.v ≡ coefficient (cities_of_each l.sets) l.u l.v
