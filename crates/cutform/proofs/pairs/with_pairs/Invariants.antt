use Rattle.std.proofs.Common.{◌≡◌, ◌++◌, length, map}
use Rattle.tspdef.specs.Cuts.{pair_set}
use Rattle.cutform.specs.Odds.{ArePairs}
use Rattle.cutform.specs.Cut.{cities_of_each}
use Rattle.cutform.proofs.pairs.with_pairs.Given as goal

abbrev pub invariant-loop-pair : goal.invariant-loop-pair
invariant-loop-pair l = record {
  sets : cities_of_each l.all.items ++ map pair_set l.rest ≡ cities_of_each l.initial.all.items ++ map pair_set l.pairs;
  pairs : ArePairs l.n l.rest;
}

abbrev pub decreases-loop-pair : goal.decreases-loop-pair
decreases-loop-pair l = length l.rest
