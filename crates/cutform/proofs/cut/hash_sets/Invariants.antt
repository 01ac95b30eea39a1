use Rattle.std.proofs.Common.{◌≡◌, take, fold}
use Rattle.std.specs.List.{flat_map}
use Rattle.std.specs.Hash as fed
use Rattle.cutform.specs.Cut.{cities_of_each}
use Rattle.cutform.proofs.cut.hash_sets.Given as goal

abbrev pub invariant-loop-set : goal.invariant-loop-set
invariant-loop-set g l = l.state ≡ fold g.H.Hasher.write l.initial.state (flat_map (fed.slice fed.u32) (cities_of_each (take l.set-index l.sets)))
