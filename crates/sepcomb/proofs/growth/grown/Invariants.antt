use Rattle.std.proofs.Common.{◌≡◌, ◌++◌, drop}
use Rattle.cutform.specs.Cut.{cities_of_each}
use Rattle.sepcomb.specs.Growth.{ends_of, grown}
use Rattle.sepcomb.proofs.growth.grown.Given as goal

abbrev pub invariant-loop-pair : goal.invariant-loop-pair
invariant-loop-pair l = cities_of_each l.teeth.items ++ grown l.x l.handle.cities l.used.items (drop l.pair-index l.pairs) ≡ grown l.x l.handle.cities (ends_of l.pairs) l.pairs
