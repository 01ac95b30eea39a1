use Rattle.std.proofs.Common.{◌≡◌, ◌++◌, drop}
use Rattle.sepcomb.specs.Growth.{ends_of}
use Rattle.sepcomb.proofs.growth.ends_of.Given as goal

abbrev pub invariant-loop-pair : goal.invariant-loop-pair
invariant-loop-pair l = l.cities.items ++ ends_of (drop l.pair-index l.pairs) ≡ ends_of l.pairs
