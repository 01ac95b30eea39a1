use Rattle.std.proofs.Common.{◌↔◌, length}
use Rattle.cutform.specs.Odds.{ArePairs}
use Rattle.cutform.proofs.odd.are_pairs.Given as goal

abbrev pub invariant-loop-pair : goal.invariant-loop-pair
invariant-loop-pair l = ArePairs l.n l.pairs ↔ ArePairs l.n l.rest

abbrev pub decreases-loop-pair : goal.decreases-loop-pair
decreases-loop-pair l = length l.rest
