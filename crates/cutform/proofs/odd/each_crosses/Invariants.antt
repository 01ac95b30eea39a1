use Rattle.std.proofs.Common.{◌↔◌, length}
use Rattle.cutform.specs.Odds.{EachCrosses}
use Rattle.cutform.proofs.odd.each_crosses.Given as goal

abbrev pub invariant-loop-pair : goal.invariant-loop-pair
invariant-loop-pair l = EachCrosses l.handle.cities l.pairs ↔ EachCrosses l.handle.cities l.rest

abbrev pub decreases-loop-pair : goal.decreases-loop-pair
decreases-loop-pair l = length l.rest
