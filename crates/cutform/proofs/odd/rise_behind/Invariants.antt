use Rattle.std.proofs.Common.{◌↔◌, length}
use Rattle.tspdef.specs.Fixed.{PairsRise}
use Rattle.cutform.proofs.odd.rise_behind.Given as goal

abbrev pub invariant-loop-pair : goal.invariant-loop-pair
invariant-loop-pair l = PairsRise l.initial.last l.pairs ↔ PairsRise l.last l.rest

abbrev pub decreases-loop-pair : goal.decreases-loop-pair
decreases-loop-pair l = length l.rest
