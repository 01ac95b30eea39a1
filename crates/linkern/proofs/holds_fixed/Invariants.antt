use Rattle.tspdef.specs.Tours.{steps}
use Rattle.linkern.proofs.RestLemmas.{Reaches}
use Rattle.linkern.proofs.holds_fixed.Given as goal

abbrev pub invariant-loop-pair : goal.invariant-loop-pair
invariant-loop-pair l = Reaches (steps l.tour) l.pair-items l.pair-index
