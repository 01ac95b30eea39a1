use Rattle.tspplain.specs.Crossings.{IsLeastCrossing, IsBetween}
use Rattle.tspplain.proofs.separation.least_between.Given as goal

abbrev pub invariant-loop-set : goal.invariant-loop-set
invariant-loop-set l = IsLeastCrossing l.x.entries l.set (IsBetween l.all l.none) l.least
