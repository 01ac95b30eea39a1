use Rattle.std.proofs.Common.{◌<◌, ◌≤◌, max}
use Rattle.tspplain.specs.Crossings.{IsLeastCrossing}
use Rattle.tspplain.proofs.separation.least_of_all.Given as goal

abbrev pub invariant-loop-set : goal.invariant-loop-set
invariant-loop-set l = record {
  end : l.set ≤ max 1 l.set-end;
  least : IsLeastCrossing l.x.entries l.set (λ s. 0 < s) l.least;
}
