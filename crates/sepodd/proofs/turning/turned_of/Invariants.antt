use Rattle.std.proofs.Common.{length}
use Rattle.sepodd.proofs.TurningLemmas.{AreTurnedSoFar}
use Rattle.sepodd.proofs.turning.turned_of.Given as goal

abbrev pub invariant-loop-entry : goal.invariant-loop-entry
invariant-loop-entry l = AreTurnedSoFar l.x l.entries l.rest l.initial.best.weight l.best

abbrev pub decreases-loop-entry : goal.decreases-loop-entry
decreases-loop-entry l = length l.rest
