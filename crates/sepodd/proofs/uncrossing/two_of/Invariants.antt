use Rattle.std.proofs.Common.{length}
use Rattle.sepodd.proofs.ListLemmas.{AreOneSoFar}
use Rattle.sepodd.proofs.uncrossing.two_of.Given as goal

abbrev pub invariant-loop-group : goal.invariant-loop-group
invariant-loop-group l = AreOneSoFar l.groups l.rest l.first

abbrev pub decreases-loop-group : goal.decreases-loop-group
decreases-loop-group l = length l.rest
