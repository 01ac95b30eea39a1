use Rattle.std.proofs.Common.{length}
use Rattle.sepodd.proofs.ListLemmas.{AreKeptSoFar}
use Rattle.sepodd.proofs.uncrossing.kept.Given as goal

abbrev pub invariant-loop-group : goal.invariant-loop-group
invariant-loop-group l = AreKeptSoFar l.groups l.those.items l.rest l.marks l.marked

abbrev pub decreases-loop-group : goal.decreases-loop-group
decreases-loop-group l = length l.rest
