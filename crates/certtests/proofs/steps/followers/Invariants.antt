use Rattle.std.proofs.Common.{length}
use Rattle.certtests.proofs.StepLemmas.{Laid}
use Rattle.certtests.proofs.steps.followers.Given as goal

abbrev pub invariant-loop-city : goal.invariant-loop-city
invariant-loop-city l = Laid l.cities l.followers.items l.behind l.rest

abbrev pub decreases-loop-city : goal.decreases-loop-city
decreases-loop-city l = length l.rest
