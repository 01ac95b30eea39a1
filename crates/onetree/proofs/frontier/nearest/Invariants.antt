use Rattle.onetree.specs.Growing.{IsLeastOut}
use Rattle.onetree.proofs.frontier.nearest.Given as goal

abbrev pub invariant-loop-v : goal.invariant-loop-v
invariant-loop-v l = IsLeastOut l.inside l.least l.v l.best
