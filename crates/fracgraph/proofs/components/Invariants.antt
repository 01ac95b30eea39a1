use Rattle.fracgraph.proofs.ClassLemmas.{AreFound}
use Rattle.fracgraph.proofs.components.Given as goal

abbrev pub invariant-loop-city : goal.invariant-loop-city
invariant-loop-city l = AreFound l.x l.low l.high l.labels.items l.city l.sets.items
