use Rattle.tspengine.specs.Rounds.{IsDismissed}
use Rattle.tspengine.proofs.searching.dismiss.Given as goal

abbrev pub invariant-loop-grunt : goal.invariant-loop-grunt
invariant-loop-grunt l = IsDismissed l.initial.boss l.boss
