use Rattle.sepsub.specs.Grouping.{IsNumbered}
use Rattle.sepsub.proofs.groups.number.Given as goal

abbrev pub invariant-loop-k : goal.invariant-loop-k
invariant-loop-k l = IsNumbered l.k l.groups l.all
