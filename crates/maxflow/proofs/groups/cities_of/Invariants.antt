use Rattle.maxflow.specs.Shrinking.{in_group}
use Rattle.maxflow.proofs.SideLemmas.{AreThoseBelow}
use Rattle.maxflow.proofs.groups.cities_of.Given as goal

abbrev pub invariant-loop-k : goal.invariant-loop-k
invariant-loop-k l = AreThoseBelow l.k (in_group l.groups l.a) l.cities.items
