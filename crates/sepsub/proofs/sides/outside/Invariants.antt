use Rattle.std.proofs.Common.{not}
use Rattle.tspdef.specs.Sets.{has}
use Rattle.maxflow.proofs.SideLemmas.{AreThoseBelow}
use Rattle.sepsub.proofs.sides.outside.Given as goal

abbrev pub invariant-loop-k : goal.invariant-loop-k
invariant-loop-k l = AreThoseBelow l.k (λ c. not (has l.side.cities c)) l.cities.items
