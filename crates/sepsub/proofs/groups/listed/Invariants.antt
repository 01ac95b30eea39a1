use Rattle.std.proofs.Common.{slice_index}
use Rattle.tspdef.specs.Sets.{has}
use Rattle.maxflow.proofs.SideLemmas.{AreThoseBelow}
use Rattle.sepsub.proofs.groups.listed.Given as goal

abbrev pub invariant-loop-k : goal.invariant-loop-k
invariant-loop-k l = AreThoseBelow l.k (λ c. has l.side.cities (slice_index l.numbers c)) l.cities.items
