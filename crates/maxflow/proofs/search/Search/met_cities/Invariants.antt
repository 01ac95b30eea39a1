use Rattle.maxflow.specs.Searches.{is_met}
use Rattle.maxflow.proofs.SideLemmas.{AreThoseBelow}
use Rattle.maxflow.proofs.search.Search.met_cities.Given as goal

abbrev pub invariant-loop-k : goal.invariant-loop-k
invariant-loop-k l = AreThoseBelow l.k (is_met l.self.rank.items) l.cities.items
