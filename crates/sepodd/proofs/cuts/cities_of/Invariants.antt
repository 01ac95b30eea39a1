use Rattle.std.proofs.Common.{not}
use Rattle.maxflow.proofs.SideLemmas.{AreThoseBelow}
use Rattle.sepodd.specs.Folding.{differ}
use Rattle.sepodd.specs.Sides.{is_marked}
use Rattle.sepodd.proofs.cuts.cities_of.Given as goal

abbrev pub invariant-loop-k : goal.invariant-loop-k
invariant-loop-k l = AreThoseBelow l.k (λ k. not (differ (is_marked l.side k) (is_marked l.side 0))) l.cities.items
