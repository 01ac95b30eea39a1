use Rattle.std.proofs.Common.{◌==◌}
use Rattle.maxflow.proofs.SideLemmas.{AreThoseBelow}
use Rattle.sepodd.specs.Folding.{is_odd}
use Rattle.sepodd.proofs.uncrossing.odd_cities.Given as goal

abbrev pub invariant-loop-k : goal.invariant-loop-k
invariant-loop-k l = AreThoseBelow l.k (λ k. is_odd l.x.entries (λ j. j == k)) l.cities.items
