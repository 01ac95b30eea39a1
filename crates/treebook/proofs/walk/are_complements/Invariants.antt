use Rattle.std.proofs.Common.{◌≡◌, ℕ, ◌<◌, not}
use Rattle.tspdef.specs.Sets.{has}
use Rattle.treebook.proofs.walk.are_complements.Given as goal

abbrev pub invariant-loop-city : goal.invariant-loop-city
invariant-loop-city l = (c : ℕ) → c < l.city → has l.other.cities c ≡ not (has l.set.cities c)
