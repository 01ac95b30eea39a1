use Rattle.std.proofs.Common.{◌≡◌, drop}
use Rattle.lpcheck.specs.Rows.{cities_of_each}
use Rattle.nodelp.specs.Holding.{is_joined}
use Rattle.nodelp.proofs.pricing.is_joined.Given as goal

abbrev pub invariant-loop-set : goal.invariant-loop-set
invariant-loop-set l = is_joined (cities_of_each (drop l.set-index l.sets)) l.v ≡ is_joined (cities_of_each l.sets) l.v
