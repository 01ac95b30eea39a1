use Rattle.std.proofs.Common.{◌≡◌, ◌+◌, ◌≤◌, drop}
use Rattle.lpcheck.specs.Rows.{cities_of_each}
use Rattle.nodelp.specs.Holding.{shared}
use Rattle.nodelp.proofs.pricing.shared.Given as goal

abbrev pub invariant-loop-set : goal.invariant-loop-set
invariant-loop-set l = record {
  so_far : l.count + shared (cities_of_each (drop l.set-index l.sets)) l.u l.v ≡ shared (cities_of_each l.sets) l.u l.v;
  most : l.count ≤ l.set-index;
}
