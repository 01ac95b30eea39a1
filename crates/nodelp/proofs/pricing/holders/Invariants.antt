use Rattle.std.proofs.Common.{◌≡◌, ◌+◌, ◌≤◌, drop}
use Rattle.lpcheck.specs.Rows.{cities_of_each}
use Rattle.nodelp.specs.Potentials.{holders}
use Rattle.nodelp.proofs.pricing.holders.Given as goal

abbrev pub invariant-loop-set : goal.invariant-loop-set
invariant-loop-set l = record {
  so_far : l.count + holders (cities_of_each (drop l.set-index l.sets)) l.v ≡ holders (cities_of_each l.sets) l.v;
  most : l.count ≤ l.set-index;
}
