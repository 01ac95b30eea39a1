use Rattle.std.proofs.Common.{◌≡◌, ◌+◌, ◌≤◌, drop}
use Rattle.tspdef.specs.Cuts.{coefficient}
use Rattle.lpcheck.specs.Rows.{cities_of_each}
use Rattle.lpcheck.proofs.row.Row.coef.Given as goal

abbrev pub invariant-loop-set : goal.invariant-loop-set
invariant-loop-set l = record {
  so_far : l.count + coefficient (cities_of_each (drop l.set-index l.set-items)) l.u l.v ≡ coefficient (cities_of_each l.set-items) l.u l.v;
  most : l.count ≤ l.set-index;
}
