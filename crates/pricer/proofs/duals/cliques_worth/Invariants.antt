use Rattle.std.proofs.Common.{◌≡◌, ◌*◌, ◌^◌, length, pos, neg_ℤ, ◌+ℤ◌, ◌-ℤ◌, ◌≤ℤ◌}
use Rattle.std.specs.List.{AllByRecursion}
use Rattle.tspdef.specs.Closings.{IsDualSize}
use Rattle.tspdef.specs.Bounds as defs
use Rattle.pricer.specs.Trails.{IsFront}
use Rattle.pricer.proofs.duals.cliques_worth.Given as goal

abbrev pub invariant-loop-q : goal.invariant-loop-q
invariant-loop-q g l = record {
  so_far : l.total +ℤ defs.worth (defs.condition_rows (g.T.Trail.conditions l.trail) l.rest) ≡ defs.worth (defs.condition_rows (g.T.Trail.conditions l.trail) l.conds);
  low : neg_ℤ (pos (2 ^ 64 * length l.conds)) ≤ℤ (l.total -ℤ pos (2 ^ 64 * length l.rest));
  high : (l.total +ℤ pos (2 ^ 64 * length l.rest)) ≤ℤ pos (2 ^ 64 * length l.conds);
  sizes : AllByRecursion (λ q. IsDualSize q.1) l.rest;
  near : IsFront (g.T.Trail.conditions l.near) (g.T.Trail.conditions l.trail);
  cities : g.T.Trail.cities l.near ≡ g.T.Trail.cities l.trail;
}

abbrev pub decreases-loop-q : goal.decreases-loop-q
decreases-loop-q g l = length l.rest
