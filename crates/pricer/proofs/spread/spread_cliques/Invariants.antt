use Rattle.std.proofs.Common.{◌≡◌, ◌≤◌, ℕ, length, ◌+ℤ◌}
use Rattle.std.specs.List.{AllByRecursion}
use Rattle.tspdef.specs.Closings.{IsDualSize}
use Rattle.tspdef.specs.Bounds.{condition_rows}
use Rattle.pricer.specs.Prices.{at, held}
use Rattle.pricer.specs.Trails.{IsFront}
use Rattle.pricer.proofs.spread.spread_cliques.Given as goal

abbrev pub invariant-loop-q : goal.invariant-loop-q
invariant-loop-q g l = record {
  so_far : (c : ℕ) → at l.numbers c +ℤ held l.holder (condition_rows (g.T.Trail.conditions l.trail) l.rest) c ≡ at l.initial.numbers c +ℤ held l.holder (condition_rows (g.T.Trail.conditions l.trail) l.conds) c;
  sizes : AllByRecursion (λ q. IsDualSize q.1) l.rest;
  few : length l.rest ≤ length l.conds;
  near : IsFront (g.T.Trail.conditions l.near) (g.T.Trail.conditions l.trail);
  cities : g.T.Trail.cities l.near ≡ g.T.Trail.cities l.trail;
}

abbrev pub decreases-loop-q : goal.decreases-loop-q
decreases-loop-q g l = length l.rest
