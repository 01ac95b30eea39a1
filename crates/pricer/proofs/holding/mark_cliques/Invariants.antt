use Rattle.std.proofs.Common.{◌≡◌, ◌≤◌, ℕ, length, Some}
use Rattle.tspdef.specs.Bounds.{condition_rows}
use Rattle.pricer.specs.Marks.{AreMarkedUnless}
use Rattle.pricer.specs.Prices.{held}
use Rattle.pricer.specs.Trails.{IsFront}
use Rattle.pricer.proofs.holding.mark_cliques.Given as goal

abbrev pub invariant-loop-q : goal.invariant-loop-q
invariant-loop-q g l = record {
  so_far : AreMarkedUnless l.marks l.initial.marks (λ v. (c : ℕ) → held (Some v) (condition_rows (g.T.Trail.conditions l.trail) l.conds) c ≡ held (Some v) (condition_rows (g.T.Trail.conditions l.trail) l.rest) c);
  near : IsFront (g.T.Trail.conditions l.near) (g.T.Trail.conditions l.trail);
  cities : g.T.Trail.cities l.near ≡ g.T.Trail.cities l.trail;
  long : g.T.Trail.cities l.trail ≤ length l.marks;
}

abbrev pub decreases-loop-q : goal.decreases-loop-q
decreases-loop-q g l = length l.rest
