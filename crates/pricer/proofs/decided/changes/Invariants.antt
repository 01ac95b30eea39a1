use Rattle.std.proofs.Common.{◌≡◌, length, ◌+ℤ◌}
use Rattle.tspdef.specs.Paths.{IsPath}
use Rattle.tspdef.specs.Bounds as defs
use Rattle.pricer.specs.Prices.{terms}
use Rattle.pricer.proofs.decided.changes.Given as goal

abbrev pub invariant-loop-next : goal.invariant-loop-next
invariant-loop-next g l = record {
  so_far : l.total +ℤ terms l.instance.n (defs.reduced_cost l.instance (g.T.Trail.conditions l.trail) l.closing) (g.T.Trail.conditions l.here) ≡ terms l.instance.n (defs.reduced_cost l.instance (g.T.Trail.conditions l.trail) l.closing) (g.T.Trail.conditions l.trail);
  is_path : IsPath l.instance.n (g.T.Trail.conditions l.here);
}

abbrev pub decreases-loop-next : goal.decreases-loop-next
decreases-loop-next g l = length (g.T.Trail.conditions l.here)
