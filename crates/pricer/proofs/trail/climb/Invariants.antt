use Rattle.std.proofs.Common.{◌≡◌, length, take}
use Rattle.tspdef.specs.Paths.{branches}
use Rattle.pricer.specs.Trails.{IsFront}
use Rattle.pricer.proofs.trail.climb.Given as goal

abbrev pub invariant-loop-here : goal.invariant-loop-here
invariant-loop-here g l = record {
  depth : take l.depth (branches (g.T.Trail.conditions l.here)) ≡ take l.depth (branches (g.T.Trail.conditions l.initial.here));
  front : IsFront (g.T.Trail.conditions l.here) (g.T.Trail.conditions l.initial.here);
  cities : g.T.Trail.cities l.here ≡ g.T.Trail.cities l.initial.here;
}

abbrev pub decreases-loop-here : goal.decreases-loop-here
decreases-loop-here g l = length (g.T.Trail.conditions l.here)
