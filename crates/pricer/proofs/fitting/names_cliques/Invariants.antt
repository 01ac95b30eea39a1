use Rattle.std.proofs.Common.{◌≡◌, ◌↔◌, length}
use Rattle.tspdef.specs.Closings as defs
use Rattle.pricer.specs.Trails.{IsFront}
use Rattle.pricer.proofs.fitting.names_cliques.Given as goal

abbrev pub invariant-loop-q : goal.invariant-loop-q
invariant-loop-q g l = record { left : defs.NamesCliques (g.T.Trail.conditions l.trail) l.conds ↔ defs.NamesCliques (g.T.Trail.conditions l.trail) l.rest; near : IsFront (g.T.Trail.conditions l.near) (g.T.Trail.conditions l.trail); cities : g.T.Trail.cities l.near ≡ g.T.Trail.cities l.trail }

abbrev pub decreases-loop-q : goal.decreases-loop-q
decreases-loop-q g l = length l.rest
