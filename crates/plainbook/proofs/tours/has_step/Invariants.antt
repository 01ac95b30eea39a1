use Rattle.std.proofs.Common.{◌≡◌, length}
use Rattle.tspdef.specs.Tours as defs
use Rattle.plainbook.proofs.tours.has_step.Given as goal

abbrev pub invariant-loop-next : goal.invariant-loop-next
invariant-loop-next l = defs.has_step (defs.walk l.home l.here l.rest) l.u l.v ≡ defs.has_step (defs.steps l.cities) l.u l.v

abbrev pub decreases-loop-next : goal.decreases-loop-next
decreases-loop-next l = length l.rest
