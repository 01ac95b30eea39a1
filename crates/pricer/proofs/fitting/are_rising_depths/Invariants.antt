use Rattle.std.proofs.Common.{◌↔◌, length}
use Rattle.tspdef.specs.Closings as defs
use Rattle.pricer.proofs.fitting.are_rising_depths.Given as goal

abbrev pub invariant-loop-q : goal.invariant-loop-q
invariant-loop-q l = defs.DepthsRise 0 l.conds ↔ defs.DepthsRise l.last l.rest

abbrev pub decreases-loop-q : goal.decreases-loop-q
decreases-loop-q l = length l.rest
