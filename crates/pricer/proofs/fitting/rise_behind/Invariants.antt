use Rattle.std.proofs.Common.{◌↔◌, length}
use Rattle.tspdef.specs.Closings as defs
use Rattle.pricer.proofs.fitting.rise_behind.Given as goal

abbrev pub invariant-loop-q : goal.invariant-loop-q
invariant-loop-q l = defs.CutsRise l.first l.cuts ↔ defs.CutsRise l.last l.rest

abbrev pub decreases-loop-q : goal.decreases-loop-q
decreases-loop-q l = length l.rest
