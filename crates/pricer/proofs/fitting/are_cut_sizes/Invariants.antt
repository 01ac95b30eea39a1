use Rattle.std.proofs.Common.{◌↔◌, length}
use Rattle.std.specs.List.{AllByRecursion}
use Rattle.tspdef.specs.Closings as defs
use Rattle.pricer.proofs.fitting.are_cut_sizes.Given as goal

abbrev pub invariant-loop-q : goal.invariant-loop-q
invariant-loop-q l = AllByRecursion (λ q. defs.IsDualSize q.1) l.cuts ↔ AllByRecursion (λ q. defs.IsDualSize q.1) l.rest

abbrev pub decreases-loop-q : goal.decreases-loop-q
decreases-loop-q l = length l.rest
