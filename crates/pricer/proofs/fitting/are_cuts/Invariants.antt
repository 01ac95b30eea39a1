use Rattle.std.proofs.Common.{◌↔◌, length}
use Rattle.std.specs.List.{AllByRecursion}
use Rattle.tspdef.specs.Cuts as cut_defs
use Rattle.pricer.proofs.fitting.are_cuts.Given as goal

abbrev pub invariant-loop-q : goal.invariant-loop-q
invariant-loop-q l = AllByRecursion (λ q. cut_defs.IsCut l.n q.0) l.cuts ↔ AllByRecursion (λ q. cut_defs.IsCut l.n q.0) l.rest

abbrev pub decreases-loop-q : goal.decreases-loop-q
decreases-loop-q l = length l.rest
