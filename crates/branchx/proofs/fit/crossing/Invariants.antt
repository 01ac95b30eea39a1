use Rattle.std.proofs.Common.{◌≡◌, take}
use Rattle.tspdef.specs.Sets.{has}
use Rattle.maxflow.specs.Crossings.{crossing}
use Rattle.branchx.proofs.fit.crossing.Given as goal

abbrev pub invariant-loop-entry : goal.invariant-loop-entry
invariant-loop-entry l = l.weight ≡ crossing (take l.entry-index l.x.entries) (has l.set.cities)
