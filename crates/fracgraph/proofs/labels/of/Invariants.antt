use Rattle.std.proofs.Common.{take}
use Rattle.fracgraph.specs.Labels.{AreParents}
use Rattle.fracgraph.proofs.labels.of.Given as goal

abbrev pub invariant-loop-entry : goal.invariant-loop-entry
invariant-loop-entry l = AreParents l.x l.low l.high (take l.entry-index l.x.entries) l.parents.items
