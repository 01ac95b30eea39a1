use Rattle.std.proofs.Common.{◌≡◌, ◌++◌, map, drop}
use Rattle.certdef.specs.Proofs.{condition_item}
use Rattle.certform.specs.Lines.{said}
use Rattle.certform.proofs.leaf.put_condition_duals.Given as goal

abbrev pub invariant-loop-depth : goal.invariant-loop-depth
invariant-loop-depth l = l.out.items ++ said (map condition_item (drop l.depth-index l.duals)) ≡ l.initial.out.items ++ said (map condition_item l.duals)
