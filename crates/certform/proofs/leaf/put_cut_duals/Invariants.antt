use Rattle.std.proofs.Common.{◌≡◌, ◌++◌, map, drop}
use Rattle.certdef.specs.Proofs.{cut_item}
use Rattle.certform.specs.Lines.{said}
use Rattle.certform.proofs.leaf.put_cut_duals.Given as goal

abbrev pub invariant-loop-number : goal.invariant-loop-number
invariant-loop-number l = l.out.items ++ said (map cut_item (drop l.number-index l.duals)) ≡ l.initial.out.items ++ said (map cut_item l.duals)
