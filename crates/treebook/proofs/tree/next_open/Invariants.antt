use Rattle.treebook.specs.Tables.{NoneOpen}
use Rattle.treebook.specs.Tree.{nodes_of}
use Rattle.treebook.proofs.tree.next_open.Given as goal

abbrev pub invariant-loop-k : goal.invariant-loop-k
invariant-loop-k l = NoneOpen (nodes_of l.nodes) l.from l.k
