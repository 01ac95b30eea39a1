use Rattle.std.proofs.Common.{◌<◌, length}
use Rattle.std.specs.List.{AllByRecursion}
use Rattle.treebook.specs.Tables.{tree_of}
use Rattle.certform.proofs.Walking.{waiting, sizes, GoesOn}
use Rattle.certform.proofs.preorder.preorder.Given as goal

abbrev pub invariant-loop-k : goal.invariant-loop-k
invariant-loop-k l = record {
  inside : AllByRecursion (λ k. k < length l.tree.nodes) l.waiting.items;
  goes : GoesOn l.tree.nodes l.order.items (waiting l.tree.nodes l.waiting.items) (tree_of l.tree.nodes);
}

abbrev pub decreases-loop-k : goal.decreases-loop-k
decreases-loop-k l = sizes (waiting l.tree.nodes l.waiting.items)
