use Rattle.std.proofs.Common.{◌≡◌, ◌+◌, ◌<◌, ◌≤◌, length}
use Rattle.treebook.specs.Tables.{way}
use Rattle.treebook.proofs.tree.Tree.depth_of.Given as goal

abbrev pub invariant-loop-parent : goal.invariant-loop-parent
invariant-loop-parent l = record {
  within : l.here < length l.self.nodes;
  so_far : l.depth + length (way l.self.nodes l.here) ≡ length (way l.self.nodes l.node);
  small : l.depth + l.here ≤ l.node;
}

abbrev pub decreases-loop-parent : goal.decreases-loop-parent
decreases-loop-parent l = l.here
