use Rattle.std.proofs.Common.{◌≡◌, ◌++◌, ◌<◌, length, reverse}
use Rattle.treebook.specs.Tables.{way}
use Rattle.treebook.proofs.tree.Tree.way_to.Given as goal

abbrev pub invariant-loop-parent : goal.invariant-loop-parent
invariant-loop-parent l = record {
  within : l.here < length l.self.nodes;
  so_far : way l.self.nodes l.node ≡ way l.self.nodes l.here ++ reverse l.nodes.items;
}

abbrev pub decreases-loop-parent : goal.decreases-loop-parent
decreases-loop-parent l = l.here
