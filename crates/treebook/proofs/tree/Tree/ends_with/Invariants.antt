use Rattle.std.proofs.Common.{◌≡◌, ◌↔◌, ◌<◌, length}
use Rattle.branchx.specs.Cond.{conditions_of}
use Rattle.treebook.specs.Tables.{path_at}
use Rattle.treebook.proofs.tree.Tree.ends_with.Given as goal

abbrev pub invariant-loop-parent : goal.invariant-loop-parent
invariant-loop-parent l = record {
  within : l.here < length l.self.nodes;
  left : (conditions_of l.rest ≡ path_at l.self.fixed l.self.nodes l.here) ↔ (conditions_of l.conditions ≡ path_at l.self.fixed l.self.nodes l.node);
}

abbrev pub decreases-loop-parent : goal.decreases-loop-parent
decreases-loop-parent l = l.here
