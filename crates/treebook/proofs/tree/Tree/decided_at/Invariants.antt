use Rattle.std.proofs.Common.{◌≡◌, ◌<◌, length}
use Rattle.tspdef.specs.Paths.{is_decided}
use Rattle.treebook.specs.Tables.{path_at}
use Rattle.treebook.proofs.tree.Tree.decided_at.Given as goal

abbrev pub invariant-loop-parent : goal.invariant-loop-parent
invariant-loop-parent l = record {
  within : l.here < length l.self.nodes;
  so_far : is_decided (path_at l.self.fixed l.self.nodes l.here) l.u l.v ≡ is_decided (path_at l.self.fixed l.self.nodes l.node) l.u l.v;
}

abbrev pub decreases-loop-parent : goal.decreases-loop-parent
decreases-loop-parent l = l.here
