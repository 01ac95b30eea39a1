use Rattle.std.proofs.Common.{◌<◌, length}
use Rattle.tspdef.specs.Paths.{IsNew}
use Rattle.treebook.specs.Tables.{path_at}
use Rattle.treebook.proofs.tree.Tree.new_at.Given as goal

abbrev pub invariant-loop-parent : goal.invariant-loop-parent
invariant-loop-parent l = record {
  within : l.here < length l.self.nodes;
  down : IsNew l.self.n (path_at l.self.fixed l.self.nodes l.here) l.set.cities → IsNew l.self.n (path_at l.self.fixed l.self.nodes l.node) l.set.cities;
  up : IsNew l.self.n (path_at l.self.fixed l.self.nodes l.node) l.set.cities → IsNew l.self.n (path_at l.self.fixed l.self.nodes l.here) l.set.cities;
}

abbrev pub decreases-loop-parent : goal.decreases-loop-parent
decreases-loop-parent l = l.here
