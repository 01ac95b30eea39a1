use Rattle.std.proofs.Common.{ℕ, ◌<◌, subst, length}
use Rattle.tspdef.specs.Paths.{IsPath}
use Rattle.treebook.specs.Tables.{path_at}
use Rattle.treebook.specs.Tree.{Table, nodes_of}
use Rattle.treebook.proofs.TreeLemmas.{paths_are_paths}
use Rattle.treebook.proofs.tree.Tree.n.Goals as goal

pub returns-clause-paths : goal.returns-clause-paths
returns-clause-paths c = subst (λ (t : Table). (k : ℕ) → k < length t.nodes → IsPath c.self.inside.n (path_at t.fixed t.nodes k)) c.self.view_is
    (λ k m. paths_are_paths c.self.inside.n c.self.inside.fixed.items (nodes_of c.self.inside.nodes.items) k c.self.invariant.is_table m)
