use Rattle.std.proofs.Common.{◌≡◌, List, ap, subst, arith, length}
use Rattle.std.proofs.lemmas.List.{length-map}
use Rattle.tspdef.specs.Trees.{open_leaves}
use Rattle.treebook.specs.Tables.{Node, tree_of, NoneOpen}
use Rattle.treebook.specs.Tree.{Table, node_of, nodes_of}
use Rattle.treebook.proofs.CountLemmas.{no_leaves}
use Rattle.treebook.proofs.tree.Tree.least_open.Goals as goal

pub returns-else-self-len-clause-none : goal.returns-else-self-len-clause-none
returns-else-self-len-clause-none c =
    let front = c.self.invariant.front in
    let within = front.within in
    let ok = c.self.inside.nodes.ok.0 in
    let len = length-map c.self.inside.nodes.items node_of in
    let whole : c.self.inside.front ≡ length (nodes_of c.self.inside.nodes.items) = omega arith in
    subst (λ (ns : List Node). open_leaves (tree_of ns) ≡ 0) (ap (λ (t : Table). t.nodes) c.self.view_is)
    (no_leaves c.self.inside.n c.self.inside.fixed.items (nodes_of c.self.inside.nodes.items) c.self.invariant.is_table (subst (NoneOpen (nodes_of c.self.inside.nodes.items) 0) whole front.none_before))
