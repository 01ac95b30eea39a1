-- The fields of a node's relaxation.
use Rattle.nodelp.specs.Node.{Node}
use Rattle.nodelp.specs.Cuts.{AreCutRows}
use Rattle.nodelp.specs.declared.node.NodeLp.TheInside.{Inside}

abbrev pub node_of : Inside → Node
node_of p = record { program = p.lp; cuts = p.cuts.items }

abbrev pub IsKept : Inside → Type 0
IsKept p = AreCutRows p.lp.n p.lp.rows p.cuts.items
