-- The plain trees as those that the definitions speak of.
use Rattle.std.specs.Prelude.{ℕ}
use Rattle.tspplain.specs.declared.values.Tree.{Tree}
use Rattle.tspplain.specs.declared.values.Tree.TheVariants.{Open, Closed, Edge', Clique'}
use Rattle.tspdef.specs.Trees as t
use Rattle.tspplain.specs.Values.{closing_of}

-- a tree of n cities
abbrev pub tree_of : ℕ → Tree → t.Tree
tree_of n Open = t.open_leaf
tree_of n (Closed c) = t.closed_leaf (closing_of n c)
tree_of n (Edge' u v p a q b) = t.edge_split u v (tree_of n a) (tree_of n b)
tree_of n (Clique' s p a q b) = t.clique_split s.items (tree_of n a) (tree_of n b)
