-- How the tree of a body has grown from the tree that its search began with.
use Rattle.std.specs.Prelude.{◌≡◌, List, [], ◌∷◌, ◌++◌}
use Rattle.tspdef.specs.Paths.{Condition, absent, present, two, four}
use Rattle.tspdef.specs.Trees.{Tree, open_leaf, closed_leaf, edge_split, clique_split}
use Rattle.tspround.specs.Splits.{Kinds, AllSplits}

-- Both stand at the end of a path. What was split still is, and what was closed; in place of open leaves are trees whose splits are by
-- branches that may split their nodes.
abbrev pub HasGrown : Kinds → List Condition → Tree → Tree → Type 0
HasGrown P path open_leaf t = AllSplits P path t
HasGrown P path (closed_leaf c) (closed_leaf d) = Unit {0}
HasGrown P path (edge_split u v a b) (edge_split x y c d) = ((x ≡ u) × (y ≡ v)) × (HasGrown P (path ++ absent u v ∷ []) a c × HasGrown P (path ++ present u v ∷ []) b d)
HasGrown P path (clique_split s a b) (clique_split r c d) = (r ≡ s) × (HasGrown P (path ++ two s ∷ []) a c × HasGrown P (path ++ four s ∷ []) b d)
HasGrown P path _ _ = ⊥
