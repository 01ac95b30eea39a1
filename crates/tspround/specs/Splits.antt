-- By what the nodes of a tree were split.
use Rattle.std.specs.Prelude.{◌≡◌, ℕ, List, [], ◌∷◌, ◌++◌}
use Rattle.tspdef.specs.Instances.{Instance}
use Rattle.tspdef.specs.Paths.{Condition, absent, present, two, four, root}
use Rattle.tspdef.specs.Trees.{Tree, open_leaf, closed_leaf, edge_split, clique_split}
use Rattle.treebook.specs.Tables.{Branch, on_edge, on_clique}
use Rattle.worker.specs.Splits.{Splits, IsNeededSplit}

-- by what a node with this path may be split
abbrev pub Kinds : Type 1
Kinds = List Condition → Branch → Type 0

-- each split of a tree that stands at the end of a path is by a branch that may split its node
abbrev pub AllSplits : Kinds → List Condition → Tree → Type 0
AllSplits P path open_leaf = Unit {0}
AllSplits P path (closed_leaf c) = Unit {0}
AllSplits P path (edge_split u v a b) = P path (on_edge u v) × (AllSplits P (path ++ absent u v ∷ []) a × AllSplits P (path ++ present u v ∷ []) b)
AllSplits P path (clique_split s a b) = P path (on_clique s) × (AllSplits P (path ++ two s ∷ []) a × AllSplits P (path ++ four s ∷ []) b)

-- A tree that grew from another, both at the end of a path: its closed leaves and its splits stand as they were, and in place of its
-- open leaves are trees whose splits are by branches that may split their nodes.
abbrev pub GrownBy : Kinds → List Condition → Tree → Tree → Type 0
GrownBy P path open_leaf new = AllSplits P path new
GrownBy P path (closed_leaf c) new = new ≡ closed_leaf c
GrownBy P path (edge_split u v a b) new = (c : Tree) × (d : Tree) × (new ≡ edge_split u v c d) × GrownBy P (path ++ absent u v ∷ []) a c × GrownBy P (path ++ present u v ∷ []) b d
GrownBy P path (clique_split s a b) new = (c : Tree) × (d : Tree) × (new ≡ clique_split s c d) × GrownBy P (path ++ two s ∷ []) a c × GrownBy P (path ++ four s ∷ []) b d

-- the branches by which nodes of an instance may be split where tours of length l are known, and for a gap
abbrev pub kinds_of : Splits → Instance → ℕ → ℕ → Kinds
kinds_of S i l gap path b = S i path l b gap

-- each split is one that may be where tours of length l are known, and for a gap
abbrev pub SplitBy : Splits → Instance → ℕ → ℕ → Tree → Type 0
SplitBy S i l gap t = AllSplits (kinds_of S i l gap) (root i) t

-- each split is needed for tours of length l, and for a gap
abbrev pub SplitsAreNeeded : Instance → ℕ → ℕ → Tree → Type 0
SplitsAreNeeded i l gap t = SplitBy IsNeededSplit i l gap t

-- each split but those of the first tree, which still stand, is one that may be where tours of length l are known, and for a gap
abbrev pub SplitSince : Splits → Instance → ℕ → ℕ → Tree → Tree → Type 0
SplitSince S i l gap first new = GrownBy (kinds_of S i l gap) (root i) first new
