-- The laws of tables of nodes.
use Rattle.std.specs.Prelude.{◌≡◌, ℕ, ◌+◌, ◌<◌, ◌≤◌, List, length, ◌<ℤ◌, Some}
use Rattle.tspdef.specs.Instances.{Instance}
use Rattle.tspdef.specs.Paths.{IsPath, fixed_conditions}
use Rattle.tspdef.specs.Closings.{Closing, Fits}
use Rattle.tspdef.specs.Bounds.{bound, needed}
use Rattle.tspdef.specs.Trees.{Tree, open_leaf, closed_leaf, IsSoundFor, Covers, open_leaves, settled, open_path, with_leaf}
use Rattle.treebook.specs.Tables.{Node, Branch, closed_node, fresh, state_at, path_at, sides_of, tree_of, split_tree, MaySplit, ArePairs, IsTable, IsOpen, closed_at, split_at}

-- The root alone is a table of the tree of one open leaf, whose path is the fixed pairs.
pub record IsFreshTable (n : ℕ) (fixed : List (ℕ × ℕ)) : Type 0 where
  pub is_table : IsTable n fixed fresh
  pub tree : tree_of fresh ≡ open_leaf
  pub path : path_at fixed fresh 0 ≡ fixed_conditions fixed

abbrev pub FreshIsTable : Type 0
FreshIsTable = (n : ℕ) (fixed : List (ℕ × ℕ)) → ArePairs n fixed → IsFreshTable n fixed

-- The path of a node of a table is one: no pair is decided twice, and each set is proper.
abbrev pub PathsArePaths : Type 0
PathsArePaths = (n : ℕ) (fixed : List (ℕ × ℕ)) (nodes : List Node) (k : ℕ) → IsTable n fixed nodes → k < length nodes → IsPath n (path_at fixed nodes k)

-- An open node is an open leaf of the tree, at its place, with its path.
abbrev pub OpenNodesAreOpenLeaves : Type 0
OpenNodesAreOpenLeaves = (n : ℕ) (fixed : List (ℕ × ℕ)) (nodes : List Node) (k : ℕ) → IsTable n fixed nodes → IsOpen nodes k
    → open_path (fixed_conditions fixed) (tree_of nodes) (sides_of nodes k) ≡ Some (path_at fixed nodes k)

-- Closing an open node keeps the table, changes the tree at that place alone, and turns an open leaf into a settled one.
pub record IsClosed (n : ℕ) (fixed : List (ℕ × ℕ)) (nodes : List Node) (k : ℕ) (c : Closing) : Type 0 where
  pub is_table : IsTable n fixed (closed_at nodes k c)
  pub tree : tree_of (closed_at nodes k c) ≡ with_leaf (tree_of nodes) (sides_of nodes k) (closed_leaf c)
  pub open_left : open_leaves (tree_of (closed_at nodes k c)) + 1 ≡ open_leaves (tree_of nodes)
  pub settled_now : settled (tree_of (closed_at nodes k c)) ≡ settled (tree_of nodes) + 1
  pub paths : (j : ℕ) → j < length nodes → path_at fixed (closed_at nodes k c) j ≡ path_at fixed nodes j

abbrev pub ClosingKeepsTables : Type 0
ClosingKeepsTables = (n : ℕ) (fixed : List (ℕ × ℕ)) (nodes : List Node) (k : ℕ) (c : Closing) → IsTable n fixed nodes → IsOpen nodes k
    → Fits n (path_at fixed nodes k) c → IsClosed n fixed nodes k c

-- Splitting an open node keeps the table, changes the tree at that place alone, and turns an open leaf into two and a
-- settled node.
pub record IsSplit (n : ℕ) (fixed : List (ℕ × ℕ)) (nodes : List Node) (k : ℕ) (b : Branch) : Type 0 where
  pub is_table : IsTable n fixed (split_at nodes k b)
  pub tree : tree_of (split_at nodes k b) ≡ with_leaf (tree_of nodes) (sides_of nodes k) (split_tree b open_leaf open_leaf)
  pub open_left : open_leaves (tree_of (split_at nodes k b)) ≡ open_leaves (tree_of nodes) + 1
  pub settled_now : settled (tree_of (split_at nodes k b)) ≡ settled (tree_of nodes) + 1
  pub paths : (j : ℕ) → j < length nodes → path_at fixed (split_at nodes k b) j ≡ path_at fixed nodes j

abbrev pub SplittingKeepsTables : Type 0
SplittingKeepsTables = (n : ℕ) (fixed : List (ℕ × ℕ)) (nodes : List Node) (k : ℕ) (b : Branch) → IsTable n fixed nodes → IsOpen nodes k
    → MaySplit n (path_at fixed nodes k) b → IsSplit n fixed nodes k b

-- Closing an open node by a closing whose bound exceeds what l needs keeps what the tree covers, for that l.
abbrev pub ClosingKeepsCovers : Type 0
ClosingKeepsCovers = (i : Instance) (nodes : List Node) (k : ℕ) (c : Closing) (l : ℕ) → 3 ≤ i.n → IsTable i.n i.fixed nodes → IsOpen nodes k
    → Fits i.n (path_at i.fixed nodes k) c → needed l <ℤ (bound i (path_at i.fixed nodes k) c)
    → Covers i (tree_of nodes) l → Covers i (tree_of (closed_at nodes k c)) l

-- Splitting an open node keeps it for each l.
abbrev pub SplittingKeepsCovers : Type 0
SplittingKeepsCovers = (i : Instance) (nodes : List Node) (k : ℕ) (b : Branch) (l : ℕ) → IsTable i.n i.fixed nodes → IsOpen nodes k
    → MaySplit i.n (path_at i.fixed nodes k) b → Covers i (tree_of nodes) l → Covers i (tree_of (split_at nodes k b)) l

-- So closing keeps a tree sound for tours of length l, and so does splitting.
abbrev pub ClosingKeepsSound : Type 0
ClosingKeepsSound = (i : Instance) (nodes : List Node) (k : ℕ) (c : Closing) (l : ℕ) → IsTable i.n i.fixed nodes → IsOpen nodes k
    → Fits i.n (path_at i.fixed nodes k) c → needed l <ℤ (bound i (path_at i.fixed nodes k) c)
    → IsSoundFor i l (tree_of nodes) → IsSoundFor i l (tree_of (closed_at nodes k c))

abbrev pub SplittingKeepsSound : Type 0
SplittingKeepsSound = (i : Instance) (nodes : List Node) (k : ℕ) (b : Branch) (l : ℕ) → IsTable i.n i.fixed nodes → IsOpen nodes k
    → MaySplit i.n (path_at i.fixed nodes k) b → IsSoundFor i l (tree_of nodes) → IsSoundFor i l (tree_of (split_at nodes k b))

-- What is so for l is so for lesser lengths.
pub record KeepsForLess (i : Instance) (l m : ℕ) (t : Tree) : Type 0 where
  pub covers : Covers i t l → Covers i t m
  pub sound : IsSoundFor i l t → IsSoundFor i m t

abbrev pub LessIsKept : Type 0
LessIsKept = (i : Instance) (l m : ℕ) (t : Tree) → m ≤ l → KeepsForLess i l m t

-- each closed node's bound exceeds what l needs
abbrev pub ClosesFor : Instance → ℕ → List Node → Type 0
ClosesFor i l nodes = (k : ℕ) (c : Closing) → k < length nodes → state_at nodes k ≡ closed_node c → needed l <ℤ (bound i (path_at i.fixed nodes k) c)

-- A table stands for a sound tree exactly where each closed node's bound exceeds what l needs.
abbrev pub ClosedTablesAreSound : Type 0
ClosedTablesAreSound = (i : Instance) (nodes : List Node) (l : ℕ) → IsTable i.n i.fixed nodes → ClosesFor i l nodes → IsSoundFor i l (tree_of nodes)

abbrev pub SoundTablesClose : Type 0
SoundTablesClose = (i : Instance) (nodes : List Node) (l : ℕ) → IsTable i.n i.fixed nodes → IsSoundFor i l (tree_of nodes) → ClosesFor i l nodes

-- The greatest bound, at most l, that a tree bears: for which it is sound.
pub record IsGreatestBound (i : Instance) (l : ℕ) (t : Tree) (b : ℕ) : Type 0 where
  pub below : b ≤ l
  pub sound : IsSoundFor i b t
  pub greatest : (c : ℕ) → c ≤ l → IsSoundFor i c t → c ≤ b

-- What a change of a table keeps: that each tour obeys an open leaf or has length l at least, and that the tree is sound for l.
pub record KeepsTree (i : Instance) (l : ℕ) (nodes more : List Node) : Type 0 where
  pub covers : Covers i (tree_of nodes) l → Covers i (tree_of more) l
  pub sound : IsSoundFor i l (tree_of nodes) → IsSoundFor i l (tree_of more)
