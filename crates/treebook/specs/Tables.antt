-- A search tree as a table: a list of nodes, the root first, each with the number of the node above it and its state.
-- The two children of a split are two numbers that follow each other.
use Rattle.std.specs.Prelude.{◌≡◌, ◌≢◌, ℕ, ◌+◌, ◌<◌, ◌≤◌, zero, suc, Bool, true, false, cond, ◌==◌, ◌||◌, List, [], ◌∷◌, ◌++◌, length, map, slice_index_or, slice_set}
use Rattle.std.specs.List.{AllByRecursion}
use Rattle.tspdef.specs.Sets.{IsProper}
use Rattle.tspdef.specs.Fixed.{AreRisingPairs}
use Rattle.tspdef.specs.Paths.{Condition, absent, present, two, four, is_decided, IsPair, fixed_conditions}
use Rattle.tspdef.specs.Closings.{Closing, Fits}
use Rattle.tspdef.specs.Trees.{Tree, open_leaf, closed_leaf, edge_split, clique_split, Side, first, second}

-- by what a node is split: whether two cities are joined, or how often a set is crossed
pub data Branch : Type 0 where
  on_edge : (u v : ℕ) → Branch
  on_clique : (set : List ℕ) → Branch

-- a split node knows its first child
pub data State : Type 0 where
  open_node : State
  closed_node : (closing : Closing) → State
  split_node : (branch : Branch) → (child : ℕ) → State

pub record Node : Type 0 where
  pub parent : ℕ
  pub state : State

-- an open node under a node; the root is its own
abbrev pub open_under : ℕ → Node
open_under parent = record { parent = parent; state = open_node }

-- the table of the root alone
abbrev pub fresh : List Node
fresh = open_under 0 ∷ []

abbrev pub node_at : List Node → ℕ → Node
node_at nodes k = slice_index_or nodes k (open_under 0)

abbrev pub parent_at : List Node → ℕ → ℕ
parent_at nodes k = (node_at nodes k).parent

abbrev pub state_at : List Node → ℕ → State
state_at nodes k = (node_at nodes k).state

-- the condition that a branch puts on its first child, or on its second
abbrev pub condition_on : Branch → Side → Condition
condition_on (on_edge u v) first = absent u v
condition_on (on_edge u v) second = present u v
condition_on (on_clique s) first = two s
condition_on (on_clique s) second = four s

-- which child of a node of some state the node k is
abbrev pub side_under : State → ℕ → Side
side_under open_node k = first
side_under (closed_node c) k = first
side_under (split_node b child) k = cond (k == child) first second

-- the condition on the node k, below a node of some state
abbrev pub condition_under : State → ℕ → Condition
condition_under open_node k = absent 0 0
condition_under (closed_node c) k = absent 0 0
condition_under (split_node b child) k = condition_on b (cond (k == child) first second)

-- which child of its parent a node is
abbrev pub side_at : List Node → ℕ → Side
side_at nodes k = side_under (state_at nodes (parent_at nodes k)) k

-- the condition by which a node differs from its parent
abbrev pub own_condition : List Node → ℕ → Condition
own_condition nodes k = condition_under (state_at nodes (parent_at nodes k)) k

-- the nodes from the root, which is left out, to k, where there are no more of them than the fuel
abbrev pub way_within : ℕ → List Node → ℕ → List ℕ
way_within zero nodes k = []
way_within (suc fuel) nodes k = cond (k == 0) [] (way_within fuel nodes (parent_at nodes k) ++ k ∷ [])

-- the nodes from the root, which is left out, to k; parents have lower numbers
abbrev pub way : List Node → ℕ → List ℕ
way nodes k = way_within k nodes k

-- the path of a node: the fixed pairs, and the conditions on the way to it
abbrev pub path_at : List (ℕ × ℕ) → List Node → ℕ → List Condition
path_at fixed nodes k = fixed_conditions fixed ++ map (own_condition nodes) (way nodes k)

-- the place of a node in the tree
abbrev pub sides_of : List Node → ℕ → List Side
sides_of nodes k = map (side_at nodes) (way nodes k)

-- the tree of a split, by the trees of its children
abbrev pub split_tree : Branch → Tree → Tree → Tree
split_tree (on_edge u v) a b = edge_split u v a b
split_tree (on_clique s) a b = clique_split s a b

-- the tree of a node of some state, by the trees of the nodes below it
abbrev pub grown : (ℕ → Tree) → State → Tree
grown below open_node = open_leaf
grown below (closed_node c) = closed_leaf c
grown below (split_node b child) = split_tree b (below child) (below (child + 1))

-- the tree at a node, where no more nodes than the fuel are from it on
abbrev pub tree_within : ℕ → List Node → ℕ → Tree
tree_within zero nodes k = open_leaf
tree_within (suc fuel) nodes k = grown (tree_within fuel nodes) (state_at nodes k)

-- the tree at a node
abbrev pub tree_at : List Node → ℕ → Tree
tree_at nodes k = tree_within (length nodes) nodes k

-- the tree that a table stands for
abbrev pub tree_of : List Node → Tree
tree_of nodes = tree_at nodes 0

-- k is a child of a node of some state
abbrev pub is_child : State → ℕ → Bool
is_child open_node k = false
is_child (closed_node c) k = false
is_child (split_node b child) k = (k == child) || (k == child + 1)

-- a node but the root is behind its parent, and a child of it
pub record IsBelowParent (nodes : List Node) (k : ℕ) : Type 0 where
  pub behind : parent_at nodes k < k
  pub child : is_child (state_at nodes (parent_at nodes k)) k ≡ true

-- what is above a node: its parent, and the condition by which the node differs from it
pub record IsAbove (nodes : List Node) (k parent : ℕ) (c : Condition) : Type 0 where
  pub behind : parent < k
  pub own : c ≡ own_condition nodes k
  pub way : way nodes k ≡ way nodes parent ++ k ∷ []
  pub path : (fixed : List (ℕ × ℕ)) → path_at fixed nodes k ≡ path_at fixed nodes parent ++ c ∷ []

-- a node with this path may be split by an undecided pair or a proper set
abbrev pub MaySplit : ℕ → List Condition → Branch → Type 0
MaySplit n path (on_edge u v) = IsPair n u v × (is_decided path u v ≡ false)
MaySplit n path (on_clique s) = IsProper n s

-- two numbers behind a node that are nodes below it
pub record HasChildren (nodes : List Node) (k child : ℕ) : Type 0 where
  pub behind : k < child
  pub within : child + 1 < length nodes
  pub one : parent_at nodes child ≡ k
  pub other : parent_at nodes (child + 1) ≡ k

-- a closed node has a closing that fits there, a split one an undecided pair or a proper set, and two children
abbrev pub IsStateOf : ℕ → List (ℕ × ℕ) → List Node → ℕ → State → Type 0
IsStateOf n fixed nodes k open_node = Unit {0}
IsStateOf n fixed nodes k (closed_node c) = Fits n (path_at fixed nodes k) c
IsStateOf n fixed nodes k (split_node b child) = MaySplit n (path_at fixed nodes k) b × HasChildren nodes k child

-- pairs u < v of n cities, strictly rising
pub record ArePairs (n : ℕ) (fixed : List (ℕ × ℕ)) : Type 0 where
  pub below : AllByRecursion (λ p. (p.0 < p.1) × (p.1 < n)) fixed
  pub rising : AreRisingPairs fixed

-- a table of a tree over n cities, on whose paths these pairs are fixed
pub record IsTable (n : ℕ) (fixed : List (ℕ × ℕ)) (nodes : List Node) : Type 0 where
  pub pairs : ArePairs n fixed
  pub some : 0 < length nodes
  pub parents : (k : ℕ) → 0 < k → k < length nodes → IsBelowParent nodes k
  pub states : (k : ℕ) → k < length nodes → IsStateOf n fixed nodes k (state_at nodes k)

-- k is an open node of the table
pub record IsOpen (nodes : List Node) (k : ℕ) : Type 0 where
  pub within : k < length nodes
  pub is_open : state_at nodes k ≡ open_node

-- no node from one number on, and before another, is open
abbrev pub NoneOpen : List Node → ℕ → ℕ → Type 0
NoneOpen nodes from to = (k : ℕ) → from ≤ k → k < to → state_at nodes k ≢ open_node

-- k is the open node with the least number
pub record IsLeastOpen (nodes : List Node) (k : ℕ) : Type 0 where
  pub is_open : IsOpen nodes k
  pub least : NoneOpen nodes 0 k

-- the table with another state of a node
abbrev pub with_state : List Node → ℕ → State → List Node
with_state nodes k s = slice_set nodes k (record { parent = parent_at nodes k; state = s })

-- the table with a node closed
abbrev pub closed_at : List Node → ℕ → Closing → List Node
closed_at nodes k c = with_state nodes k (closed_node c)

-- the table with a node split, and its two children behind all others
abbrev pub split_at : List Node → ℕ → Branch → List Node
split_at nodes k b = with_state nodes k (split_node b (length nodes)) ++ open_under k ∷ open_under k ∷ []
