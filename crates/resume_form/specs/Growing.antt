-- A tree that grows out of its nodes in preorder.
use Rattle.std.specs.Prelude.{◌≡◌, ◌≢◌, ℕ, ◌+◌, ◌≤◌, List, [], ◌∷◌, ◌++◌, length, ℤ}
use Rattle.std.specs.List.{flat_map, AllByRecursion}
use Rattle.tspdef.specs.Instances.{Instance}
use Rattle.tspdef.specs.Paths.{Condition, absent, present, two, four, root}
use Rattle.tspdef.specs.Closings.{Fits}
use Rattle.tspdef.specs.Trees.{Tree, open_leaf, closed_leaf, edge_split, clique_split, IsSound, IsSoundFor, Side, with_leaf}
use Rattle.treebook.specs.Tables.{Node, path_at, sides_of, tree_of, IsTable, IsOpen}
use Rattle.treebook.specs.Tree.{Table}
use Rattle.verdict.specs.Bodies.{reopened}
use Rattle.verdict.specs.Parts.{Part, the_tour, opened, closed, edge, clique, preorder}

-- each closing fits its node
abbrev pub AllFit : ℕ → List Condition → Tree → Type 0
AllFit n path open_leaf = Unit {0}
AllFit n path (closed_leaf c) = Fits n path c
AllFit n path (edge_split u v a b) = AllFit n (path ++ absent u v ∷ []) a × AllFit n (path ++ present u v ∷ []) b
AllFit n path (clique_split s a b) = AllFit n (path ++ two s ∷ []) a × AllFit n (path ++ four s ∷ []) b

-- an open node of the table at which the tree t is still to come; the bounds of its closed leaves exceed x
pub record Comes (i : Instance) (x : ℤ) (nodes : List Node) (k : ℕ) (t : Tree) : Type 0 where
  pub is_open : IsOpen nodes k
  pub sound : IsSound i x (path_at i.fixed nodes k) t
  pub fit : AllFit i.n (path_at i.fixed nodes k) t

-- the same of each of some different nodes
abbrev pub AllCome : Instance → ℤ → List Node → List ℕ → List Tree → Type 0
AllCome i x nodes [] [] = Unit {0}
AllCome i x nodes [] (t ∷ ts) = ⊥
AllCome i x nodes (k ∷ ks) [] = ⊥
AllCome i x nodes (k ∷ ks) (t ∷ ts) = Comes i x nodes k t × AllByRecursion (λ j. j ≢ k) ks × AllCome i x nodes ks ts

-- the tree with others in place of the open leaves at some places
abbrev pub filled : List (List Side × Tree) → Tree → Tree
filled [] t = t
filled (q ∷ qs) t = filled qs (with_leaf t q.0 q.1)

-- the trees that are to come, each at its node's place, with leaves open whose bound does not exceed y
abbrev pub fillings : Instance → ℤ → List Node → List ℕ → List Tree → List (List Side × Tree)
fillings i y nodes [] ts = []
fillings i y nodes (k ∷ ks) [] = []
fillings i y nodes (k ∷ ks) (t ∷ ts) = (sides_of nodes k, reopened i y (path_at i.fixed nodes k) t) ∷ fillings i y nodes ks ts

-- at the nodes that wait, the next one first, these trees are to come; their nodes are the parts that are left
pub record StandsWith (i : Instance) (x y : ℤ) (goal : Tree) (nodes : List Node) (waiting : List ℕ) (left : List Part) (trees : List Tree) : Type 0 where
  pub come : AllCome i x nodes waiting trees
  pub parts : left ≡ flat_map preorder trees
  pub reaches : filled (fillings i y nodes waiting trees) (tree_of nodes) ≡ goal

-- A table grows to a goal: at each of the nodes that wait a tree is to come. In all there will be `total` nodes, and there is room for them.
pub record IsGrowing (i : Instance) (x y : ℤ) (goal : Tree) (total : ℕ) (table : Table) (waiting : List ℕ) (left : List Part) : Type 0 where
  pub cities : table.n ≡ i.n
  pub fixed : table.fixed ≡ i.fixed
  pub is_table : IsTable i.n i.fixed table.nodes
  pub trees : List Tree
  pub stands : StandsWith i x y goal table.nodes waiting left trees
  pub room : length left ≤ table.room + length waiting
  pub count : length table.nodes + length left ≡ total + length waiting

-- the same for some goal and number of nodes
abbrev pub Grows : Instance → ℤ → ℤ → Table → List ℕ → List Part → Type 0
Grows i x y table waiting left = (goal : Tree) × (total : ℕ) × IsGrowing i x y goal total table waiting left

-- the parts are the nodes of a tree that is sound for the bound told, and whose closings fit
pub record IsSaid (i : Instance) (told : ℕ) (parts : List Part) (said : Tree) : Type 0 where
  pub all : parts ≡ preorder said
  pub sound : IsSoundFor i told said
  pub fit : AllFit i.n (root i) said

-- the table of a tree of the instance, with so many nodes
pub record IsGrown (i : Instance) (goal : Tree) (total : ℕ) (table : Table) : Type 0 where
  pub cities : table.n ≡ i.n
  pub fixed : table.fixed ≡ i.fixed
  pub tree : tree_of table.nodes ≡ goal
  pub count : length table.nodes ≡ total

-- the first part is a tour
abbrev pub BeginsWithTour : List Part → Type 0
BeginsWithTour [] = ⊥
BeginsWithTour (the_tour cities ∷ ps) = Unit {0}
BeginsWithTour (opened ∷ ps) = ⊥
BeginsWithTour (closed c ∷ ps) = ⊥
BeginsWithTour (edge u v ∷ ps) = ⊥
BeginsWithTour (clique set ∷ ps) = ⊥
