-- Proof trees: what makes one sound and accepted, and which tours its open leaves cover.
use Rattle.std.specs.Prelude.{◌≡◌, ℕ, ◌+◌, ◌≤◌, false, ◌⊎◌, List, [], ◌∷◌, ◌++◌, ℤ, ◌<ℤ◌, Option, Some, None}
use Rattle.tspdef.specs.Sets.{IsProper}
use Rattle.tspdef.specs.Tours.{steps, IsCanonical}
use Rattle.tspdef.specs.Instances.{Instance, IsTourOf, length_in}
use Rattle.tspdef.specs.Paths.{Condition, absent, present, two, four, Obeys, is_decided, IsPair, root}
use Rattle.tspdef.specs.Closings.{Closing, IsClosing}
use Rattle.tspdef.specs.Bounds.{bound, needed}

-- An edge split has the child where the pair is unused, then the one where it is used; a clique split the child
-- where the set is crossed twice, then the one where it is crossed four times or more.
pub data Tree : Type 0 where
  open_leaf : Tree
  closed_leaf : (closing : Closing) → Tree
  edge_split : (u v : ℕ) → (without with : Tree) → Tree
  clique_split : (set : List ℕ) → (twice more : Tree) → Tree

-- Each closed leaf's bound exceeds the number, each edge split is of an undecided pair, each clique split of a proper set.
abbrev pub IsSound : Instance → ℤ → List Condition → Tree → Type 0
IsSound i number path open_leaf = Unit {0}
IsSound i number path (closed_leaf c) = IsClosing i.n path c × (number <ℤ (bound i path c))
IsSound i number path (edge_split u v a b) = (IsPair i.n u v × (is_decided path u v ≡ false)) × (IsSound i number (path ++ absent u v ∷ []) a × IsSound i number (path ++ present u v ∷ []) b)
IsSound i number path (clique_split s a b) = IsProper i.n s × (IsSound i number (path ++ two s ∷ []) a × IsSound i number (path ++ four s ∷ []) b)

abbrev pub open_leaves : Tree → ℕ
open_leaves open_leaf = 1
open_leaves (closed_leaf c) = 0
open_leaves (edge_split u v a b) = open_leaves a + open_leaves b
open_leaves (clique_split s a b) = open_leaves a + open_leaves b

-- how many nodes are closed or split
abbrev pub settled : Tree → ℕ
settled open_leaf = 0
settled (closed_leaf c) = 1
settled (edge_split u v a b) = settled a + settled b + 1
settled (clique_split s a b) = settled a + settled b + 1

-- sound for the bound l, from the root on
abbrev pub IsSoundFor : Instance → ℕ → Tree → Type 0
IsSoundFor i l t = IsSound i (needed l) (root i) t

-- A canonical tour, its length, a bound no greater, and a sound tree for that bound without an open leaf: a proof that no tour is
-- shorter than the bound. Where the bound is the length, the tour is shortest.
pub record IsAccepted (i : Instance) (tour : List ℕ) (l b : ℕ) (t : Tree) : Type 0 where
  pub is_tour : IsTourOf i tour
  pub canonical : IsCanonical tour
  pub long : l ≡ length_in i tour
  pub below : b ≤ l
  pub sound : IsSoundFor i b t
  pub none_open : open_leaves t ≡ 0

-- the steps obey the path of an open leaf of the tree, which stands at the end of a path
abbrev pub ObeysAnOpenLeaf : List (ℕ × ℕ) → List Condition → Tree → Type 0
ObeysAnOpenLeaf es path open_leaf = Obeys es path
ObeysAnOpenLeaf es path (closed_leaf c) = ⊥
ObeysAnOpenLeaf es path (edge_split u v a b) = ObeysAnOpenLeaf es (path ++ absent u v ∷ []) a ⊎ ObeysAnOpenLeaf es (path ++ present u v ∷ []) b
ObeysAnOpenLeaf es path (clique_split s a b) = ObeysAnOpenLeaf es (path ++ two s ∷ []) a ⊎ ObeysAnOpenLeaf es (path ++ four s ∷ []) b

-- each tour obeys the path of an open leaf, or is no shorter than l
abbrev pub Covers : Instance → Tree → ℕ → Type 0
Covers i t l = (tour : List ℕ) → IsTourOf i tour → ObeysAnOpenLeaf (steps tour) (root i) t ⊎ (l ≤ length_in i tour)

-- one of the two children of a split
pub data Side : Type 0 where
  first : Side
  second : Side

-- the path of the open leaf at a place, where there is one; a place is the sides to take from the root
abbrev pub open_path : List Condition → Tree → List Side → Option (List Condition)
open_path path open_leaf [] = Some path
open_path path open_leaf (s ∷ ss) = None
open_path path (closed_leaf c) sides = None
open_path path (edge_split u v a b) [] = None
open_path path (edge_split u v a b) (first ∷ sides) = open_path (path ++ absent u v ∷ []) a sides
open_path path (edge_split u v a b) (second ∷ sides) = open_path (path ++ present u v ∷ []) b sides
open_path path (clique_split s a b) [] = None
open_path path (clique_split s a b) (first ∷ sides) = open_path (path ++ two s ∷ []) a sides
open_path path (clique_split s a b) (second ∷ sides) = open_path (path ++ four s ∷ []) b sides

-- the tree with another one in place of the open leaf at a place
abbrev pub with_leaf : Tree → List Side → Tree → Tree
with_leaf open_leaf sides new = new
with_leaf (closed_leaf c) sides new = closed_leaf c
with_leaf (edge_split u v a b) [] new = edge_split u v a b
with_leaf (edge_split u v a b) (first ∷ sides) new = edge_split u v (with_leaf a sides new) b
with_leaf (edge_split u v a b) (second ∷ sides) new = edge_split u v a (with_leaf b sides new)
with_leaf (clique_split s a b) [] new = clique_split s a b
with_leaf (clique_split s a b) (first ∷ sides) new = clique_split s (with_leaf a sides new) b
with_leaf (clique_split s a b) (second ∷ sides) new = clique_split s a (with_leaf b sides new)
