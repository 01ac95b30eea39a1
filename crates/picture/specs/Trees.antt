-- Trees as they are drawn: which node is which, and how deep it lies.
use Rattle.std.specs.Prelude.{ℕ, ◌+◌, Bool, true, false, List, [], ◌∷◌, ◌++◌}
use Rattle.picture.specs.declared.tree.Node.{Node}
use Rattle.picture.specs.declared.tree.Node.TheVariants as nodes

abbrev pub is_open : Node → Bool
is_open nodes.Open = true
is_open nodes.Closed = false
is_open nodes.Split = false

abbrev pub is_closed : Node → Bool
is_closed nodes.Open = false
is_closed nodes.Closed = true
is_closed nodes.Split = false

abbrev pub is_split : Node → Bool
is_split nodes.Open = false
is_split nodes.Closed = false
is_split nodes.Split = true

-- an open leaf, a closed leaf, or a split with its two trees
pub data Shape : Type 0 where
  open_leaf : Shape
  closed_leaf : Shape
  split : (first second : Shape) → Shape

-- the nodes of a tree in preorder
abbrev pub preorder : Shape → List Node
preorder open_leaf = nodes.Open ∷ []
preorder closed_leaf = nodes.Closed ∷ []
preorder (split a b) = nodes.Split ∷ preorder a ++ preorder b

-- the depths of the nodes of a tree whose root is at depth d, in preorder
abbrev pub depths_from : ℕ → Shape → List ℕ
depths_from d open_leaf = d ∷ []
depths_from d closed_leaf = d ∷ []
depths_from d (split a b) = d ∷ depths_from (d + 1) a ++ depths_from (d + 1) b

-- the nodes of some trees, one tree after the other
abbrev pub all_nodes : List Shape → List Node
all_nodes [] = []
all_nodes (t ∷ ts) = preorder t ++ all_nodes ts

-- the depths of the nodes of some trees, whose roots are at these depths
abbrev pub all_depths : List ℕ → List Shape → List ℕ
all_depths [] ts = []
all_depths (d ∷ ds) [] = []
all_depths (d ∷ ds) (t ∷ ts) = depths_from d t ++ all_depths ds ts

-- two lists are as long
abbrev pub AreAsLong : List ℕ → List Shape → Type 0
AreAsLong [] [] = Unit {0}
AreAsLong [] (t ∷ ts) = ⊥
AreAsLong (d ∷ ds) [] = ⊥
AreAsLong (d ∷ ds) (t ∷ ts) = AreAsLong ds ts
