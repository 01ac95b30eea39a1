-- Trees in place of open leaves.
use Rattle.std.proofs.Common.{◌≡◌, List, [], ◌∷◌, ◌++◌, refl, ap, Some}
use Rattle.tspdef.specs.Paths.{Condition, absent, present, two, four}
use Rattle.tspdef.specs.Trees.{Tree, open_leaf, closed_leaf, edge_split, clique_split, Side, first, second, open_path, with_leaf}
use Rattle.treebook.specs.Tables.{Branch, on_edge, on_clique, split_tree}

-- an open leaf in place of one
pub same_leaf : (t : Tree) (place : List Side) → with_leaf t place open_leaf ≡ t
same_leaf open_leaf place = refl
same_leaf (closed_leaf c) place = refl
same_leaf (edge_split u v a b) [] = refl
same_leaf (edge_split u v a b) (first ∷ ss) = ap (λ x. edge_split u v x b) (same_leaf a ss)
same_leaf (edge_split u v a b) (second ∷ ss) = ap (λ x. edge_split u v a x) (same_leaf b ss)
same_leaf (clique_split s a b) [] = refl
same_leaf (clique_split s a b) (first ∷ ss) = ap (λ x. clique_split s x b) (same_leaf a ss)
same_leaf (clique_split s a b) (second ∷ ss) = ap (λ x. clique_split s a x) (same_leaf b ss)

-- both children of a split, one after the other
abbrev pub with_children : Tree → List Side → Tree → Tree → Tree
with_children t place x y = with_leaf (with_leaf t (place ++ first ∷ []) x) (place ++ second ∷ []) y

at_root : (b : Branch) (x y : Tree) → with_children (split_tree b open_leaf open_leaf) [] x y ≡ split_tree b x y
at_root (on_edge u v) x y = refl
at_root (on_clique s) x y = refl

pub children_in_place : (path : List Condition) (t : Tree) (place : List Side) (leaf : List Condition) (b : Branch) (x y : Tree) → open_path path t place ≡ Some leaf
    → with_children (with_leaf t place (split_tree b open_leaf open_leaf)) place x y ≡ with_leaf t place (split_tree b x y)
children_in_place path open_leaf [] leaf b x y e = at_root b x y
children_in_place path open_leaf (s ∷ ss) leaf b x y e = cc
children_in_place path (closed_leaf c) place leaf b x y e = cc
children_in_place path (edge_split u v p q) [] leaf b x y e = cc
children_in_place path (edge_split u v p q) (first ∷ ss) leaf b x y e = ap (λ z. edge_split u v z q) (children_in_place (path ++ absent u v ∷ []) p ss leaf b x y e)
children_in_place path (edge_split u v p q) (second ∷ ss) leaf b x y e = ap (λ z. edge_split u v p z) (children_in_place (path ++ present u v ∷ []) q ss leaf b x y e)
children_in_place path (clique_split s p q) [] leaf b x y e = cc
children_in_place path (clique_split s p q) (first ∷ ss) leaf b x y e = ap (λ z. clique_split s z q) (children_in_place (path ++ two s ∷ []) p ss leaf b x y e)
children_in_place path (clique_split s p q) (second ∷ ss) leaf b x y e = ap (λ z. clique_split s p z) (children_in_place (path ++ four s ∷ []) q ss leaf b x y e)
