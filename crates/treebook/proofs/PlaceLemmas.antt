use Rattle.std.proofs.Common.{◌≡◌, ◌+◌, List, [], ◌∷◌, ◌++◌, subst, arith, Some}
use Rattle.std.specs.Prelude.{ℤ}
use Rattle.tspdef.specs.Paths.{Condition, absent, present, two, four}
use Rattle.tspdef.specs.Instances.{Instance}
use Rattle.tspdef.specs.Trees.{Tree, open_leaf, closed_leaf, edge_split, clique_split, Side, first, second, open_path, with_leaf, IsSound, open_leaves, settled}

-- putting a tree in place of an open leaf takes that leaf away and adds the tree's own open leaves
pub open_leaves-with_leaf : (path : List Condition) (t : Tree) (sides : List Side) (leaf : List Condition) (new : Tree) → open_path path t sides ≡ Some leaf
    → open_leaves (with_leaf t sides new) + 1 ≡ open_leaves t + open_leaves new
open_leaves-with_leaf path open_leaf sides leaf new e = omega arith
open_leaves-with_leaf path (closed_leaf c) sides leaf new e = cc
open_leaves-with_leaf path (edge_split u v a b) [] leaf new e = cc
open_leaves-with_leaf path (edge_split u v a b) (first ∷ ss) leaf new e = let ih = open_leaves-with_leaf (path ++ absent u v ∷ []) a ss leaf new e in omega arith
open_leaves-with_leaf path (edge_split u v a b) (second ∷ ss) leaf new e = let ih = open_leaves-with_leaf (path ++ present u v ∷ []) b ss leaf new e in omega arith
open_leaves-with_leaf path (clique_split s a b) [] leaf new e = cc
open_leaves-with_leaf path (clique_split s a b) (first ∷ ss) leaf new e = let ih = open_leaves-with_leaf (path ++ two s ∷ []) a ss leaf new e in omega arith
open_leaves-with_leaf path (clique_split s a b) (second ∷ ss) leaf new e = let ih = open_leaves-with_leaf (path ++ four s ∷ []) b ss leaf new e in omega arith

-- and adds its settled nodes
pub settled-with_leaf : (path : List Condition) (t : Tree) (sides : List Side) (leaf : List Condition) (new : Tree) → open_path path t sides ≡ Some leaf
    → settled (with_leaf t sides new) ≡ settled t + settled new
settled-with_leaf path open_leaf sides leaf new e = omega arith
settled-with_leaf path (closed_leaf c) sides leaf new e = cc
settled-with_leaf path (edge_split u v a b) [] leaf new e = cc
settled-with_leaf path (edge_split u v a b) (first ∷ ss) leaf new e = let ih = settled-with_leaf (path ++ absent u v ∷ []) a ss leaf new e in omega arith
settled-with_leaf path (edge_split u v a b) (second ∷ ss) leaf new e = let ih = settled-with_leaf (path ++ present u v ∷ []) b ss leaf new e in omega arith
settled-with_leaf path (clique_split s a b) [] leaf new e = cc
settled-with_leaf path (clique_split s a b) (first ∷ ss) leaf new e = let ih = settled-with_leaf (path ++ two s ∷ []) a ss leaf new e in omega arith
settled-with_leaf path (clique_split s a b) (second ∷ ss) leaf new e = let ih = settled-with_leaf (path ++ four s ∷ []) b ss leaf new e in omega arith

-- a sound tree stays sound with a tree that is sound there in place of an open leaf
pub sound-with_leaf : (i : Instance) (number : ℤ) (path : List Condition) (t : Tree) (sides : List Side) (leaf : List Condition) (new : Tree) → open_path path t sides ≡ Some leaf
    → IsSound i number path t → IsSound i number leaf new → IsSound i number path (with_leaf t sides new)
sound-with_leaf i number path open_leaf [] leaf new e sound ok = let same : leaf ≡ path = cc in subst (λ (p : List Condition). IsSound i number p new) same ok
sound-with_leaf i number path open_leaf (s ∷ ss) leaf new e sound ok = absurd cc
sound-with_leaf i number path (closed_leaf c) sides leaf new e sound ok = sound
sound-with_leaf i number path (edge_split u v a b) [] leaf new e sound ok = sound
sound-with_leaf i number path (edge_split u v a b) (first ∷ ss) leaf new e sound ok = (sound.0, (sound-with_leaf i number (path ++ absent u v ∷ []) a ss leaf new e sound.1.0 ok, sound.1.1))
sound-with_leaf i number path (edge_split u v a b) (second ∷ ss) leaf new e sound ok = (sound.0, (sound.1.0, sound-with_leaf i number (path ++ present u v ∷ []) b ss leaf new e sound.1.1 ok))
sound-with_leaf i number path (clique_split s a b) [] leaf new e sound ok = sound
sound-with_leaf i number path (clique_split s a b) (first ∷ ss) leaf new e sound ok = (sound.0, (sound-with_leaf i number (path ++ two s ∷ []) a ss leaf new e sound.1.0 ok, sound.1.1))
sound-with_leaf i number path (clique_split s a b) (second ∷ ss) leaf new e sound ok = (sound.0, (sound.1.0, sound-with_leaf i number (path ++ four s ∷ []) b ss leaf new e sound.1.1 ok))
