-- Trees that grow at their open leaves.
use Rattle.std.proofs.Common.{◌≡◌, ℕ, List, [], ◌∷◌, ◌++◌, refl, sym, subst, Some}
use Rattle.tspdef.specs.Paths.{Condition, absent, present, two, four, fixed_conditions}
use Rattle.tspdef.specs.Closings.{Closing, Fits}
use Rattle.tspdef.specs.Trees.{Tree, open_leaf, closed_leaf, edge_split, clique_split, Side, first, second, open_path, with_leaf}
use Rattle.treebook.specs.Tables.{Node, Branch, on_edge, on_clique, IsTable, IsOpen, MaySplit, path_at, sides_of, tree_of, split_tree, closed_at, split_at}
use Rattle.treebook.specs.Laws.{OpenNodesAreOpenLeaves, ClosingKeepsTables, SplittingKeepsTables}
use Rattle.tspround.specs.Splits.{Kinds, AllSplits, GrownBy}

-- ---- one leaf

-- a tree with such splits alone stays one with another one in place of an open leaf
pub all-with_leaf : (P : Kinds) (path : List Condition) (t : Tree) (sides : List Side) (leaf : List Condition) (new : Tree) → open_path path t sides ≡ Some leaf
    → AllSplits P path t → AllSplits P leaf new → AllSplits P path (with_leaf t sides new)
all-with_leaf P path open_leaf [] leaf new e all ok = let same : leaf ≡ path = cc in subst (λ (p : List Condition). AllSplits P p new) same ok
all-with_leaf P path open_leaf (s ∷ ss) leaf new e all ok = absurd cc
all-with_leaf P path (closed_leaf c) sides leaf new e all ok = all
all-with_leaf P path (edge_split u v a b) [] leaf new e all ok = all
all-with_leaf P path (edge_split u v a b) (first ∷ ss) leaf new e all ok = (all.0, (all-with_leaf P (path ++ absent u v ∷ []) a ss leaf new e all.1.0 ok, all.1.1))
all-with_leaf P path (edge_split u v a b) (second ∷ ss) leaf new e all ok = (all.0, (all.1.0, all-with_leaf P (path ++ present u v ∷ []) b ss leaf new e all.1.1 ok))
all-with_leaf P path (clique_split s a b) [] leaf new e all ok = all
all-with_leaf P path (clique_split s a b) (first ∷ ss) leaf new e all ok = (all.0, (all-with_leaf P (path ++ two s ∷ []) a ss leaf new e all.1.0 ok, all.1.1))
all-with_leaf P path (clique_split s a b) (second ∷ ss) leaf new e all ok = (all.0, (all.1.0, all-with_leaf P (path ++ four s ∷ []) b ss leaf new e all.1.1 ok))

-- so does one that grew from another
pub grown-with_leaf : (P : Kinds) (path : List Condition) (s t : Tree) (sides : List Side) (leaf : List Condition) (new : Tree) → open_path path t sides ≡ Some leaf
    → GrownBy P path s t → AllSplits P leaf new → GrownBy P path s (with_leaf t sides new)
grown-with_leaf P path open_leaf t sides leaf new e g ok = all-with_leaf P path t sides leaf new e g ok
grown-with_leaf P path (closed_leaf c) t sides leaf new e g ok = subst (λ (x : Tree). with_leaf x sides new ≡ closed_leaf c) (sym g) refl
grown-with_leaf P path (edge_split u v a b) t [] leaf new e g ok =
    subst (λ (x : Tree). GrownBy P path (edge_split u v a b) (with_leaf x [] new)) (sym g.2) (g.0, g.1, refl, g.3, g.4)
grown-with_leaf P path (edge_split u v a b) t (first ∷ ss) leaf new e g ok =
    let at : open_path (path ++ absent u v ∷ []) g.0 ss ≡ Some leaf = subst (λ (x : Tree). open_path path x (first ∷ ss) ≡ Some leaf) g.2 e in
    subst (λ (x : Tree). GrownBy P path (edge_split u v a b) (with_leaf x (first ∷ ss) new)) (sym g.2)
    (with_leaf g.0 ss new, g.1, refl, grown-with_leaf P (path ++ absent u v ∷ []) a g.0 ss leaf new at g.3 ok, g.4)
grown-with_leaf P path (edge_split u v a b) t (second ∷ ss) leaf new e g ok =
    let at : open_path (path ++ present u v ∷ []) g.1 ss ≡ Some leaf = subst (λ (x : Tree). open_path path x (second ∷ ss) ≡ Some leaf) g.2 e in
    subst (λ (x : Tree). GrownBy P path (edge_split u v a b) (with_leaf x (second ∷ ss) new)) (sym g.2)
    (g.0, with_leaf g.1 ss new, refl, g.3, grown-with_leaf P (path ++ present u v ∷ []) b g.1 ss leaf new at g.4 ok)
grown-with_leaf P path (clique_split s a b) t [] leaf new e g ok =
    subst (λ (x : Tree). GrownBy P path (clique_split s a b) (with_leaf x [] new)) (sym g.2) (g.0, g.1, refl, g.3, g.4)
grown-with_leaf P path (clique_split s a b) t (first ∷ ss) leaf new e g ok =
    let at : open_path (path ++ two s ∷ []) g.0 ss ≡ Some leaf = subst (λ (x : Tree). open_path path x (first ∷ ss) ≡ Some leaf) g.2 e in
    subst (λ (x : Tree). GrownBy P path (clique_split s a b) (with_leaf x (first ∷ ss) new)) (sym g.2)
    (with_leaf g.0 ss new, g.1, refl, grown-with_leaf P (path ++ two s ∷ []) a g.0 ss leaf new at g.3 ok, g.4)
grown-with_leaf P path (clique_split s a b) t (second ∷ ss) leaf new e g ok =
    let at : open_path (path ++ four s ∷ []) g.1 ss ≡ Some leaf = subst (λ (x : Tree). open_path path x (second ∷ ss) ≡ Some leaf) g.2 e in
    subst (λ (x : Tree). GrownBy P path (clique_split s a b) (with_leaf x (second ∷ ss) new)) (sym g.2)
    (g.0, with_leaf g.1 ss new, refl, g.3, grown-with_leaf P (path ++ four s ∷ []) b g.1 ss leaf new at g.4 ok)

-- ---- nothing grew, or more may

pub grown_same : (P : Kinds) (path : List Condition) (t : Tree) → GrownBy P path t t
grown_same P path open_leaf = tt
grown_same P path (closed_leaf c) = refl
grown_same P path (edge_split u v a b) = (a, b, refl, grown_same P (path ++ absent u v ∷ []) a, grown_same P (path ++ present u v ∷ []) b)
grown_same P path (clique_split s a b) = (a, b, refl, grown_same P (path ++ two s ∷ []) a, grown_same P (path ++ four s ∷ []) b)

pub all_more : (P Q : Kinds) → ((at : List Condition) (b : Branch) → P at b → Q at b) → (path : List Condition) (t : Tree) → AllSplits P path t → AllSplits Q path t
all_more P Q more path open_leaf all = tt
all_more P Q more path (closed_leaf c) all = tt
all_more P Q more path (edge_split u v a b) all =
    (more path (on_edge u v) all.0, (all_more P Q more (path ++ absent u v ∷ []) a all.1.0, all_more P Q more (path ++ present u v ∷ []) b all.1.1))
all_more P Q more path (clique_split s a b) all =
    (more path (on_clique s) all.0, (all_more P Q more (path ++ two s ∷ []) a all.1.0, all_more P Q more (path ++ four s ∷ []) b all.1.1))

pub grown_more : (P Q : Kinds) → ((at : List Condition) (b : Branch) → P at b → Q at b) → (path : List Condition) (s t : Tree) → GrownBy P path s t → GrownBy Q path s t
grown_more P Q more path open_leaf t g = all_more P Q more path t g
grown_more P Q more path (closed_leaf c) t g = g
grown_more P Q more path (edge_split u v a b) t g =
    (g.0, g.1, g.2, grown_more P Q more (path ++ absent u v ∷ []) a g.0 g.3, grown_more P Q more (path ++ present u v ∷ []) b g.1 g.4)
grown_more P Q more path (clique_split s a b) t g =
    (g.0, g.1, g.2, grown_more P Q more (path ++ two s ∷ []) a g.0 g.3, grown_more P Q more (path ++ four s ∷ []) b g.1 g.4)

-- ---- nodes of a table

-- closing an open node splits nothing
pub closing_grows : OpenNodesAreOpenLeaves → ClosingKeepsTables → (P : Kinds) (n : ℕ) (pairs : List (ℕ × ℕ)) (s : Tree) (nodes : List Node) (k : ℕ) (c : Closing)
    → IsTable n pairs nodes → IsOpen nodes k → Fits n (path_at pairs nodes k) c
    → GrownBy P (fixed_conditions pairs) s (tree_of nodes) → GrownBy P (fixed_conditions pairs) s (tree_of (closed_at nodes k c))
closing_grows leaves grow P n pairs s nodes k c t o f g = subst (GrownBy P (fixed_conditions pairs) s) (sym (grow n pairs nodes k c t o f).tree)
    (grown-with_leaf P (fixed_conditions pairs) s (tree_of nodes) (sides_of nodes k) (path_at pairs nodes k) (closed_leaf c) (leaves n pairs nodes k t o) g tt)

one_split : (P : Kinds) (path : List Condition) (b : Branch) → P path b → AllSplits P path (split_tree b open_leaf open_leaf)
one_split P path (on_edge u v) q = (q, (tt, tt))
one_split P path (on_clique s) q = (q, (tt, tt))

-- splitting one as it may be
pub splitting_grows : OpenNodesAreOpenLeaves → SplittingKeepsTables → (P : Kinds) (n : ℕ) (pairs : List (ℕ × ℕ)) (s : Tree) (nodes : List Node) (k : ℕ) (b : Branch)
    → IsTable n pairs nodes → IsOpen nodes k → MaySplit n (path_at pairs nodes k) b → P (path_at pairs nodes k) b
    → GrownBy P (fixed_conditions pairs) s (tree_of nodes) → GrownBy P (fixed_conditions pairs) s (tree_of (split_at nodes k b))
splitting_grows leaves grow P n pairs s nodes k b t o f q g = subst (GrownBy P (fixed_conditions pairs) s) (sym (grow n pairs nodes k b t o f).tree)
    (grown-with_leaf P (fixed_conditions pairs) s (tree_of nodes) (sides_of nodes k) (path_at pairs nodes k) (split_tree b open_leaf open_leaf) (leaves n pairs nodes k t o) g
    (one_split P (path_at pairs nodes k) b q))
