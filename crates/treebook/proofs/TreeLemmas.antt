use Rattle.std.proofs.Common.{◌≡◌, ℕ, zero, suc, ◌+◌, ◌<◌, ◌≤◌, true, List, [], ◌∷◌, ◌++◌, length, refl, sym, ◌∙◌, ap, subst, arith, ⊎_elim, append_assoc}
use Rattle.std.specs.Prelude.{◌==◌}
use Rattle.std.proofs.lemmas.Bool.{cases_Bool, eqb-true, or_cases, false≢true}
use Rattle.std.proofs.lemmas.List.{append-nil}
use Rattle.tspdef.specs.Paths.{Condition, MayFollow, IsPath, fixed_conditions}
use Rattle.tspdef.specs.Trees.{Tree, open_leaf, Side, first, second, open_path}
use Rattle.tspdef.proofs.RootLemmas.{roots_are_paths}
use Rattle.branchx.proofs.PathLemmas.{continues-push}
use Rattle.treebook.specs.Tables.{Branch, on_edge, on_clique, State, open_node, closed_node, split_node, Node, parent_at, state_at, condition_on, side_under, condition_under, side_at, own_condition, path_at, sides_of, split_tree, grown, tree_within, tree_at, tree_of, is_child, fresh, IsStateOf, IsTable, IsOpen}
use Rattle.treebook.specs.Laws.{FreshIsTable, PathsArePaths, OpenNodesAreOpenLeaves}
use Rattle.treebook.proofs.WayLemmas.{AreBehind, from_parents, path_step, sides_step}

pub are_behind : (n : ℕ) (fixed : List (ℕ × ℕ)) (nodes : List Node) → IsTable n fixed nodes → AreBehind nodes
are_behind n fixed nodes t k p m = (t.parents k p m).behind

-- ---- the tree at a node, by the trees at its children

split_tree-same : (b : Branch) (x y x' y' : Tree) → x ≡ x' → y ≡ y' → split_tree b x y ≡ split_tree b x' y'
split_tree-same b x y x' y' e f = cc

-- trees of nodes behind k that agree make one tree at k
grown-same : (n : ℕ) (fixed : List (ℕ × ℕ)) (nodes : List Node) (k : ℕ) (s : State) (below other : ℕ → Tree) → IsStateOf n fixed nodes k s
    → ((j : ℕ) → k < j → j < length nodes → below j ≡ other j) → grown below s ≡ grown other s
grown-same n fixed nodes k open_node below other ok same = refl
grown-same n fixed nodes k (closed_node c) below other ok same = refl
grown-same n fixed nodes k (split_node b child) below other ok same =
    let behind = ok.1.behind in let within = ok.1.within in
    split_tree-same b (below child) (below (child + 1)) (other child) (other (child + 1)) (same child behind (omega arith)) (same (child + 1) (omega arith) within)

-- fuel beyond the nodes that are left makes no difference
pub tree_within-same : (n : ℕ) (fixed : List (ℕ × ℕ)) (nodes : List Node) → IsTable n fixed nodes → (f g k : ℕ) → length nodes ≤ k + f → length nodes ≤ k + g → k < length nodes
    → tree_within f nodes k ≡ tree_within g nodes k
tree_within-same n fixed nodes t zero g k x y m = absurd (omega arith)
tree_within-same n fixed nodes t (suc f) zero k x y m = absurd (omega arith)
tree_within-same n fixed nodes t (suc f) (suc g) k x y m =
    grown-same n fixed nodes k (state_at nodes k) (tree_within f nodes) (tree_within g nodes) (t.states k m)
    (λ j less q. tree_within-same n fixed nodes t f g j (omega arith) (omega arith) q)

pub tree_step : (n : ℕ) (fixed : List (ℕ × ℕ)) (nodes : List Node) (k : ℕ) → IsTable n fixed nodes → k < length nodes → tree_at nodes k ≡ grown (tree_at nodes) (state_at nodes k)
tree_step n fixed nodes k t m = tree_within-same n fixed nodes t (length nodes) (suc (length nodes)) k (omega arith) (omega arith) m

-- ---- the way down to a node

-- what a child of a node of some state is
pub record IsChildOf (nodes : List Node) (k c : ℕ) : Type 0 where
  pub behind : k < c
  pub within : c < length nodes
  pub parent : parent_at nodes c ≡ k

pub child_facts : (n : ℕ) (fixed : List (ℕ × ℕ)) (nodes : List Node) (k : ℕ) (s : State) (c : ℕ) → IsStateOf n fixed nodes k s → is_child s c ≡ true → IsChildOf nodes k c
child_facts n fixed nodes k open_node c ok h = absurd (false≢true h)
child_facts n fixed nodes k (closed_node q) c ok h = absurd (false≢true h)
child_facts n fixed nodes k (split_node b child) c ok h =
    let behind = ok.1.behind in let within = ok.1.within in
    ⊎_elim
    (λ x. let e = eqb-true c child x in record { behind = omega arith; within = omega arith; parent = subst (λ (y : ℕ). parent_at nodes y ≡ k) (sym e) ok.1.one })
    (λ x. let e = eqb-true c (child + 1) x in record { behind = omega arith; within = omega arith; parent = subst (λ (y : ℕ). parent_at nodes y ≡ k) (sym e) ok.1.other })
    (or_cases (c == child) (c == child + 1) h)

down_first : (b : Branch) (path : List Condition) (x y : Tree) (rest : List Side) → open_path path (split_tree b x y) (first ∷ rest) ≡ open_path (path ++ condition_on b first ∷ []) x rest
down_first (on_edge u v) path x y rest = refl
down_first (on_clique s) path x y rest = refl

down_second : (b : Branch) (path : List Condition) (x y : Tree) (rest : List Side) → open_path path (split_tree b x y) (second ∷ rest) ≡ open_path (path ++ condition_on b second ∷ []) y rest
down_second (on_edge u v) path x y rest = refl
down_second (on_clique s) path x y rest = refl

-- a step down from a node to its child k
down : (s : State) (path : List Condition) (below : ℕ → Tree) (k : ℕ) (rest : List Side) → is_child s k ≡ true
    → open_path path (grown below s) (side_under s k ∷ rest) ≡ open_path (path ++ condition_under s k ∷ []) (below k) rest
down open_node path below k rest h = absurd (false≢true h)
down (closed_node c) path below k rest h = absurd (false≢true h)
down (split_node b child) path below k rest h = ⊎_elim
    (λ x. let e = eqb-true k child x in
    rw x (down_first b path (below child) (below (child + 1)) rest ∙ ap (λ (y : ℕ). open_path (path ++ condition_on b first ∷ []) (below y) rest) (sym e)))
    (λ x. let e : k ≡ child + 1 = ⊎_elim (λ z. absurd (false≢true (sym x ∙ z))) (λ z. eqb-true k (child + 1) z) (or_cases (k == child) (k == child + 1) h) in
    rw x (down_second b path (below child) (below (child + 1)) rest ∙ ap (λ (y : ℕ). open_path (path ++ condition_on b second ∷ []) (below y) rest) (sym e)))
    (cases_Bool (k == child))

-- going down from the root by the sides of a node leads to the tree at the node, with its path
down_to : (n : ℕ) (fixed : List (ℕ × ℕ)) (nodes : List Node) (k : ℕ) → IsTable n fixed nodes → k < length nodes
    → (rest : List Side) → open_path (fixed_conditions fixed) (tree_of nodes) (sides_of nodes k ++ rest) ≡ open_path (path_at fixed nodes k) (tree_at nodes k) rest
down_to n fixed nodes k t m =
    from_parents (λ j. (rest : List Side) → open_path (fixed_conditions fixed) (tree_of nodes) (sides_of nodes j ++ rest) ≡ open_path (path_at fixed nodes j) (tree_at nodes j) rest)
    nodes (are_behind n fixed nodes t) (λ rest. ap (λ (p : List Condition). open_path p (tree_of nodes) rest) (sym (append-nil (fixed_conditions fixed))))
    (λ j p q ih rest.
    let b = t.parents j p q in let less = b.behind in
    let s = state_at nodes (parent_at nodes j) in
    ap (λ (sides : List Side). open_path (fixed_conditions fixed) (tree_of nodes) (sides ++ rest)) (sides_step nodes j (are_behind n fixed nodes t) p q)
    ∙ ap (open_path (fixed_conditions fixed) (tree_of nodes)) (append_assoc (sides_of nodes (parent_at nodes j)) (side_at nodes j ∷ []) rest)
    ∙ ih (side_at nodes j ∷ rest)
    ∙ ap (λ (x : Tree). open_path (path_at fixed nodes (parent_at nodes j)) x (side_at nodes j ∷ rest)) (tree_step n fixed nodes (parent_at nodes j) t (omega arith))
    ∙ down s (path_at fixed nodes (parent_at nodes j)) (tree_at nodes) j rest b.child
    ∙ ap (λ (x : List Condition). open_path x (tree_at nodes j) rest) (sym (path_step fixed nodes j (are_behind n fixed nodes t) p q)))
    k k (omega arith) m

-- the tree at an open node is a leaf
pub open_tree : (n : ℕ) (fixed : List (ℕ × ℕ)) (nodes : List Node) (k : ℕ) → IsTable n fixed nodes → IsOpen nodes k → tree_at nodes k ≡ open_leaf
open_tree n fixed nodes k t o = tree_step n fixed nodes k t o.within ∙ ap (grown (tree_at nodes)) o.is_open

pub open_nodes_are_open_leaves : OpenNodesAreOpenLeaves
open_nodes_are_open_leaves n fixed nodes k t o =
    ap (open_path (fixed_conditions fixed) (tree_of nodes)) (sym (append-nil (sides_of nodes k)))
    ∙ down_to n fixed nodes k t o.within []
    ∙ ap (λ (x : Tree). open_path (path_at fixed nodes k) x []) (open_tree n fixed nodes k t o)

-- ---- paths

-- the condition on a child may follow the path of its parent
may_follow : (n : ℕ) (fixed : List (ℕ × ℕ)) (nodes : List Node) (k : ℕ) (s : State) (c : ℕ) → IsStateOf n fixed nodes k s → is_child s c ≡ true → MayFollow n (path_at fixed nodes k) (condition_under s c)
may_follow n fixed nodes k open_node c ok h = absurd (false≢true h)
may_follow n fixed nodes k (closed_node q) c ok h = absurd (false≢true h)
may_follow n fixed nodes k (split_node (on_edge u v) child) c ok h = ⊎_elim (λ x. rw x ok.0) (λ x. rw x ok.0) (cases_Bool (c == child))
may_follow n fixed nodes k (split_node (on_clique s) child) c ok h = ⊎_elim (λ x. rw x ok.0) (λ x. rw x ok.0) (cases_Bool (c == child))

pub paths_are_paths : PathsArePaths
paths_are_paths n fixed nodes k t m = from_parents (λ j. IsPath n (path_at fixed nodes j)) nodes (are_behind n fixed nodes t)
    (subst (IsPath n) (sym (append-nil (fixed_conditions fixed))) (roots_are_paths n fixed t.pairs.below t.pairs.rising).is_path)
    (λ j p q ih.
    let b = t.parents j p q in let less = b.behind in
    subst (IsPath n) (sym (path_step fixed nodes j (are_behind n fixed nodes t) p q))
    (continues-push n [] (path_at fixed nodes (parent_at nodes j)) (own_condition nodes j) ih
    (may_follow n fixed nodes (parent_at nodes j) (state_at nodes (parent_at nodes j)) j (t.states (parent_at nodes j) (omega arith)) b.child)))
    k k (omega arith) m

-- ---- the root alone

pub fresh_is_table : FreshIsTable
fresh_is_table n fixed pairs = record {
  is_table = record {
    pairs = pairs;
    some = omega arith;
    parents = λ k p m. absurd (omega arith);
    states = λ k m. let e : 0 ≡ k = omega arith in subst (λ (j : ℕ). IsStateOf n fixed fresh j (state_at fresh j)) e tt;
  };
  tree = refl;
  path = append-nil (fixed_conditions fixed);
}
