-- Trees that wait on a stack.
use Rattle.std.proofs.Common.{◌≡◌, ℕ, ◌+◌, ◌<◌, ◌≤◌, List, [], ◌∷◌, ◌++◌, length, refl, sym, ◌∙◌, ap, subst, arith, append_assoc}
use Rattle.std.specs.Prelude.{fold}
use Rattle.std.specs.List.{flat_map, AllByRecursion}
use Rattle.std.proofs.lemmas.List.{append-nil}
use Rattle.tspdef.specs.Cuts.{Cut}
use Rattle.tspdef.specs.Trees as trees
use Rattle.tspdef.specs.Trees.{Tree, open_leaves, settled}
use Rattle.treebook.specs.Tables.{Node, State, open_node, closed_node, split_node, Branch, on_edge, on_clique, split_tree, state_at, grown, tree_at, IsStateOf, IsTable}
use Rattle.treebook.proofs.TreeLemmas.{tree_step}
use Rattle.certdef.specs.Items.{Item}
use Rattle.certdef.specs.Proofs.{tree_items}
use Rattle.certform.specs.Written.{with_cuts_of, written_tree}
use Rattle.certform.specs.Walks.{ComesFirst, IsPreorder, stacked, with_state_cuts, state_items, node_items}

-- ---- what is on a stack

-- the trees of nodes on a stack, the top, which is last, first
abbrev pub waiting : List Node → List ℕ → List Tree
waiting nodes [] = []
waiting nodes (k ∷ ks) = waiting nodes ks ++ tree_at nodes k ∷ []

pub waiting-push : (nodes : List Node) (ks : List ℕ) (k : ℕ) → waiting nodes (ks ++ k ∷ []) ≡ tree_at nodes k ∷ waiting nodes ks
waiting-push nodes [] k = refl
waiting-push nodes (j ∷ ks) k = ap (λ ts. ts ++ tree_at nodes j ∷ []) (waiting-push nodes ks k)

-- how many nodes trees have
abbrev pub size : Tree → ℕ
size t = open_leaves t + settled t

abbrev pub sizes : List Tree → ℕ
sizes [] = 0
sizes (t ∷ ts) = size t + sizes ts

pub size_some : (t : Tree) → 1 ≤ size t
size_some trees.open_leaf = omega arith
size_some (trees.closed_leaf c) = omega arith
size_some (trees.edge_split u v a b) = omega arith
size_some (trees.clique_split s a b) = omega arith

size_split : (b : Branch) (x y : Tree) → size (split_tree b x y) ≡ size x + size y + 1
size_split (on_edge u v) x y = omega arith
size_split (on_clique s) x y = omega arith

-- ---- a step

-- numbers that go on from where a walk stands make a preorder of the whole
abbrev pub GoesOn : List Node → List ℕ → List Tree → Tree → Type 0
GoesOn nodes order ts t = (rest : List ℕ) → IsPreorder nodes rest ts → IsPreorder nodes (order ++ rest) (t ∷ [])

-- the trees that wait once a node of some state is taken off the stack
abbrev pub then_wait : List Node → State → List Tree → List Tree
then_wait nodes open_node ts = ts
then_wait nodes (closed_node c) ts = ts
then_wait nodes (split_node b child) ts = tree_at nodes child ∷ tree_at nodes (child + 1) ∷ ts

comes_first : (nodes : List Node) (s : State) (t : Tree) (Behind : List Tree → Type 0) (ts : List Tree) → t ≡ grown (tree_at nodes) s → Behind (then_wait nodes s ts) → ComesFirst s t Behind ts
comes_first nodes open_node t Behind ts e h = (e, h)
comes_first nodes (closed_node c) t Behind ts e h = (e, h)
comes_first nodes (split_node b child) t Behind ts e h = (tree_at nodes child, tree_at nodes (child + 1), e, h)

pub goes_on : (n : ℕ) (fixed : List (ℕ × ℕ)) (nodes : List Node) (order : List ℕ) (k : ℕ) (ts : List Tree) (t : Tree) → IsTable n fixed nodes → k < length nodes
    → GoesOn nodes order (tree_at nodes k ∷ ts) t → GoesOn nodes (order ++ k ∷ []) (then_wait nodes (state_at nodes k) ts) t
goes_on n fixed nodes order k ts t table m h rest p =
    subst (λ (xs : List ℕ). IsPreorder nodes xs (t ∷ [])) (sym (append_assoc order (k ∷ []) rest))
    (h (k ∷ rest) (m, comes_first nodes (state_at nodes k) (tree_at nodes k) (IsPreorder nodes rest) ts (tree_step n fixed nodes k table m) p))

then_size : (nodes : List Node) (s : State) (ts : List Tree) → sizes (then_wait nodes s ts) + 1 ≡ size (grown (tree_at nodes) s) + sizes ts
then_size nodes open_node ts = omega arith
then_size nodes (closed_node c) ts = omega arith
then_size nodes (split_node b child) ts = let e = size_split b (tree_at nodes child) (tree_at nodes (child + 1)) in omega arith

pub gets_less : (n : ℕ) (fixed : List (ℕ × ℕ)) (nodes : List Node) (k : ℕ) (ts : List Tree) → IsTable n fixed nodes → k < length nodes
    → sizes (then_wait nodes (state_at nodes k) ts) + 1 ≡ sizes (tree_at nodes k ∷ ts)
gets_less n fixed nodes k ts table m =
    then_size nodes (state_at nodes k) ts ∙ ap (λ t. size t + sizes ts) (sym (tree_step n fixed nodes k table m))

-- a node's children are put in its place on the stack
waiting-stacked : (nodes : List Node) (s : State) (ks : List ℕ) → waiting nodes (ks ++ stacked s) ≡ then_wait nodes s (waiting nodes ks)
waiting-stacked nodes open_node ks = ap (waiting nodes) (append-nil ks)
waiting-stacked nodes (closed_node c) ks = ap (waiting nodes) (append-nil ks)
waiting-stacked nodes (split_node b child) ks =
    ap (waiting nodes) (sym (append_assoc ks ((child + 1) ∷ []) (child ∷ []))) ∙ waiting-push nodes (ks ++ (child + 1) ∷ []) child
    ∙ ap (λ ts. tree_at nodes child ∷ ts) (waiting-push nodes ks (child + 1))

abbrev pub AreNodes : List Node → List ℕ → Type 0
AreNodes nodes ks = AllByRecursion (λ k. k < length nodes) ks

nodes-join : (nodes : List Node) (xs ys : List ℕ) → AreNodes nodes xs → AreNodes nodes ys → AreNodes nodes (xs ++ ys)
nodes-join nodes [] ys h k = k
nodes-join nodes (x ∷ xs) ys h k = (h.0, nodes-join nodes xs ys h.1 k)

nodes-front : (nodes : List Node) (xs : List ℕ) (k : ℕ) → AreNodes nodes (xs ++ k ∷ []) → AreNodes nodes xs × (k < length nodes)
nodes-front nodes [] k h = (tt, h.0)
nodes-front nodes (x ∷ xs) k h = let r = nodes-front nodes xs k h.1 in ((h.0, r.0), r.1)

stacked_nodes : (n : ℕ) (fixed : List (ℕ × ℕ)) (nodes : List Node) (k : ℕ) (s : State) → IsStateOf n fixed nodes k s → AreNodes nodes (stacked s)
stacked_nodes n fixed nodes k open_node ok = tt
stacked_nodes n fixed nodes k (closed_node c) ok = tt
stacked_nodes n fixed nodes k (split_node b child) ok = let within = ok.1.within in (within, (omega arith, tt))

-- what a step of the walk keeps, and that less is left
pub record Steps (nodes : List Node) (old_order old_stack order stack : List ℕ) (t : Tree) : Type 0 where
  pub inside : AreNodes nodes stack
  pub goes : GoesOn nodes order (waiting nodes stack) t
  pub less : sizes (waiting nodes stack) < sizes (waiting nodes old_stack)

pub top_is_node : (nodes : List Node) (stack rest : List ℕ) (k : ℕ) → AreNodes nodes stack → stack ≡ rest ++ k ∷ [] → k < length nodes
top_is_node nodes stack rest k h e = (nodes-front nodes rest k (subst (AreNodes nodes) e h)).1

pub walk_steps : (n : ℕ) (fixed : List (ℕ × ℕ)) (nodes : List Node) (old_order old_stack rest order stack : List ℕ) (k : ℕ) (t : Tree) → IsTable n fixed nodes → AreNodes nodes old_stack
    → GoesOn nodes old_order (waiting nodes old_stack) t → old_stack ≡ rest ++ k ∷ [] → order ≡ old_order ++ k ∷ [] → stack ≡ rest ++ stacked (state_at nodes k)
    → Steps nodes old_order old_stack order stack t
walk_steps n fixed nodes old_order old_stack rest order stack k t table inside goes e f g =
    let old = nodes-front nodes rest k (subst (AreNodes nodes) e inside) in
    let was : waiting nodes old_stack ≡ tree_at nodes k ∷ waiting nodes rest = ap (waiting nodes) e ∙ waiting-push nodes rest k in
    let now : waiting nodes stack ≡ then_wait nodes (state_at nodes k) (waiting nodes rest) = ap (waiting nodes) g ∙ waiting-stacked nodes (state_at nodes k) rest in
    let before : GoesOn nodes old_order (tree_at nodes k ∷ waiting nodes rest) t = subst (λ ts. GoesOn nodes old_order ts t) was goes in
    let l = gets_less n fixed nodes k (waiting nodes rest) table old.1 in
    let x = ap sizes was in let y = ap sizes now in
    record {
      inside = subst (AreNodes nodes) (sym g) (nodes-join nodes rest (stacked (state_at nodes k)) old.0 (stacked_nodes n fixed nodes k (state_at nodes k) (table.states k old.1)));
      goes = subst (λ ts. GoesOn nodes order ts t) (sym now) (subst (λ o. GoesOn nodes o (then_wait nodes (state_at nodes k) (waiting nodes rest)) t) (sym f) (goes_on n fixed nodes old_order k (waiting nodes rest) t table old.1 before));
      less = omega arith;
    }

pub walk_ends : (nodes : List Node) (order stack : List ℕ) (t : Tree) → stack ≡ [] → GoesOn nodes order (waiting nodes stack) t → IsPreorder nodes order (t ∷ [])
walk_ends nodes order stack t e h =
    subst (λ o. IsPreorder nodes o (t ∷ [])) (append-nil order) (h [] (subst (λ ks. IsPreorder nodes [] (waiting nodes ks)) (sym e) tt))

-- ---- what nodes in preorder add

cuts_split : (b : Branch) (x y : Tree) (cs : List Cut) → with_cuts_of cs (split_tree b x y) ≡ with_cuts_of (with_cuts_of cs x) y
cuts_split (on_edge u v) x y cs = refl
cuts_split (on_clique s) x y cs = refl

cuts_step : (s : State) (t : Tree) (nodes : List Node) (ks : List ℕ) (ts : List Tree) (cs : List Cut) → ComesFirst s t (IsPreorder nodes ks) ts
    → ((us : List Tree) (ds : List Cut) → IsPreorder nodes ks us → fold (λ xs k. with_state_cuts xs (state_at nodes k)) ds ks ≡ fold with_cuts_of ds us)
    → fold (λ xs k. with_state_cuts xs (state_at nodes k)) (with_state_cuts cs s) ks ≡ fold with_cuts_of (with_cuts_of cs t) ts
cuts_step open_node t nodes ks ts cs p ih = ih ts cs p.1 ∙ ap (λ x. fold with_cuts_of (with_cuts_of cs x) ts) (sym p.0)
cuts_step (closed_node c) t nodes ks ts cs p ih = ih ts (with_state_cuts cs (closed_node c)) p.1 ∙ ap (λ x. fold with_cuts_of (with_cuts_of cs x) ts) (sym p.0)
cuts_step (split_node b child) t nodes ks ts cs p ih =
    ih (p.0 ∷ p.1 ∷ ts) cs p.3 ∙ ap (λ ds. fold with_cuts_of ds ts) (sym (cuts_split b p.0 p.1 cs)) ∙ ap (λ x. fold with_cuts_of (with_cuts_of cs x) ts) (sym p.2)

pub cuts_in_preorder : (nodes : List Node) (ks : List ℕ) (ts : List Tree) (cs : List Cut) → IsPreorder nodes ks ts
    → fold (λ xs k. with_state_cuts xs (state_at nodes k)) cs ks ≡ fold with_cuts_of cs ts
cuts_in_preorder nodes [] [] cs p = refl
cuts_in_preorder nodes [] (t ∷ ts) cs p = absurd p
cuts_in_preorder nodes (k ∷ ks) [] cs p = absurd p
cuts_in_preorder nodes (k ∷ ks) (t ∷ ts) cs p = cuts_step (state_at nodes k) t nodes ks ts cs p.1 (λ us ds q. cuts_in_preorder nodes ks us ds q)

abbrev pub items_of : List Cut → List Tree → List Item
items_of cs ts = flat_map (λ t. tree_items (written_tree cs t)) ts

items_split : (cs : List Cut) (b : Branch) (child : ℕ) (x y : Tree) (ts : List Tree)
    → state_items cs (split_node b child) ++ items_of cs (x ∷ y ∷ ts) ≡ items_of cs (split_tree b x y ∷ ts)
items_split cs (on_edge u v) child x y ts =
    ap (λ r. state_items cs (split_node (on_edge u v) child) ++ r) (sym (append_assoc (tree_items (written_tree cs x)) (tree_items (written_tree cs y)) (items_of cs ts)))
items_split cs (on_clique s) child x y ts =
    ap (λ r. state_items cs (split_node (on_clique s) child) ++ r) (sym (append_assoc (tree_items (written_tree cs x)) (tree_items (written_tree cs y)) (items_of cs ts)))

items_step : (cs : List Cut) (s : State) (t : Tree) (nodes : List Node) (ks : List ℕ) (ts : List Tree) → ComesFirst s t (IsPreorder nodes ks) ts
    → ((us : List Tree) → IsPreorder nodes ks us → node_items cs nodes ks ≡ items_of cs us)
    → state_items cs s ++ node_items cs nodes ks ≡ items_of cs (t ∷ ts)
items_step cs open_node t nodes ks ts p ih = ap (λ r. state_items cs open_node ++ r) (ih ts p.1) ∙ ap (λ x. items_of cs (x ∷ ts)) (sym p.0)
items_step cs (closed_node c) t nodes ks ts p ih = ap (λ r. state_items cs (closed_node c) ++ r) (ih ts p.1) ∙ ap (λ x. items_of cs (x ∷ ts)) (sym p.0)
items_step cs (split_node b child) t nodes ks ts p ih =
    ap (λ r. state_items cs (split_node b child) ++ r) (ih (p.0 ∷ p.1 ∷ ts) p.3) ∙ items_split cs b child p.0 p.1 ts ∙ ap (λ x. items_of cs (x ∷ ts)) (sym p.2)

pub items_in_preorder : (cs : List Cut) (nodes : List Node) (ks : List ℕ) (ts : List Tree) → IsPreorder nodes ks ts → node_items cs nodes ks ≡ items_of cs ts
items_in_preorder cs nodes [] [] p = refl
items_in_preorder cs nodes [] (t ∷ ts) p = absurd p
items_in_preorder cs nodes (k ∷ ks) [] p = absurd p
items_in_preorder cs nodes (k ∷ ks) (t ∷ ts) p = items_step cs (state_at nodes k) t nodes ks ts p.1 (λ us q. items_in_preorder cs nodes ks us q)

-- the numbers are those of nodes
first_behind : (s : State) (t : Tree) (Behind : List Tree → Type 0) (ts : List Tree) → ComesFirst s t Behind ts → (us : List Tree) × Behind us
first_behind open_node t Behind ts p = (ts, p.1)
first_behind (closed_node c) t Behind ts p = (ts, p.1)
first_behind (split_node b child) t Behind ts p = (p.0 ∷ p.1 ∷ ts, p.3)

pub within_table : (nodes : List Node) (ks : List ℕ) (ts : List Tree) → IsPreorder nodes ks ts → AllByRecursion (λ k. k < length nodes) ks
within_table nodes [] ts p = tt
within_table nodes (k ∷ ks) [] p = absurd p
within_table nodes (k ∷ ks) (t ∷ ts) p = let q = first_behind (state_at nodes k) t (IsPreorder nodes ks) ts p.1 in (p.0, within_table nodes ks q.0 q.1)
