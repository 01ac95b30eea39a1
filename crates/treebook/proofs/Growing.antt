use Rattle.std.proofs.Common.{◌≡◌, ℕ, zero, suc, ◌+◌, ◌-◌, ◌<◌, ◌≤◌, true, false, cond, List, [], ◌∷◌, ◌++◌, length, map, get_or, refl, sym, ◌∙◌, ap, subst, arith, ◌⊎◌, inl, inr, ⊎_elim, append_assoc, eq-eqb, length-set, length-append}
use Rattle.std.specs.Prelude.{◌==◌}
use Rattle.std.proofs.lemmas.Bool.{cases_Bool, cases_eq, cases_lt, eqb-true, or_cases, or_left, or_right, false≢true, false_from_ne_true}
use Rattle.std.proofs.lemmas.List.{append-nil, get_or-set_same, get_or-set_other, get_or_append_left, get_or-append_right}
use Rattle.tspdef.specs.Sets.{has}
use Rattle.tspdef.specs.Paths.{Condition, fixed_conditions}
use Rattle.tspdef.specs.Closings.{Closing, Fits}
use Rattle.tspdef.specs.Trees.{Tree, open_leaf, closed_leaf, Side, first, second, with_leaf, open_leaves, settled}
use Rattle.treebook.specs.Tables.{Branch, on_edge, on_clique, State, open_node, closed_node, split_node, Node, open_under, node_at, parent_at, state_at, side_under, condition_under, side_at, own_condition, way_within, way, path_at, sides_of, split_tree, grown, tree_within, tree_at, tree_of, is_child, IsBelowParent, MaySplit, IsStateOf, IsTable, IsOpen, with_state, closed_at, split_at}
use Rattle.treebook.specs.Laws.{ClosingKeepsTables, SplittingKeepsTables}
use Rattle.treebook.proofs.WayLemmas.{AreBehind, from_parents, map_same, sides_step, self_on_way, parent_on_way, one_on_way}
use Rattle.treebook.proofs.TreeLemmas.{are_behind, tree_within-same, tree_step, IsChildOf, child_facts, open_tree, open_nodes_are_open_leaves}
use Rattle.treebook.proofs.PlaceLemmas.{open_leaves-with_leaf, settled-with_leaf}

-- one open node has another state, and nodes may have come behind all others
pub record Grows (nodes more : List Node) (k : ℕ) : Type 0 where
  pub longer : length nodes ≤ length more
  pub parents : (j : ℕ) → j < length nodes → parent_at more j ≡ parent_at nodes j
  pub states : (j : ℕ) → j < length nodes → (j ≡ k → ⊥) → state_at more j ≡ state_at nodes j

-- ---- ways and paths stay

way_within-kept : (nodes more : List Node) (k : ℕ) → Grows nodes more k → AreBehind nodes → (fuel j : ℕ) → j < length nodes → way_within fuel more j ≡ way_within fuel nodes j
way_within-kept nodes more k g b zero j m = refl
way_within-kept nodes more k g b (suc fuel) j m = ⊎_elim
    (λ e. subst (λ x. way_within (suc fuel) more x ≡ way_within (suc fuel) nodes x) (sym e) refl)
    (λ ne.
    let less = b j (omega arith) m in
    let up = g.parents j m in
    let ih = way_within-kept nodes more k g b fuel (parent_at nodes j) (omega arith) in
    let rest : way_within fuel more (parent_at more j) ≡ way_within fuel nodes (parent_at nodes j) = ap (way_within fuel more) up ∙ ih in
    ap (λ (w : List ℕ). cond (j == 0) [] (w ++ j ∷ [])) rest)
    (cases_eq j 0)

-- the parent of a node is split, so it is no open node
parent_apart : (n : ℕ) (fixed : List (ℕ × ℕ)) (nodes : List Node) (k j : ℕ) → IsTable n fixed nodes → IsOpen nodes k → 0 < j → j < length nodes → parent_at nodes j ≡ k → ⊥
parent_apart n fixed nodes k j t o p m e =
    let b = t.parents j p m in
    false≢true (sym (ap (λ (s : State). is_child s j) o.is_open) ∙ subst (λ (x : ℕ). is_child (state_at nodes x) j ≡ true) e b.child)

-- so the state above a node stays
state_above-kept : (n : ℕ) (fixed : List (ℕ × ℕ)) (nodes more : List Node) (k j : ℕ) → IsTable n fixed nodes → IsOpen nodes k → Grows nodes more k → 0 < j → j < length nodes
    → state_at more (parent_at more j) ≡ state_at nodes (parent_at nodes j)
state_above-kept n fixed nodes more k j t o g p m =
    let b = t.parents j p m in let less = b.behind in
    ap (state_at more) (g.parents j m) ∙ g.states (parent_at nodes j) (omega arith) (parent_apart n fixed nodes k j t o p m)

pub paths_kept : (n : ℕ) (fixed : List (ℕ × ℕ)) (nodes more : List Node) (k j : ℕ) → IsTable n fixed nodes → IsOpen nodes k → Grows nodes more k → j < length nodes → path_at fixed more j ≡ path_at fixed nodes j
paths_kept n fixed nodes more k j t o g m =
    let b = are_behind n fixed nodes t in
    ap (λ (cs : List Condition). fixed_conditions fixed ++ cs) (ap (λ (w : List ℕ). map (own_condition more) w) (way_within-kept nodes more k g b j j m)
    ∙ map_same (own_condition more) (own_condition nodes) nodes b (λ i p q. ap (λ (s : State). condition_under s i) (state_above-kept n fixed nodes more k i t o g p q)) j m)

-- ---- the table stays one

state_kept : (n : ℕ) (fixed : List (ℕ × ℕ)) (nodes more : List Node) (k j : ℕ) (s : State) → IsTable n fixed nodes → IsOpen nodes k → Grows nodes more k → j < length nodes → IsStateOf n fixed nodes j s → IsStateOf n fixed more j s
state_kept n fixed nodes more k j open_node t o g m ok = tt
state_kept n fixed nodes more k j (closed_node c) t o g m ok = subst (λ (p : List Condition). Fits n p c) (sym (paths_kept n fixed nodes more k j t o g m)) ok
state_kept n fixed nodes more k j (split_node b child) t o g m ok =
    let behind = ok.1.behind in let within = ok.1.within in let longer = g.longer in (
      subst (λ (p : List Condition). MaySplit n p b) (sym (paths_kept n fixed nodes more k j t o g m)) ok.0,
      record { behind = behind; within = omega arith; one = g.parents child (omega arith) ∙ ok.1.one; other = g.parents (child + 1) within ∙ ok.1.other },
    )

-- nodes that came are open, below their parents
pub record IsNewNode (more : List Node) (j : ℕ) : Type 0 where
  pub below : IsBelowParent more j
  pub is_open : state_at more j ≡ open_node

pub table_kept : (n : ℕ) (fixed : List (ℕ × ℕ)) (nodes more : List Node) (k : ℕ) → IsTable n fixed nodes → IsOpen nodes k → Grows nodes more k
    → IsStateOf n fixed more k (state_at more k) → ((j : ℕ) → length nodes ≤ j → j < length more → IsNewNode more j) → IsTable n fixed more
table_kept n fixed nodes more k t o g here new =
    let some = t.some in let longer = g.longer in record {
      pairs = t.pairs;
      some = omega arith;
      parents = λ j p q. ⊎_elim
          (λ m. let b = t.parents j p m in let less = b.behind in let up = g.parents j m in
          record { behind = omega arith; child = ap (λ (s : State). is_child s j) (state_above-kept n fixed nodes more k j t o g p m) ∙ b.child })
          (λ m. (new j m q).below)
          (cases_lt j (length nodes));
      states = λ j q. ⊎_elim
          (λ m. ⊎_elim
          (λ e. subst (λ (x : ℕ). IsStateOf n fixed more x (state_at more x)) (sym e) here)
          (λ ne. subst (IsStateOf n fixed more j) (sym (g.states j m ne)) (state_kept n fixed nodes more k j (state_at nodes j) t o g m (t.states j m)))
          (cases_eq j k))
          (λ m. subst (IsStateOf n fixed more j) (sym (new j m q).is_open) tt)
          (cases_lt j (length nodes));
    }

-- ---- the tree changes at the node alone

-- no node behind one that is not on the way to k is on it
child_off_way : (n : ℕ) (fixed : List (ℕ × ℕ)) (nodes : List Node) (k j c : ℕ) → IsTable n fixed nodes → k < length nodes → 0 < j → has (way nodes k) j ≡ false → IsChildOf nodes j c → has (way nodes k) c ≡ false
child_off_way n fixed nodes k j c t m some off child = false_from_ne_true (has (way nodes k) c) (λ on.
    let up = child.parent in
    let above = parent_on_way nodes k c (are_behind n fixed nodes t) m (omega arith) on in
    false≢true (sym off ∙ ap (has (way nodes k)) (sym up) ∙ above))

grown-apart : (fixed : List (ℕ × ℕ)) (nodes : List Node) (n j : ℕ) (s : State) (below other : ℕ → Tree) → IsStateOf n fixed nodes j s
    → ((c : ℕ) → is_child s c ≡ true → below c ≡ other c) → grown below s ≡ grown other s
grown-apart fixed nodes n j open_node below other ok same = refl
grown-apart fixed nodes n j (closed_node c) below other ok same = refl
grown-apart fixed nodes n j (split_node b child) below other ok same =
    let e = same child (or_left (child == child) (child == child + 1) (eq-eqb child child refl)) in
    let f = same (child + 1) (or_right (child + 1 == child) (child + 1 == child + 1) (eq-eqb (child + 1) (child + 1) refl)) in
    cc

tree_within-kept : (n : ℕ) (fixed : List (ℕ × ℕ)) (nodes more : List Node) (k : ℕ) → IsTable n fixed nodes → IsOpen nodes k → Grows nodes more k
    → (fuel j : ℕ) → 0 < j → j < length nodes → has (way nodes k) j ≡ false → tree_within fuel more j ≡ tree_within fuel nodes j
tree_within-kept n fixed nodes more k t o g zero j p m off = refl
tree_within-kept n fixed nodes more k t o g (suc fuel) j p m off =
    let apart : j ≡ k → ⊥ = λ e. false≢true (sym off ∙ subst (λ (x : ℕ). has (way nodes k) x ≡ true) (sym e) (self_on_way nodes k (are_behind n fixed nodes t) (omega arith) o.within)) in
    ap (grown (tree_within fuel more)) (g.states j m apart)
    ∙ grown-apart fixed nodes n j (state_at nodes j) (tree_within fuel more) (tree_within fuel nodes) (t.states j m)
    (λ c h. let f = child_facts n fixed nodes j (state_at nodes j) c (t.states j m) h in let behind = f.behind in
    tree_within-kept n fixed nodes more k t o g fuel c (omega arith) f.within (child_off_way n fixed nodes k j c t o.within p off f))

-- the tree at a node that is not on the way to k stays
tree_at-kept : (n : ℕ) (fixed : List (ℕ × ℕ)) (nodes more : List Node) (k j : ℕ) → IsTable n fixed nodes → IsOpen nodes k → Grows nodes more k
    → 0 < j → j < length nodes → has (way nodes k) j ≡ false → tree_at more j ≡ tree_at nodes j
tree_at-kept n fixed nodes more k j t o g p m off =
    let longer = g.longer in
    tree_within-kept n fixed nodes more k t o g (length more) j p m off ∙ tree_within-same n fixed nodes t (length more) (length nodes) j (omega arith) (omega arith) m

in_first : (b : Branch) (x y new : Tree) (rest : List Side) → split_tree b (with_leaf x rest new) y ≡ with_leaf (split_tree b x y) (first ∷ rest) new
in_first (on_edge u v) x y new rest = refl
in_first (on_clique s) x y new rest = refl

in_second : (b : Branch) (x y new : Tree) (rest : List Side) → split_tree b x (with_leaf y rest new) ≡ with_leaf (split_tree b x y) (second ∷ rest) new
in_second (on_edge u v) x y new rest = refl
in_second (on_clique s) x y new rest = refl

-- where the tree at the child j changes at a place, and the one at the other child stays, that at the node changes at the place below j
grown-with : (s : State) (j : ℕ) (below other : ℕ → Tree) (rest : List Side) (new : Tree) → is_child s j ≡ true
    → other j ≡ with_leaf (below j) rest new → ((c : ℕ) → is_child s c ≡ true → (c ≡ j → ⊥) → other c ≡ below c)
    → grown other s ≡ with_leaf (grown below s) (side_under s j ∷ rest) new
grown-with open_node j below other rest new h e same = absurd (false≢true h)
grown-with (closed_node c) j below other rest new h e same = absurd (false≢true h)
grown-with (split_node b child) j below other rest new h e same = ⊎_elim
    (λ x.
    let is = eqb-true j child x in
    let one : other child ≡ with_leaf (below child) rest new = subst (λ (y : ℕ). other y ≡ with_leaf (below y) rest new) is e in
    let two = same (child + 1) (or_right (child + 1 == child) (child + 1 == child + 1) (eq-eqb (child + 1) (child + 1) refl)) (λ z. absurd (omega arith)) in
    let inside = in_first b (below child) (below (child + 1)) new rest in
    rw x (cc))
    (λ x.
    let is : j ≡ child + 1 = ⊎_elim (λ z. absurd (false≢true (sym x ∙ z))) (λ z. eqb-true j (child + 1) z) (or_cases (j == child) (j == child + 1) h) in
    let two : other (child + 1) ≡ with_leaf (below (child + 1)) rest new = subst (λ (y : ℕ). other y ≡ with_leaf (below y) rest new) is e in
    let one = same child (or_left (child == child) (child == child + 1) (eq-eqb child child refl)) (λ z. absurd (omega arith)) in
    let inside = in_second b (below child) (below (child + 1)) new rest in
    rw x (cc))
    (cases_Bool (j == child))

-- from a node on the way to k up to the root
up_from : (n : ℕ) (fixed : List (ℕ × ℕ)) (nodes more : List Node) (k j : ℕ) → IsTable n fixed nodes → IsOpen nodes k → Grows nodes more k → IsTable n fixed more → j < length nodes
    → (rest : List Side) (new : Tree) → (j ≡ 0) ⊎ (has (way nodes k) j ≡ true) → tree_at more j ≡ with_leaf (tree_at nodes j) rest new
    → tree_of more ≡ with_leaf (tree_of nodes) (sides_of nodes j ++ rest) new
up_from n fixed nodes more k j t o g u m =
    let behind = are_behind n fixed nodes t in
    from_parents (λ i. (rest : List Side) (new : Tree) → (i ≡ 0) ⊎ (has (way nodes k) i ≡ true) → tree_at more i ≡ with_leaf (tree_at nodes i) rest new
    → tree_of more ≡ with_leaf (tree_of nodes) (sides_of nodes i ++ rest) new)
    nodes behind (λ rest new on e. e)
    (λ i p q ih rest new on e.
    let b = t.parents i p q in let less = b.behind in let longer = g.longer in
    let up = parent_at nodes i in
    let s = state_at nodes up in
    let inside : parent_at nodes i < length nodes = omega arith in
    let here : has (way nodes k) i ≡ true = ⊎_elim (λ z. absurd (omega arith)) (λ z. z) on in
    let above : (up ≡ 0) ⊎ (has (way nodes k) up ≡ true) = ⊎_elim (λ z. inl z) (λ z. inr (parent_on_way nodes k i behind o.within (omega arith) here)) (cases_eq up 0) in
    let siblings : (c : ℕ) → is_child s c ≡ true → (c ≡ i → ⊥) → tree_at more c ≡ tree_at nodes c = λ c h ne.
    (let f = child_facts n fixed nodes up s c (t.states up inside) h in let fb = f.behind in let within = f.within in
    tree_at-kept n fixed nodes more k c t o g (omega arith) within
    (false_from_ne_true (has (way nodes k) c) (λ z. one_on_way nodes k c i behind o.within (omega arith) within p q f.parent ne z here))) in
    let same_state = g.states up inside (parent_apart n fixed nodes k i t o p q) in
    let step = tree_step n fixed more up u (omega arith) ∙ ap (grown (tree_at more)) same_state
    ∙ grown-with s i (tree_at nodes) (tree_at more) rest new b.child e siblings
    ∙ ap (λ (x : Tree). with_leaf x (side_at nodes i ∷ rest) new) (sym (tree_step n fixed nodes up t inside)) in
    ih (side_at nodes i ∷ rest) new above step
    ∙ ap (λ (sides : List Side). with_leaf (tree_of nodes) sides new)
    (sym (append_assoc (sides_of nodes up) (side_at nodes i ∷ []) rest) ∙ ap (λ (sides : List Side). sides ++ rest) (sym (sides_step nodes i behind p q))))
    j j (omega arith) m

pub tree_changes : (n : ℕ) (fixed : List (ℕ × ℕ)) (nodes more : List Node) (k : ℕ) → IsTable n fixed nodes → IsOpen nodes k → Grows nodes more k → IsTable n fixed more
    → tree_of more ≡ with_leaf (tree_of nodes) (sides_of nodes k) (tree_at more k)
tree_changes n fixed nodes more k t o g u =
    let leaf = open_tree n fixed nodes k t o in
    up_from n fixed nodes more k k t o g u o.within [] (tree_at more k)
    (⊎_elim (λ e. inl e) (λ ne. inr (self_on_way nodes k (are_behind n fixed nodes t) (omega arith) o.within)) (cases_eq k 0))
    (ap (λ (x : Tree). with_leaf x [] (tree_at more k)) (sym leaf))
    ∙ ap (λ (sides : List Side). with_leaf (tree_of nodes) sides (tree_at more k)) (append-nil (sides_of nodes k))

-- ---- closing

pub state_set : (nodes : List Node) (k : ℕ) (s : State) → k < length nodes → state_at (with_state nodes k s) k ≡ s
state_set nodes k s m = ap (λ (x : Node). x.state) (get_or-set_same nodes k (record { parent = parent_at nodes k; state = s }) (open_under 0) m)

pub state_set_other : (nodes : List Node) (k : ℕ) (s : State) (j : ℕ) → (j ≡ k → ⊥) → state_at (with_state nodes k s) j ≡ state_at nodes j
state_set_other nodes k s j ne = ap (λ (x : Node). x.state) (get_or-set_other nodes k j (record { parent = parent_at nodes k; state = s }) (open_under 0) ne)

pub parent_set : (nodes : List Node) (k : ℕ) (s : State) (j : ℕ) → k < length nodes → parent_at (with_state nodes k s) j ≡ parent_at nodes j
parent_set nodes k s j m = ⊎_elim
    (λ e. subst (λ (x : ℕ). parent_at (with_state nodes k s) x ≡ parent_at nodes x) (sym e)
    (ap (λ (x : Node). x.parent) (get_or-set_same nodes k (record { parent = parent_at nodes k; state = s }) (open_under 0) m)))
    (λ ne. ap (λ (x : Node). x.parent) (get_or-set_other nodes k j (record { parent = parent_at nodes k; state = s }) (open_under 0) ne))
    (cases_eq j k)

pub closed_length : (nodes : List Node) (k : ℕ) (c : Closing) → length (closed_at nodes k c) ≡ length nodes
closed_length nodes k c = length-set nodes k (record { parent = parent_at nodes k; state = closed_node c })

pub closed_grows : (nodes : List Node) (k : ℕ) (c : Closing) → k < length nodes → Grows nodes (closed_at nodes k c) k
closed_grows nodes k c m =
    let len = length-set nodes k (record { parent = parent_at nodes k; state = closed_node c }) in
    record { longer = omega arith; parents = λ j q. parent_set nodes k (closed_node c) j m; states = λ j q ne. state_set_other nodes k (closed_node c) j ne }

closed_table : (n : ℕ) (fixed : List (ℕ × ℕ)) (nodes : List Node) (k : ℕ) (c : Closing) → IsTable n fixed nodes → IsOpen nodes k → Fits n (path_at fixed nodes k) c → IsTable n fixed (closed_at nodes k c)
closed_table n fixed nodes k c t o f =
    let g = closed_grows nodes k c o.within in
    let len = length-set nodes k (record { parent = parent_at nodes k; state = closed_node c }) in
    table_kept n fixed nodes (closed_at nodes k c) k t o g
    (subst (IsStateOf n fixed (closed_at nodes k c) k) (sym (state_set nodes k (closed_node c) o.within))
    (subst (λ (p : List Condition). Fits n p c) (sym (paths_kept n fixed nodes (closed_at nodes k c) k k t o g o.within)) f))
    (λ j x y. absurd (omega arith))

pub closing_keeps_tables : ClosingKeepsTables
closing_keeps_tables n fixed nodes k c t o f =
    let more = closed_at nodes k c in
    let g = closed_grows nodes k c o.within in
    let u = closed_table n fixed nodes k c t o f in
    let len = length-set nodes k (record { parent = parent_at nodes k; state = closed_node c }) in
    let within = o.within in
    let here : tree_at more k ≡ closed_leaf c = tree_step n fixed more k u (omega arith) ∙ ap (grown (tree_at more)) (state_set nodes k (closed_node c) within) in
    let tree : tree_of more ≡ with_leaf (tree_of nodes) (sides_of nodes k) (closed_leaf c) = tree_changes n fixed nodes more k t o g u ∙ ap (with_leaf (tree_of nodes) (sides_of nodes k)) here in
    let leaf = open_nodes_are_open_leaves n fixed nodes k t o in
    let opened = ap open_leaves tree in
    let closed = ap settled tree in
    let a = open_leaves-with_leaf (fixed_conditions fixed) (tree_of nodes) (sides_of nodes k) (path_at fixed nodes k) (closed_leaf c) leaf in
    let b = settled-with_leaf (fixed_conditions fixed) (tree_of nodes) (sides_of nodes k) (path_at fixed nodes k) (closed_leaf c) leaf in
    record {
      is_table = u;
      tree = tree;
      open_left = omega arith;
      settled_now = omega arith;
      paths = λ j m. paths_kept n fixed nodes more k j t o g m;
    }

-- ---- splitting

pub split_length : (nodes : List Node) (k : ℕ) (b : Branch) → length (split_at nodes k b) ≡ length nodes + 2
split_length nodes k b =
    let len = length-set nodes k (record { parent = parent_at nodes k; state = split_node b (length nodes) }) in
    let both = length-append (with_state nodes k (split_node b (length nodes))) (open_under k ∷ open_under k ∷ []) in
    omega arith

split_old : (nodes : List Node) (k : ℕ) (b : Branch) (j : ℕ) → j < length nodes → node_at (split_at nodes k b) j ≡ node_at (with_state nodes k (split_node b (length nodes))) j
split_old nodes k b j m =
    let len = length-set nodes k (record { parent = parent_at nodes k; state = split_node b (length nodes) }) in
    get_or_append_left (with_state nodes k (split_node b (length nodes))) (open_under k ∷ open_under k ∷ []) (open_under 0) j (omega arith)

split_new : (nodes : List Node) (k : ℕ) (b : Branch) (j : ℕ) → length nodes ≤ j → j < length nodes + 2 → node_at (split_at nodes k b) j ≡ open_under k
split_new nodes k b j x y =
    let len = length-set nodes k (record { parent = parent_at nodes k; state = split_node b (length nodes) }) in
    get_or-append_right (with_state nodes k (split_node b (length nodes))) (open_under k ∷ open_under k ∷ []) (length nodes) j (open_under 0) len x
    ∙ ⊎_elim
    (λ e. ap (λ (i : ℕ). get_or (open_under k ∷ open_under k ∷ []) i (open_under 0)) e)
    (λ ne. let e : j - length nodes ≡ 1 = omega arith in ap (λ (i : ℕ). get_or (open_under k ∷ open_under k ∷ []) i (open_under 0)) e)
    (cases_eq (j - length nodes) 0)

pub split_grows : (nodes : List Node) (k : ℕ) (b : Branch) → k < length nodes → Grows nodes (split_at nodes k b) k
split_grows nodes k b m =
    let len = split_length nodes k b in
    record {
      longer = omega arith;
      parents = λ j q. ap (λ (x : Node). x.parent) (split_old nodes k b j q) ∙ parent_set nodes k (split_node b (length nodes)) j m;
      states = λ j q ne. ap (λ (x : Node). x.state) (split_old nodes k b j q) ∙ state_set_other nodes k (split_node b (length nodes)) j ne;
    }

split_state : (nodes : List Node) (k : ℕ) (b : Branch) → k < length nodes → state_at (split_at nodes k b) k ≡ split_node b (length nodes)
split_state nodes k b m = ap (λ (x : Node). x.state) (split_old nodes k b k m) ∙ state_set nodes k (split_node b (length nodes)) m

split_table : (n : ℕ) (fixed : List (ℕ × ℕ)) (nodes : List Node) (k : ℕ) (b : Branch) → IsTable n fixed nodes → IsOpen nodes k → MaySplit n (path_at fixed nodes k) b → IsTable n fixed (split_at nodes k b)
split_table n fixed nodes k b t o f =
    let more = split_at nodes k b in
    let len = split_length nodes k b in
    let within = o.within in
    let g = split_grows nodes k b within in
    let state = split_state nodes k b within in
    let parent : (j : ℕ) → length nodes ≤ j → j < length nodes + 2 → parent_at more j ≡ k = λ j x y. ap (λ (z : Node). z.parent) (split_new nodes k b j x y) in
    table_kept n fixed nodes more k t o g
    (subst (IsStateOf n fixed more k) (sym state) (
      subst (λ (p : List Condition). MaySplit n p b) (sym (paths_kept n fixed nodes more k k t o g within)) f,
      record { behind = within; within = omega arith; one = parent (length nodes) (omega arith) (omega arith); other = parent (length nodes + 1) (omega arith) (omega arith) },
    ))
    (λ j x y.
    let up = parent j x (omega arith) in record {
      below = record {
        behind = omega arith;
        child = ap (λ (z : ℕ). is_child (state_at more z) j) up ∙ ap (λ (s : State). is_child s j) state
            ∙ ⊎_elim (λ e. or_left (j == length nodes) (j == length nodes + 1) (eq-eqb j (length nodes) e))
            (λ ne. or_right (j == length nodes) (j == length nodes + 1) (eq-eqb j (length nodes + 1) (omega arith)))
            (cases_eq j (length nodes));
      };
      is_open = ap (λ (z : Node). z.state) (split_new nodes k b j x (omega arith));
    })

split_tree_open : (b : Branch) → open_leaves (split_tree b open_leaf open_leaf) ≡ 2
split_tree_open (on_edge u v) = refl
split_tree_open (on_clique s) = refl

split_tree_settled : (b : Branch) → settled (split_tree b open_leaf open_leaf) ≡ 1
split_tree_settled (on_edge u v) = refl
split_tree_settled (on_clique s) = refl

pub splitting_keeps_tables : SplittingKeepsTables
splitting_keeps_tables n fixed nodes k b t o f =
    let more = split_at nodes k b in
    let len = split_length nodes k b in
    let within = o.within in
    let g = split_grows nodes k b within in
    let u = split_table n fixed nodes k b t o f in
    let leaf_at : (j : ℕ) → length nodes ≤ j → j < length nodes + 2 → tree_at more j ≡ open_leaf = λ j x y.
    open_tree n fixed more j u (record { within = omega arith; is_open = ap (λ (z : Node). z.state) (split_new nodes k b j x y) }) in
    let one = leaf_at (length nodes) (omega arith) (omega arith) in
    let other = leaf_at (length nodes + 1) (omega arith) (omega arith) in
    let here : tree_at more k ≡ split_tree b open_leaf open_leaf = tree_step n fixed more k u (omega arith) ∙ ap (grown (tree_at more)) (split_state nodes k b within) ∙ cc in
    let tree : tree_of more ≡ with_leaf (tree_of nodes) (sides_of nodes k) (split_tree b open_leaf open_leaf) = tree_changes n fixed nodes more k t o g u ∙ ap (with_leaf (tree_of nodes) (sides_of nodes k)) here in
    let leaf = open_nodes_are_open_leaves n fixed nodes k t o in
    let opened = ap open_leaves tree in
    let closed = ap settled tree in
    let a = open_leaves-with_leaf (fixed_conditions fixed) (tree_of nodes) (sides_of nodes k) (path_at fixed nodes k) (split_tree b open_leaf open_leaf) leaf in
    let c = settled-with_leaf (fixed_conditions fixed) (tree_of nodes) (sides_of nodes k) (path_at fixed nodes k) (split_tree b open_leaf open_leaf) leaf in
    let two = split_tree_open b in
    let more_settled = split_tree_settled b in
    record {
      is_table = u;
      tree = tree;
      open_left = omega arith;
      settled_now = omega arith;
      paths = λ j m. paths_kept n fixed nodes more k j t o g m;
    }
