use Rattle.std.proofs.Common.{◌≡◌, ◌≢◌, ℕ, zero, suc, ◌+◌, ◌-◌, ◌<◌, ◌≤◌, List, length, refl, sym, ◌∙◌, ap, subst, arith, ⊎_elim}
use Rattle.std.proofs.lemmas.Bool.{cases_lt}
use Rattle.tspdef.specs.Closings.{Closing, Fits}
use Rattle.tspdef.specs.Trees.{Tree, open_leaves}
use Rattle.treebook.specs.Tables.{Branch, on_edge, on_clique, State, open_node, closed_node, split_node, Node, state_at, path_at, split_tree, grown, tree_within, tree_of, MaySplit, IsStateOf, IsTable, IsOpen, NoneOpen, closed_at, split_at}
use Rattle.treebook.specs.TreeInside.{HasCounts, IsFront}
use Rattle.treebook.proofs.Growing.{Grows, closed_grows, split_grows, split_length, closed_length, closing_keeps_tables, splitting_keeps_tables}

-- ---- counts

pub counts_closed : (n : ℕ) (fixed : List (ℕ × ℕ)) (nodes more : List Node) (k : ℕ) (c : Closing) (opened closed : ℕ) → more ≡ closed_at nodes k c
    → IsTable n fixed nodes → IsOpen nodes k → Fits n (path_at fixed nodes k) c → HasCounts nodes opened closed → (1 ≤ opened) × HasCounts more (opened - 1) (closed + 1)
counts_closed n fixed nodes more k c opened closed e t o f h =
    let d = closing_keeps_tables n fixed nodes k c t o f in
    let less = d.open_left in let more_settled = d.settled_now in
    let x = h.opened in let y = h.settled in let z = h.all in
    let len = closed_length nodes k c in
    (omega arith, subst (λ (ns : List Node). HasCounts ns (opened - 1) (closed + 1)) (sym e) (record { opened = omega arith; settled = omega arith; all = omega arith }))

pub counts_split : (n : ℕ) (fixed : List (ℕ × ℕ)) (nodes more : List Node) (k : ℕ) (b : Branch) (opened closed : ℕ) → more ≡ split_at nodes k b
    → IsTable n fixed nodes → IsOpen nodes k → MaySplit n (path_at fixed nodes k) b → HasCounts nodes opened closed → HasCounts more (opened + 1) (closed + 1)
counts_split n fixed nodes more k b opened closed e t o f h =
    let d = splitting_keeps_tables n fixed nodes k b t o f in
    let less = d.open_left in let more_settled = d.settled_now in
    let x = h.opened in let y = h.settled in let z = h.all in
    let len = split_length nodes k b in
    subst (λ (ns : List Node). HasCounts ns (opened + 1) (closed + 1)) (sym e) (record { opened = omega arith; settled = omega arith; all = omega arith })

-- ---- the first open node

-- nodes before the first open one stay settled
none_open_kept : (nodes more : List Node) (k f : ℕ) → Grows nodes more k → IsOpen nodes k → IsFront nodes f → NoneOpen more 0 f
none_open_kept nodes more k f g o front j x y =
    let within = front.within in
    let settled_there = front.none_before j x y in
    let apart : j ≢ k = λ e. settled_there (ap (state_at nodes) e ∙ o.is_open) in
    λ e. settled_there (sym (g.states j (omega arith) apart) ∙ e)

pub none_open_closed : (nodes more : List Node) (k : ℕ) (c : Closing) (f : ℕ) → more ≡ closed_at nodes k c → IsOpen nodes k → IsFront nodes f → NoneOpen more 0 f
none_open_closed nodes more k c f e o front = subst (λ (ns : List Node). NoneOpen ns 0 f) (sym e) (none_open_kept nodes (closed_at nodes k c) k f (closed_grows nodes k c o.within) o front)

pub none_open_split : (nodes more : List Node) (k : ℕ) (b : Branch) (f : ℕ) → more ≡ split_at nodes k b → IsOpen nodes k → IsFront nodes f → NoneOpen more 0 f
none_open_split nodes more k b f e o front = subst (λ (ns : List Node). NoneOpen ns 0 f) (sym e) (none_open_kept nodes (split_at nodes k b) k f (split_grows nodes k b o.within) o front)

pub none_open_on : (nodes : List Node) (f g : ℕ) → NoneOpen nodes 0 f → NoneOpen nodes f g → NoneOpen nodes 0 g
none_open_on nodes f g before next j x y = ⊎_elim (λ l. before j x l) (λ l. next j l y) (cases_lt j f)

split_tree_leaves : (b : Branch) (x y : Tree) → open_leaves x ≡ 0 → open_leaves y ≡ 0 → open_leaves (split_tree b x y) ≡ 0
split_tree_leaves (on_edge u v) x y e f = omega arith
split_tree_leaves (on_clique s) x y e f = omega arith

grown_leaves : (n : ℕ) (fixed : List (ℕ × ℕ)) (nodes : List Node) (k : ℕ) (s : State) (below : ℕ → Tree) → IsStateOf n fixed nodes k s → s ≢ open_node
    → ((j : ℕ) → k < j → j < length nodes → open_leaves (below j) ≡ 0) → open_leaves (grown below s) ≡ 0
grown_leaves n fixed nodes k open_node below ok ne none = absurd (ne refl)
grown_leaves n fixed nodes k (closed_node c) below ok ne none = refl
grown_leaves n fixed nodes k (split_node b child) below ok ne none =
    let behind = ok.1.behind in let within = ok.1.within in
    split_tree_leaves b (below child) (below (child + 1)) (none child behind (omega arith)) (none (child + 1) (omega arith) within)

tree_within_leaves : (n : ℕ) (fixed : List (ℕ × ℕ)) (nodes : List Node) → IsTable n fixed nodes → NoneOpen nodes 0 (length nodes) → (fuel k : ℕ) → length nodes ≤ k + fuel → k < length nodes
    → open_leaves (tree_within fuel nodes k) ≡ 0
tree_within_leaves n fixed nodes t none zero k x m = absurd (omega arith)
tree_within_leaves n fixed nodes t none (suc fuel) k x m =
    grown_leaves n fixed nodes k (state_at nodes k) (tree_within fuel nodes) (t.states k m) (none k (omega arith) m)
    (λ j less q. tree_within_leaves n fixed nodes t none fuel j (omega arith) q)

-- where no node is open the tree has no open leaf
pub no_leaves : (n : ℕ) (fixed : List (ℕ × ℕ)) (nodes : List Node) → IsTable n fixed nodes → NoneOpen nodes 0 (length nodes) → open_leaves (tree_of nodes) ≡ 0
no_leaves n fixed nodes t none = tree_within_leaves n fixed nodes t none (length nodes) 0 (omega arith) t.some
