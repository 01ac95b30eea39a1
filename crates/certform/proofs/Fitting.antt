-- The tree of a table is one that a proof can be written for.
use Rattle.std.proofs.Common.{◌≡◌, ℕ, zero, suc, ◌+◌, ◌<◌, ◌≤◌, Bool, cond, List, [], ◌∷◌, ◌++◌, length, refl, ◌∙◌, ap, subst, arith, eq-eqb}
use Rattle.std.proofs.lemmas.Bool.{ne_eqb}
use Rattle.std.proofs.lemmas.List.{append-nil}
use Rattle.tspdef.specs.Paths.{Condition, fixed_conditions}
use Rattle.tspdef.specs.Trees.{Tree, first, second}
use Rattle.treebook.specs.Tables.{Branch, on_edge, on_clique, State, open_node, closed_node, split_node, Node, parent_at, state_at, condition_on, condition_under, path_at, split_tree, grown, tree_within, MaySplit, HasChildren, IsStateOf, IsTable, tree_of}
use Rattle.treebook.proofs.WayLemmas.{path_step}
use Rattle.treebook.proofs.TreeLemmas.{are_behind}
use Rattle.certform.specs.Faithful.{IsFitting, TablesFit}

-- the path of a child
child_path : (n : ℕ) (fixed : List (ℕ × ℕ)) (nodes : List Node) (k : ℕ) (s : State) (c : ℕ) → IsTable n fixed nodes → state_at nodes k ≡ s → k < c → c < length nodes → parent_at nodes c ≡ k
    → path_at fixed nodes c ≡ path_at fixed nodes k ++ condition_under s c ∷ []
child_path n fixed nodes k s c t is behind within parent =
    path_step fixed nodes c (are_behind n fixed nodes t) (omega arith) within
    ∙ ap (λ (p : ℕ). path_at fixed nodes p ++ condition_under (state_at nodes p) c ∷ []) parent
    ∙ ap (λ (x : State). path_at fixed nodes k ++ condition_under x c ∷ []) is

first_path : (n : ℕ) (fixed : List (ℕ × ℕ)) (nodes : List Node) (k : ℕ) (b : Branch) (c : ℕ) → IsTable n fixed nodes → state_at nodes k ≡ split_node b c → HasChildren nodes k c
    → path_at fixed nodes c ≡ path_at fixed nodes k ++ condition_on b first ∷ []
first_path n fixed nodes k b c t is h =
    let within = h.within in
    child_path n fixed nodes k (split_node b c) c t is h.behind (omega arith) h.one
    ∙ ap (λ (x : Bool). path_at fixed nodes k ++ condition_on b (cond x first second) ∷ []) (eq-eqb c c refl)

second_path : (n : ℕ) (fixed : List (ℕ × ℕ)) (nodes : List Node) (k : ℕ) (b : Branch) (c : ℕ) → IsTable n fixed nodes → state_at nodes k ≡ split_node b c → HasChildren nodes k c
    → path_at fixed nodes (c + 1) ≡ path_at fixed nodes k ++ condition_on b second ∷ []
second_path n fixed nodes k b c t is h =
    let behind = h.behind in
    child_path n fixed nodes k (split_node b c) (c + 1) t is (omega arith) h.within h.other
    ∙ ap (λ (x : Bool). path_at fixed nodes k ++ condition_on b (cond x first second) ∷ []) (ne_eqb (c + 1) c (λ e. absurd (omega arith)))

split_fits : (n : ℕ) (path : List Condition) (b : Branch) (x y : Tree) → MaySplit n path b
    → IsFitting n (path ++ condition_on b first ∷ []) x → IsFitting n (path ++ condition_on b second ∷ []) y → IsFitting n path (split_tree b x y)
split_fits n path (on_edge u v) x y f a b = (f, (a, b))
split_fits n path (on_clique s) x y f a b = (f, (a, b))

grown_fits : (n : ℕ) (fixed : List (ℕ × ℕ)) (nodes : List Node) (k : ℕ) (s : State) (below : ℕ → Tree) → IsTable n fixed nodes → state_at nodes k ≡ s → IsStateOf n fixed nodes k s
    → ((j : ℕ) → k < j → j < length nodes → IsFitting n (path_at fixed nodes j) (below j)) → IsFitting n (path_at fixed nodes k) (grown below s)
grown_fits n fixed nodes k open_node below t is ok fits = tt
grown_fits n fixed nodes k (closed_node c) below t is ok fits = ok
grown_fits n fixed nodes k (split_node b child) below t is ok fits =
    let h = ok.1 in let behind = h.behind in let within = h.within in
    split_fits n (path_at fixed nodes k) b (below child) (below (child + 1)) ok.0
    (subst (λ (p : List Condition). IsFitting n p (below child)) (first_path n fixed nodes k b child t is h) (fits child behind (omega arith)))
    (subst (λ (p : List Condition). IsFitting n p (below (child + 1))) (second_path n fixed nodes k b child t is h) (fits (child + 1) (omega arith) within))

fits_within : (n : ℕ) (fixed : List (ℕ × ℕ)) (nodes : List Node) → IsTable n fixed nodes → (fuel k : ℕ) → length nodes ≤ k + fuel → k < length nodes → IsFitting n (path_at fixed nodes k) (tree_within fuel nodes k)
fits_within n fixed nodes t zero k x m = tt
fits_within n fixed nodes t (suc fuel) k x m =
    grown_fits n fixed nodes k (state_at nodes k) (tree_within fuel nodes) t refl (t.states k m)
    (λ j less q. fits_within n fixed nodes t fuel j (omega arith) q)

pub tables_fit : TablesFit
tables_fit n fixed nodes t = subst (λ (p : List Condition). IsFitting n p (tree_of nodes)) (append-nil (fixed_conditions fixed)) (fits_within n fixed nodes t (length nodes) 0 (omega arith) t.some)
