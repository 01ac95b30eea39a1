-- What stays where an open node of a table is closed or split, and what its children are.
use Rattle.std.proofs.Common.{◌≡◌, ℕ, ◌+◌, ◌-◌, ◌<◌, ◌≤◌, true, cond, List, [], ◌∷◌, ◌++◌, length, get_or, refl, sym, ap, subst, ◌∙◌, arith, ⊎_elim, eq-eqb, length-set}
use Rattle.std.specs.Prelude.{◌==◌}
use Rattle.std.proofs.lemmas.Bool.{cases_eq, false≢true, ne_eqb}
use Rattle.std.proofs.lemmas.List.{get_or_append_left, get_or-append_right}
use Rattle.tspdef.specs.Paths.{Condition}
use Rattle.tspdef.specs.Trees.{Side, first, second}
use Rattle.treebook.specs.Tables.{Branch, State, split_node, Node, open_under, node_at, parent_at, state_at, condition_on, side_under, condition_under, side_at, path_at, sides_of, is_child, IsTable, IsOpen, with_state, split_at}
use Rattle.treebook.proofs.WayLemmas.{from_parents, path_step, sides_step}
use Rattle.treebook.proofs.TreeLemmas.{are_behind}
use Rattle.treebook.proofs.Growing.{Grows, paths_kept, state_set, split_length, split_grows}

-- ---- the places of nodes stay

-- the parent of a node is split, so it is no open node
parent_apart : (n : ℕ) (fixed : List (ℕ × ℕ)) (nodes : List Node) (k j : ℕ) → IsTable n fixed nodes → IsOpen nodes k → 0 < j → j < length nodes → parent_at nodes j ≡ k → ⊥
parent_apart n fixed nodes k j t o p m e =
    let b = t.parents j p m in
    false≢true (sym (ap (λ (s : State). is_child s j) o.is_open) ∙ subst (λ (x : ℕ). is_child (state_at nodes x) j ≡ true) e b.child)

pub sides_kept : (n : ℕ) (fixed : List (ℕ × ℕ)) (nodes more : List Node) (k j : ℕ) → IsTable n fixed nodes → IsTable n fixed more → IsOpen nodes k → Grows nodes more k → j < length nodes → sides_of more j ≡ sides_of nodes j
sides_kept n fixed nodes more k j t u o g m =
    let behind = are_behind n fixed nodes t in
    let behind' = are_behind n fixed more u in
    let longer = g.longer in
    from_parents (λ j. sides_of more j ≡ sides_of nodes j) nodes behind refl
    (λ j p q ih.
    let up = parent_at nodes j in
    let less = behind j p q in
    let parent : parent_at more j ≡ up = g.parents j q in
    let above : state_at more up ≡ state_at nodes up = g.states up (omega arith) (parent_apart n fixed nodes k j t o p q) in
    let side : side_at more j ≡ side_at nodes j = ap (λ (x : ℕ). side_under (state_at more x) j) parent ∙ ap (λ (s : State). side_under s j) above in
    sides_step more j behind' p (omega arith)
    ∙ ap (λ (x : ℕ). sides_of more x ++ side_at more j ∷ []) parent
    ∙ ap (λ (x : List Side). x ++ side_at more j ∷ []) ih
    ∙ ap (λ (x : Side). sides_of nodes up ++ x ∷ []) side
    ∙ sym (sides_step nodes j behind p q))
    j j (omega arith) m

pub open_kept : (nodes more : List Node) (k j : ℕ) → Grows nodes more k → IsOpen nodes j → (j ≡ k → ⊥) → IsOpen more j
open_kept nodes more k j g o ne = let longer = g.longer in let within = o.within in record { within = omega arith; is_open = g.states j within ne ∙ o.is_open }

-- ---- the children of a split

split_new : (nodes : List Node) (k : ℕ) (b : Branch) (j : ℕ) → length nodes ≤ j → j < length nodes + 2 → node_at (split_at nodes k b) j ≡ open_under k
split_new nodes k b j x y =
    let len = length-set nodes k (record { parent = parent_at nodes k; state = split_node b (length nodes) }) in
    get_or-append_right (with_state nodes k (split_node b (length nodes))) (open_under k ∷ open_under k ∷ []) (length nodes) j (open_under 0) len x
    ∙ ⊎_elim
    (λ e. ap (λ (i : ℕ). get_or (open_under k ∷ open_under k ∷ []) i (open_under 0)) e)
    (λ ne. let e : j - length nodes ≡ 1 = omega arith in ap (λ (i : ℕ). get_or (open_under k ∷ open_under k ∷ []) i (open_under 0)) e)
    (cases_eq (j - length nodes) 0)

split_state : (nodes : List Node) (k : ℕ) (b : Branch) → k < length nodes → state_at (split_at nodes k b) k ≡ split_node b (length nodes)
split_state nodes k b m =
    let len = length-set nodes k (record { parent = parent_at nodes k; state = split_node b (length nodes) }) in
    ap (λ (x : Node). x.state) (get_or_append_left (with_state nodes k (split_node b (length nodes))) (open_under k ∷ open_under k ∷ []) (open_under 0) k (omega arith))
    ∙ state_set nodes k (split_node b (length nodes)) m

-- a child of a split node: open, below it, on one side of it
pub record IsChildAt (fixed : List (ℕ × ℕ)) (nodes more : List Node) (k : ℕ) (b : Branch) (side : Side) (j : ℕ) : Type 0 where
  pub is_open : IsOpen more j
  pub path : path_at fixed more j ≡ path_at fixed nodes k ++ condition_on b side ∷ []
  pub place : sides_of more j ≡ sides_of nodes k ++ side ∷ []

child_at : (n : ℕ) (fixed : List (ℕ × ℕ)) (nodes : List Node) (k : ℕ) (b : Branch) (side : Side) (j : ℕ) → IsTable n fixed nodes → IsTable n fixed (split_at nodes k b) → IsOpen nodes k
    → length nodes ≤ j → j < length nodes + 2 → cond (j == length nodes) first second ≡ side → IsChildAt fixed nodes (split_at nodes k b) k b side j
child_at n fixed nodes k b side j t u o low high is =
    let more = split_at nodes k b in
    let len = split_length nodes k b in
    let within = o.within in
    let new = split_new nodes k b j low high in
    let parent : parent_at more j ≡ k = ap (λ (x : Node). x.parent) new in
    let state = split_state nodes k b within in
    let g = split_grows nodes k b within in
    let behind = are_behind n fixed more u in
    record {
      is_open = record { within = omega arith; is_open = ap (λ (x : Node). x.state) new };
      path = path_step fixed more j behind (omega arith) (omega arith)
          ∙ ap (λ (x : ℕ). path_at fixed more x ++ condition_under (state_at more x) j ∷ []) parent
          ∙ ap (λ (x : State). path_at fixed more k ++ condition_under x j ∷ []) state
          ∙ ap (λ (x : Side). path_at fixed more k ++ condition_on b x ∷ []) is
          ∙ ap (λ (x : List Condition). x ++ condition_on b side ∷ []) (paths_kept n fixed nodes more k k t o g within);
      place = sides_step more j behind (omega arith) (omega arith)
          ∙ ap (λ (x : ℕ). sides_of more x ++ side_under (state_at more x) j ∷ []) parent
          ∙ ap (λ (x : State). sides_of more k ++ side_under x j ∷ []) state
          ∙ ap (λ (x : Side). sides_of more k ++ x ∷ []) is
          ∙ ap (λ (x : List Side). x ++ side ∷ []) (sides_kept n fixed nodes more k k t u o g within);
    }

pub first_child : (n : ℕ) (fixed : List (ℕ × ℕ)) (nodes : List Node) (k : ℕ) (b : Branch) → IsTable n fixed nodes → IsTable n fixed (split_at nodes k b) → IsOpen nodes k → IsChildAt fixed nodes (split_at nodes k b) k b first (length nodes)
first_child n fixed nodes k b t u o = child_at n fixed nodes k b first (length nodes) t u o (omega arith) (omega arith) (ap (λ x. cond x first second) (eq-eqb (length nodes) (length nodes) refl))

pub second_child : (n : ℕ) (fixed : List (ℕ × ℕ)) (nodes : List Node) (k : ℕ) (b : Branch) → IsTable n fixed nodes → IsTable n fixed (split_at nodes k b) → IsOpen nodes k → IsChildAt fixed nodes (split_at nodes k b) k b second (length nodes + 1)
second_child n fixed nodes k b t u o =
    child_at n fixed nodes k b second (length nodes + 1) t u o (omega arith) (omega arith) (ap (λ x. cond x first second) (ne_eqb (length nodes + 1) (length nodes) (λ e. absurd (omega arith))))
