use Rattle.std.proofs.Common.{◌≡◌, ℕ, zero, suc, ◌<◌, ◌≤◌, true, ◌||◌, List, [], ◌∷◌, ◌++◌, length, map, refl, sym, ◌∙◌, ap, subst, arith, ◌⊎◌, inl, inr, ⊎_elim, eq-eqb, append_assoc}
use Rattle.std.specs.Prelude.{◌==◌}
use Rattle.std.proofs.lemmas.Bool.{cases_eq, cond-true, cond-false, ne_eqb, eqb-true, or_cases, or_left, or_right, false≢true}
use Rattle.std.proofs.lemmas.List.{map-append}
use Rattle.tspdef.specs.Sets.{has}
use Rattle.tspdef.specs.Paths.{Condition, fixed_conditions}
use Rattle.treebook.specs.Tables.{Node, parent_at, own_condition, side_at, way_within, way, path_at, sides_of}

-- each node but the root is behind its parent
abbrev pub AreBehind : List Node → Type 0
AreBehind nodes = (k : ℕ) → 0 < k → k < length nodes → parent_at nodes k < k

-- what holds of the root, and of a node where it holds of its parent, holds of each node
pub from_parents : (P : ℕ → Type 0) (nodes : List Node) → AreBehind nodes → P 0
    → ((k : ℕ) → 0 < k → k < length nodes → P (parent_at nodes k) → P k) → (fuel k : ℕ) → k ≤ fuel → k < length nodes → P k
from_parents P nodes b root more zero k f m = let e : 0 ≡ k = omega arith in subst P e root
from_parents P nodes b root more (suc fuel) k f m = ⊎_elim
    (λ e. subst P (sym e) root)
    (λ ne. let some : 0 < k = omega arith in let less = b k some m in
    more k some m (from_parents P nodes b root more fuel (parent_at nodes k) (omega arith) (omega arith)))
    (cases_eq k 0)

way_at_root : (fuel : ℕ) (nodes : List Node) (k : ℕ) → k ≡ 0 → way_within fuel nodes k ≡ []
way_at_root zero nodes k e = refl
way_at_root (suc fuel) nodes k e = cond-true (k == 0) [] (way_within fuel nodes (parent_at nodes k) ++ k ∷ []) (eq-eqb k 0 e)

way_further : (fuel : ℕ) (nodes : List Node) (k : ℕ) → (k ≡ 0 → ⊥) → way_within (suc fuel) nodes k ≡ way_within fuel nodes (parent_at nodes k) ++ k ∷ []
way_further fuel nodes k ne = cond-false (k == 0) [] (way_within fuel nodes (parent_at nodes k) ++ k ∷ []) (ne_eqb k 0 ne)

-- fuel beyond the node's number makes no difference
same_way : (nodes : List Node) → AreBehind nodes → (f g k : ℕ) → k < length nodes → k ≤ f → k ≤ g → way_within f nodes k ≡ way_within g nodes k
same_way nodes b zero g k m x y = sym (way_at_root g nodes k (omega arith))
same_way nodes b (suc f) zero k m x y = way_at_root (suc f) nodes k (omega arith)
same_way nodes b (suc f) (suc g) k m x y = ⊎_elim
    (λ e. way_at_root (suc f) nodes k e ∙ sym (way_at_root (suc g) nodes k e))
    (λ ne. let less = b k (omega arith) m in
    way_further f nodes k ne ∙ ap (λ (w : List ℕ). w ++ k ∷ []) (same_way nodes b f g (parent_at nodes k) (omega arith) (omega arith) (omega arith)) ∙ sym (way_further g nodes k ne))
    (cases_eq k 0)

-- the way to a node is that to its parent, and the node
pub way_step : (nodes : List Node) (k : ℕ) → AreBehind nodes → 0 < k → k < length nodes → way nodes k ≡ way nodes (parent_at nodes k) ++ k ∷ []
way_step nodes zero b p m = absurd (omega arith)
way_step nodes (suc j) b p m =
    let less = b (suc j) p m in
    way_further j nodes (suc j) (λ e. absurd (omega arith))
    ∙ ap (λ (w : List ℕ). w ++ suc j ∷ []) (same_way nodes b j (parent_at nodes (suc j)) (parent_at nodes (suc j)) (omega arith) (omega arith) (omega arith))

pub map_step : {A : Type 0} (f : ℕ → A) (nodes : List Node) (k : ℕ) → AreBehind nodes → 0 < k → k < length nodes
    → map f (way nodes k) ≡ map f (way nodes (parent_at nodes k)) ++ f k ∷ []
map_step f nodes k b p m = ap (map f) (way_step nodes k b p m) ∙ map-append f (way nodes (parent_at nodes k)) (k ∷ [])

-- the path of a node is that of its parent, and its own condition
pub path_step : (fixed : List (ℕ × ℕ)) (nodes : List Node) (k : ℕ) → AreBehind nodes → 0 < k → k < length nodes → path_at fixed nodes k ≡ path_at fixed nodes (parent_at nodes k) ++ own_condition nodes k ∷ []
path_step fixed nodes k b p m =
    ap (λ (cs : List Condition). fixed_conditions fixed ++ cs) (map_step (own_condition nodes) nodes k b p m)
    ∙ sym (append_assoc (fixed_conditions fixed) (map (own_condition nodes) (way nodes (parent_at nodes k))) (own_condition nodes k ∷ []))

pub sides_step : (nodes : List Node) (k : ℕ) → AreBehind nodes → 0 < k → k < length nodes → sides_of nodes k ≡ sides_of nodes (parent_at nodes k) ++ side_at nodes k ∷ []
sides_step nodes k b p m = map_step (side_at nodes) nodes k b p m

-- two functions that agree on each node but the root agree along a way
pub map_same : {A : Type 0} (f g : ℕ → A) (nodes : List Node) → AreBehind nodes → ((j : ℕ) → 0 < j → j < length nodes → f j ≡ g j)
    → (k : ℕ) → k < length nodes → map f (way nodes k) ≡ map g (way nodes k)
map_same f g nodes b same k m = from_parents (λ j. map f (way nodes j) ≡ map g (way nodes j)) nodes b refl
    (λ j p q ih. let e = same j p q in let x = map_step f nodes j b p q in let y = map_step g nodes j b p q in cc)
    k k (omega arith) m

-- ---- which nodes are on a way

has-push : (xs : List ℕ) (y j : ℕ) → has (xs ++ y ∷ []) j ≡ (has xs j || (y == j))
has-push [] y j = grind arith
has-push (x ∷ xs) y j = let ih = has-push xs y j in grind arith

-- a node on a way is on that to the parent, or the node at the end
pub on_way : (nodes : List Node) (k j : ℕ) → AreBehind nodes → 0 < k → k < length nodes → has (way nodes k) j ≡ true
    → (has (way nodes (parent_at nodes k)) j ≡ true) ⊎ (k ≡ j)
on_way nodes k j b p m h =
    let e = ap (λ (w : List ℕ). has w j) (way_step nodes k b p m) in
    let pushed = has-push (way nodes (parent_at nodes k)) k j in
    ⊎_elim (λ x. inl x) (λ x. inr (eqb-true k j x)) (or_cases (has (way nodes (parent_at nodes k)) j) (k == j) (sym pushed ∙ sym e ∙ h))

pub on_way_up : (nodes : List Node) (k j : ℕ) → AreBehind nodes → 0 < k → k < length nodes → has (way nodes (parent_at nodes k)) j ≡ true → has (way nodes k) j ≡ true
on_way_up nodes k j b p m h =
    ap (λ (w : List ℕ). has w j) (way_step nodes k b p m) ∙ has-push (way nodes (parent_at nodes k)) k j
    ∙ or_left (has (way nodes (parent_at nodes k)) j) (k == j) h

pub self_on_way : (nodes : List Node) (k : ℕ) → AreBehind nodes → 0 < k → k < length nodes → has (way nodes k) k ≡ true
self_on_way nodes k b p m =
    ap (λ (w : List ℕ). has w k) (way_step nodes k b p m) ∙ has-push (way nodes (parent_at nodes k)) k k
    ∙ or_right (has (way nodes (parent_at nodes k)) k) (k == k) (eq-eqb k k refl)

-- nodes on a way are no later than its end
pub way_range : (nodes : List Node) (k j : ℕ) → AreBehind nodes → k < length nodes → has (way nodes k) j ≡ true → j ≤ k
way_range nodes k j b m = from_parents (λ i. has (way nodes i) j ≡ true → j ≤ i) nodes b (λ h. absurd (false≢true h))
    (λ i p q ih h. let less = b i p q in ⊎_elim (λ x. let y = ih x in omega arith) (λ e. omega arith) (on_way nodes i j b p q h))
    k k (omega arith) m

-- with a node on a way its parent is, unless that is the root
pub parent_on_way : (nodes : List Node) (k c : ℕ) → AreBehind nodes → k < length nodes → 0 < parent_at nodes c → has (way nodes k) c ≡ true → has (way nodes k) (parent_at nodes c) ≡ true
parent_on_way nodes k c b m some = from_parents (λ i. has (way nodes i) c ≡ true → has (way nodes i) (parent_at nodes c) ≡ true) nodes b (λ h. absurd (false≢true h))
    (λ i p q ih h. let less = b i p q in ⊎_elim
    (λ x. on_way_up nodes i (parent_at nodes c) b p q (ih x))
    (λ e. on_way_up nodes i (parent_at nodes c) b p q
    (subst (λ x. has (way nodes (parent_at nodes i)) (parent_at nodes x) ≡ true) e
    (self_on_way nodes (parent_at nodes i) b (subst (λ x. 0 < parent_at nodes x) (sym e) some) (omega arith))))
    (on_way nodes i c b p q h))
    k k (omega arith) m

-- of two nodes under one parent only one is on a way
pub one_on_way : (nodes : List Node) (k c d : ℕ) → AreBehind nodes → k < length nodes → 0 < c → c < length nodes → 0 < d → d < length nodes
    → parent_at nodes c ≡ parent_at nodes d → (c ≡ d → ⊥) → has (way nodes k) c ≡ true → has (way nodes k) d ≡ true → ⊥
one_on_way nodes k c d b m c0 c1 d0 d1 same ne = from_parents (λ i. has (way nodes i) c ≡ true → has (way nodes i) d ≡ true → ⊥) nodes b (λ h g. false≢true h)
    (λ i p q ih h g. let less = b i p q in let cb = b c c0 c1 in let db = b d d0 d1 in ⊎_elim
    (λ x. ⊎_elim
    (λ y. ih x y)
    (λ e. let r = way_range nodes (parent_at nodes i) c b (omega arith) x in let up = ap (parent_at nodes) e in absurd (omega arith))
    (on_way nodes i d b p q g))
    (λ e. ⊎_elim
    (λ y. let r = way_range nodes (parent_at nodes i) d b (omega arith) y in let up = ap (parent_at nodes) e in absurd (omega arith))
    (λ f. ne (sym e ∙ f))
    (on_way nodes i d b p q g))
    (on_way nodes i c b p q h))
    k k (omega arith) m
