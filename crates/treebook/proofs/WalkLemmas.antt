use Rattle.std.proofs.Common.{◌≡◌, ℕ, zero, suc, ◌+◌, ◌-◌, ◌<◌, true, false, drop, ◌||◌, List, [], ◌∷◌, ◌++◌, length, map, get_or, take, reverse, refl, sym, ◌∙◌, ap, subst, arith, ⊎_elim, append_assoc, length-append}
use Rattle.std.proofs.lemmas.Bool.{cases_lt, cases_eq, cases_Bool}
use Rattle.std.proofs.lemmas.List.{append-nil, length-map, take-map, get_or_default, get_or-append_right, get_or_append_left, reverse-append, take_more, take_all, take-append-drop, map-append}
use Rattle.std.specs.Prelude.{◌==◌}
use Rattle.tspdef.specs.Tours.{joins, has_step}
use Rattle.tspdef.specs.Paths.{Condition, fixed as pair_fixed, MayFollow, ContinuesPath, IsPath, is_absent, is_present, is_decided, IsApartFrom, IsNew, branches, fixed_conditions}
use Rattle.tspdef.proofs.RootLemmas.{branches_join, no_branches}
use Rattle.branchx.specs.Cond.{decides}
use Rattle.branchx.proofs.PathLemmas.{is_decided-push, continues-front}
use Rattle.treebook.specs.Tables.{on_edge, on_clique, open_node, closed_node, split_node, Node, State, parent_at, state_at, own_condition, condition_under, is_child, way, path_at, IsAbove, IsTable}
use Rattle.treebook.specs.Tree.{node_of, nodes_of, state_of}
use Rattle.treebook.specs.declared.node.Node as fields
use Rattle.treebook.proofs.NodeLemmas.{node_read}
use Rattle.treebook.proofs.WayLemmas.{AreBehind, from_parents, way_step, path_step}
use Rattle.treebook.proofs.TreeLemmas.{are_behind}

-- ---- what is above a node

pub record ReadsAbove (ks : List fields.Node) (k : ℕ) (x : fields.Node) : Type 0 where
  pub behind : x.parent < k
  pub parent : parent_at (nodes_of ks) k ≡ x.parent
  pub child : (y : fields.Node) → y ≡ get_or ks x.parent y → is_child (state_of y.state) k ≡ true

pub reads_above : (n : ℕ) (fixed : List (ℕ × ℕ)) (ks : List fields.Node) (k : ℕ) (x : fields.Node) → IsTable n fixed (nodes_of ks) → (k ≡ 0 → ⊥) → k < length ks → x ≡ get_or ks k x → ReadsAbove ks k x
reads_above n fixed ks k x t ne m is =
    let len = length-map ks node_of in
    let parent = ap (λ (z : Node). z.parent) (node_read ks k x m is) in
    let below = t.parents k (omega arith) (omega arith) in
    let behind = below.behind in
    record {
      behind = omega arith;
      parent = parent;
      child = λ y at. subst (λ (s : State). is_child s k ≡ true) (ap (λ (z : Node). z.state) (node_read ks x.parent y (omega arith) at))
          (subst (λ (p : ℕ). is_child (state_at (nodes_of ks) p) k ≡ true) parent below.child);
    }

pub is_above : (n : ℕ) (fixed : List (ℕ × ℕ)) (ks : List fields.Node) (k : ℕ) (x y : fields.Node) (c : Condition) → IsTable n fixed (nodes_of ks) → (k ≡ 0 → ⊥) → k < length ks → x ≡ get_or ks k x → y ≡ get_or ks x.parent y
    → c ≡ condition_under (state_of y.state) k → IsAbove (nodes_of ks) k x.parent c
is_above n fixed ks k x y c t ne m is at own =
    let len = length-map ks node_of in
    let r = reads_above n fixed ks k x t ne m is in
    let behind = r.behind in
    let b = are_behind n fixed (nodes_of ks) t in
    let state = ap (λ (z : Node). z.state) (node_read ks x.parent y (omega arith) at) in
    let same : c ≡ own_condition (nodes_of ks) k = own ∙ ap (λ (s : State). condition_under s k) (sym state) ∙ ap (λ (p : ℕ). condition_under (state_at (nodes_of ks) p) k) (sym r.parent) in
    record {
      behind = behind;
      own = same;
      way = way_step (nodes_of ks) k b (omega arith) (omega arith) ∙ ap (λ (p : ℕ). way (nodes_of ks) p ++ k ∷ []) r.parent;
      path = λ pairs. path_step pairs (nodes_of ks) k b (omega arith) (omega arith) ∙ ap (λ (p : ℕ). path_at pairs (nodes_of ks) p ++ own_condition (nodes_of ks) k ∷ []) r.parent
          ∙ ap (λ (d : Condition). path_at pairs (nodes_of ks) x.parent ++ d ∷ []) (sym same);
    }

-- ---- a step up

pub depth_step : (nodes : List Node) (k p : ℕ) (c : Condition) → IsAbove nodes k p c → length (way nodes k) ≡ length (way nodes p) + 1
depth_step nodes k p c a = ap length a.way ∙ length-append (way nodes p) (k ∷ [])

pub decided_step : (fixed : List (ℕ × ℕ)) (nodes : List Node) (k p : ℕ) (c : Condition) (u v : ℕ) → IsAbove nodes k p c → is_decided (path_at fixed nodes k) u v ≡ (is_decided (path_at fixed nodes p) u v || decides c u v)
decided_step fixed nodes k p c u v a = ap (λ (path : List Condition). is_decided path u v) (a.path fixed) ∙ is_decided-push (path_at fixed nodes p) c u v

new_push : (n : ℕ) (path : List Condition) (c : Condition) (s : List ℕ) → IsNew n path s → IsApartFrom n s c → IsNew n (path ++ c ∷ []) s
new_push n [] c s h a = (a, tt)
new_push n (x ∷ xs) c s h a = (h.0, new_push n xs c s h.1 a)

new_front : (n : ℕ) (path : List Condition) (c : Condition) (s : List ℕ) → IsNew n (path ++ c ∷ []) s → IsNew n path s × IsApartFrom n s c
new_front n [] c s h = (tt, h.0)
new_front n (x ∷ xs) c s h = let r = new_front n xs c s h.1 in ((h.0, r.0), r.1)

pub new_down : (n : ℕ) (fixed : List (ℕ × ℕ)) (nodes : List Node) (k p : ℕ) (c : Condition) (s : List ℕ) → IsAbove nodes k p c → IsNew n (path_at fixed nodes p) s → IsApartFrom n s c → IsNew n (path_at fixed nodes k) s
new_down n fixed nodes k p c s a h f = subst (λ (path : List Condition). IsNew n path s) (sym (a.path fixed)) (new_push n (path_at fixed nodes p) c s h f)

pub new_up : (n : ℕ) (fixed : List (ℕ × ℕ)) (nodes : List Node) (k p : ℕ) (c : Condition) (s : List ℕ) → IsAbove nodes k p c → IsNew n (path_at fixed nodes k) s → IsNew n (path_at fixed nodes p) s × IsApartFrom n s c
new_up n fixed nodes k p c s a h = new_front n (path_at fixed nodes p) c s (subst (λ (path : List Condition). IsNew n path s) (a.path fixed) h)

pub way_up : (nodes : List Node) (k p : ℕ) (c : Condition) (seen : List ℕ) → IsAbove nodes k p c → way nodes k ++ reverse seen ≡ way nodes p ++ reverse (seen ++ k ∷ [])
way_up nodes k p c seen a =
    ap (λ (w : List ℕ). w ++ reverse seen) a.way ∙ append_assoc (way nodes p) (k ∷ []) (reverse seen)
    ∙ ap (λ (w : List ℕ). way nodes p ++ w) (sym (reverse-append seen (k ∷ [])))

-- ---- down again

-- a node on a way is one below the root
pub way_item : (nodes : List Node) (k i d : ℕ) → AreBehind nodes → k < length nodes → i < length (way nodes k) → (0 < get_or (way nodes k) i d) × (get_or (way nodes k) i d < length nodes)
way_item nodes k i d b m = from_parents (λ j. i < length (way nodes j) → (0 < get_or (way nodes j) i d) × (get_or (way nodes j) i d < length nodes)) nodes b
    (λ l. absurd (omega arith))
    (λ j p q ih l.
    let w = way nodes (parent_at nodes j) in
    let step = way_step nodes j b p q in
    let len = ap length step ∙ length-append w (j ∷ []) in
    let P = λ (x : ℕ). (0 < x) × (x < length nodes) in
    subst (λ (ws : List ℕ). P (get_or ws i d)) (sym step) (⊎_elim
    (λ inside. subst P (sym (get_or_append_left w (j ∷ []) d i inside)) (ih inside))
    (λ past. let at : i ≡ length w = omega arith in let first : i - length w ≡ 0 = omega arith in
    subst P (sym (get_or-append_right w (j ∷ []) (length w) i d refl past ∙ ap (λ (x : ℕ). get_or (j ∷ []) x d) first)) (p, q))
    (cases_lt i (length w))))
    k k (omega arith) m

follows_at : (n : ℕ) (path more : List Condition) (i : ℕ) (c : Condition) → ContinuesPath n path more → i < length more → c ≡ get_or more i c → MayFollow n (path ++ take i more) c
follows_at n path [] i c h l e = absurd (omega arith)
follows_at n path (x ∷ xs) zero c h l e = subst (λ (p : List Condition). MayFollow n p c) (sym (append-nil path)) (subst (MayFollow n path) (sym e) h.0)
follows_at n path (x ∷ xs) (suc i) c h l e =
    subst (λ (p : List Condition). MayFollow n p c) (append_assoc path (x ∷ []) (take i xs)) (follows_at n (path ++ x ∷ []) xs i c h.1 (omega arith) e)

-- what goes on behind the front of a path
continues_rest : (n : ℕ) (path cs ds : List Condition) → ContinuesPath n path (cs ++ ds) → ContinuesPath n (path ++ cs) ds
continues_rest n path [] ds h = subst (λ (p : List Condition). ContinuesPath n p ds) (sym (append-nil path)) h
continues_rest n path (c ∷ cs) ds h = subst (λ (p : List Condition). ContinuesPath n p ds) (append_assoc path (c ∷ []) cs) (continues_rest n (path ++ c ∷ []) cs ds h.1)

map_item : (f : ℕ → Condition) (ws : List ℕ) (i k : ℕ) → i < length ws → k ≡ get_or ws i k → f k ≡ get_or (map f ws) i (f k)
map_item f [] i k l e = absurd (omega arith)
map_item f (x ∷ xs) zero k l e = ap f e
map_item f (x ∷ xs) (suc i) k l e = map_item f xs i k (omega arith) e

-- the condition at a place of a way may follow the fixed pairs and those before it
pub follows_item : (n : ℕ) (front : List Condition) (f : ℕ → Condition) (ws : List ℕ) (i : ℕ) → IsPath n (front ++ map f ws) → i < length ws → MayFollow n (front ++ map f (take i ws)) (f (get_or ws i 0))
follows_item n front f ws i h l =
    let len = length-map ws f in
    let k = get_or ws i 0 in
    let item = map_item f ws i k l (get_or_default ws i 0 k l) in
    subst (λ (p : List Condition). MayFollow n (front ++ p) (f k)) (take-map f i ws) (follows_at n front (map f ws) i (f k) (continues_rest n [] front (map f ws) h) (omega arith) item)

-- ---- at the root

-- the fixed pairs decide what they join
fixed_decide : (pairs : List (ℕ × ℕ)) (u v : ℕ) → (is_absent (fixed_conditions pairs ++ []) u v ≡ false) × (is_present (fixed_conditions pairs ++ []) u v ≡ has_step pairs u v)
fixed_decide [] u v = (refl, refl)
fixed_decide (p ∷ ps) u v = let ih = fixed_decide ps u v in (ih.0, ap (λ b. joins u v (p.0, p.1) || b) ih.1)

pub decided_at_root : (fixed : List (ℕ × ℕ)) (nodes : List Node) (k u v : ℕ) → k ≡ 0 → is_decided (path_at fixed nodes k) u v ≡ has_step fixed u v
decided_at_root fixed nodes k u v e =
    let d = fixed_decide fixed u v in
    ap (λ (j : ℕ). is_decided (path_at fixed nodes j) u v) e ∙ ap (λ b. b || is_present (fixed_conditions fixed ++ []) u v) d.0 ∙ d.1

fixed_new : (n : ℕ) (pairs : List (ℕ × ℕ)) (s : List ℕ) → IsNew n (fixed_conditions pairs ++ []) s
fixed_new n [] s = tt
fixed_new n (p ∷ ps) s = (tt, fixed_new n ps s)

pub new_at_root : (n : ℕ) (fixed : List (ℕ × ℕ)) (nodes : List Node) (k : ℕ) (s : List ℕ) → k ≡ 0 → IsNew n (path_at fixed nodes k) s
new_at_root n fixed nodes k s e = subst (λ (j : ℕ). IsNew n (path_at fixed nodes j) s) (sym e) (fixed_new n fixed s)

-- the last of the first fixed pairs
pub fixed_before : (fixed : List (ℕ × ℕ)) (nodes : List Node) (k left less : ℕ) (p : ℕ × ℕ) → k ≡ 0 → less + 1 ≡ left → less < length fixed → p ≡ get_or fixed less p
    → path_at (take left fixed) nodes k ≡ path_at (take less fixed) nodes k ++ pair_fixed p.0 p.1 ∷ []
fixed_before fixed nodes k left less p e more l is =
    let at : take left fixed ≡ take less fixed ++ p ∷ [] = ap (λ (j : ℕ). take j fixed) (sym more) ∙ take_more fixed less p l ∙ ap (λ (q : ℕ × ℕ). take less fixed ++ q ∷ []) (sym is) in
    let both : fixed_conditions (take left fixed) ≡ fixed_conditions (take less fixed) ++ pair_fixed p.0 p.1 ∷ [] = ap fixed_conditions at ∙ map-append (λ q. pair_fixed q.0 q.1) (take less fixed) (p ∷ []) in
    ap (λ (j : ℕ). path_at (take left fixed) nodes j) e
    ∙ append-nil (fixed_conditions (take left fixed)) ∙ both
    ∙ ap (λ (cs : List Condition). cs ++ pair_fixed p.0 p.1 ∷ []) (sym (append-nil (fixed_conditions (take less fixed))))
    ∙ ap (λ (j : ℕ). path_at (take less fixed) nodes j ++ pair_fixed p.0 p.1 ∷ []) (sym e)

pub none_left : (fixed : List (ℕ × ℕ)) (nodes : List Node) (k left : ℕ) → k ≡ 0 → left ≡ 0 → path_at (take left fixed) nodes k ≡ []
none_left fixed nodes k left e f = ap (λ (j : ℕ). path_at (take left fixed) nodes j) e ∙ ap (λ (j : ℕ). path_at (take j fixed) nodes 0) f

-- ---- depths

own_is_branch : (s : State) (k : ℕ) (cs : List Condition) → branches (condition_under s k ∷ cs) ≡ condition_under s k ∷ branches cs
own_is_branch open_node k cs = refl
own_is_branch (closed_node c) k cs = refl
own_is_branch (split_node (on_edge u v) child) k cs = ⊎_elim (λ x. rw x refl) (λ x. rw x refl) (cases_Bool (k == child))
own_is_branch (split_node (on_clique s) child) k cs = ⊎_elim (λ x. rw x refl) (λ x. rw x refl) (cases_Bool (k == child))

own_depths : (nodes : List Node) (ws : List ℕ) → length (branches (map (own_condition nodes) ws)) ≡ length ws
own_depths nodes [] = refl
own_depths nodes (w ∷ ws) =
    let ih = own_depths nodes ws in
    let one = ap length (own_is_branch (state_at nodes (parent_at nodes w)) w (map (own_condition nodes) ws)) in
    omega (arith, ih, one)

-- a node is as deep as there are nodes on the way to it
pub path_depth : (fixed : List (ℕ × ℕ)) (nodes : List Node) (k : ℕ) → length (branches (path_at fixed nodes k)) ≡ length (way nodes k)
path_depth fixed nodes k =
    ap length (branches_join (fixed_conditions fixed) (map (own_condition nodes) (way nodes k)) ∙ ap (λ (cs : List Condition). cs ++ branches (map (own_condition nodes) (way nodes k))) (no_branches fixed))
    ∙ own_depths nodes (way nodes k)

-- the trail's conditions are a path
pub trail_is_path : (n : ℕ) (fixed : List (ℕ × ℕ)) (nodes : List Node) (k left : ℕ) → IsPath n (path_at fixed nodes k) → (0 < k → left ≡ length fixed) → IsPath n (path_at (take left fixed) nodes k)
trail_is_path n fixed nodes k left h all = ⊎_elim
    (λ e.
    let whole : path_at fixed nodes k ≡ fixed_conditions (take left fixed) ++ fixed_conditions (drop left fixed) =
    ap (λ (j : ℕ). path_at fixed nodes j) e ∙ append-nil (fixed_conditions fixed) ∙ ap fixed_conditions (sym (take-append-drop left fixed)) ∙ map-append (λ q. pair_fixed q.0 q.1) (take left fixed) (drop left fixed) in
    subst (λ (j : ℕ). IsPath n (path_at (take left fixed) nodes j)) (sym e) (subst (IsPath n) (sym (append-nil (fixed_conditions (take left fixed))))
    (continues-front n [] (fixed_conditions (take left fixed)) (fixed_conditions (drop left fixed)) (subst (IsPath n) whole h))))
    (λ ne. subst (λ (ps : List (ℕ × ℕ)). IsPath n (path_at ps nodes k)) (sym (ap (λ (j : ℕ). take j fixed) (all (omega (arith, ne))) ∙ take_all (length fixed) fixed (omega arith))) h)
    (cases_eq k 0)
