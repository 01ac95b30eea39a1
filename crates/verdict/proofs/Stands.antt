-- which line a stage wants
use Rattle.std.proofs.Common.{◌≡◌, ℕ, zero, suc, ◌+◌, ◌-◌, ◌≤◌, Bool, true, false, cond, ◌&&◌, List, [], ◌∷◌, ◌++◌, length, Option, Some, None, refl, arith, inl, inr}
use Rattle.std.specs.Prelude.{nat_le, nat_lt, ◌==◌}
use Rattle.std.proofs.lemmas.Bool.{ltb-true}
use Rattle.tspdef.specs.Instances.{Instance}
use Rattle.tspdef.specs.Paths.{Condition}
use Rattle.certdef.specs.Items.{Item, title_line, size_line, length_line, bound_line, tour_line, cuts_line, subtour_line, comb_line, handle_line, tooth_line, odd_line, pair_line, edge_line, clique_line, leaf_line, city_line, cut_line, condition_line, open_line}
use Rattle.certdef.specs.Proofs.{Listed, subtour_cut, comb_cut, odd_cut}
use Rattle.certdef.specs.Tests.{Tests, verifier}
use Rattle.certdef.specs.Verdicts.{Head, OpenDuals, Stage, wants_title, wants_size, wants_length, wants_bound, wants_tour, wants_count, wants_cut, wants_handle, wants_tooth, wants_odd_handle, wants_pair, wants_trees, wants_duals, Outcome, go, refused, after, may_follow, cuts_on, cut_end, teeth_on, pairs_on, duals_on, with_city, with_cut_dual, with_condition, fresh_duals, on_title, on_size, on_length, on_bound, on_tour, on_count, on_cut, on_handle, on_tooth, on_odd_handle, on_pair, on_tree, on_dual, line_step}
use Rattle.verdict.specs.Faults.{IsTourLine}

-- how many duals are read
abbrev pub read_duals : OpenDuals → ℕ
read_duals o = length o.duals.cities + (length o.duals.cuts + length o.duals.conds)

-- a stage wants line m
abbrev pub StandsAt : Stage → ℕ → Type 0
StandsAt wants_title m = m ≡ 1
StandsAt (wants_size v) m = m ≡ 2
StandsAt (wants_length v) m = m ≡ 3
StandsAt (wants_bound l) m = m ≡ 4
StandsAt (wants_tour l b) m = IsTourLine l b m
StandsAt (wants_count l b) m = 1 ≤ m
StandsAt (wants_cut h c) m = 1 ≤ m
StandsAt (wants_handle h c from t) m = (m ≡ from + 1) × (1 ≤ from)
StandsAt (wants_tooth h c from t s ts) m = (m ≡ from + 2 + length ts) × (1 ≤ from)
StandsAt (wants_odd_handle h c from t) m = (m ≡ from + 1) × (1 ≤ from)
StandsAt (wants_pair h c from t s ps) m = (m ≡ from + 2 + length ps) × (1 ≤ from)
StandsAt (wants_trees h ps) m = 1 ≤ m
StandsAt (wants_duals h ps o a b c) m = (m ≡ o.at + 1 + read_duals o) × (1 ≤ o.at)

abbrev pub StandsAfter : Outcome → ℕ → Type 0
StandsAfter (go s) m = StandsAt s m
StandsAfter (refused k at) m = Unit {0}

pub length_push : {X : Type 0} (xs : List X) (x : X) → length (xs ++ x ∷ []) ≡ length xs + 1
length_push [] x = refl
length_push (y ∷ ys) x = let r = length_push ys x in omega arith

either_stands : (b : Bool) (o q : Outcome) (m : ℕ) → StandsAfter o m → StandsAfter q m → StandsAfter (cond b o q) m
either_stands true o q m a c = a
either_stands false o q m a c = c

cuts_stand : (j : Tests) (h : Head) (c m : ℕ) → 1 ≤ m → StandsAt (cuts_on j h c) m
cuts_stand j h zero m e = e
cuts_stand j h (suc c) m e = e

cut_stands : (j : Tests) (from : ℕ) (h : Head) (c : ℕ) (x : Listed) (m : ℕ) → 1 ≤ m → StandsAfter (cut_end j from h c x) m
cut_stands j from h c x m e = either_stands (j.cut x) (go (cuts_on j (record { long = h.long; bound = h.bound; cuts = h.cuts ++ x ∷ [] }) c)) (refused 5 from) m (cuts_stand j (record { long = h.long; bound = h.bound; cuts = h.cuts ++ x ∷ [] }) c m e) tt

teeth_stand : (j : Tests) (from : ℕ) (h : Head) (c t : ℕ) (s : List ℕ) (ts : List (List ℕ)) (m : ℕ) → m ≡ from + 2 + length ts → 1 ≤ from → StandsAfter (teeth_on j from h c t s ts) m
teeth_stand j from h c zero s ts m e f = cut_stands j from h c (comb_cut s ts) m (omega arith)
teeth_stand j from h c (suc t) s ts m e f = (e, f)

pairs_stand : (j : Tests) (from : ℕ) (h : Head) (c t : ℕ) (s : List ℕ) (ps : List (ℕ × ℕ)) (m : ℕ) → m ≡ from + 2 + length ps → 1 ≤ from → StandsAfter (pairs_on j from h c t s ps) m
pairs_stand j from h c zero s ps m e f = cut_stands j from h c (odd_cut s ps) m (omega arith)
pairs_stand j from h c (suc t) s ps m e f = (e, f)

duals_stand : (j : Tests) (h : Head) (ps : List (List Condition)) (o : OpenDuals) (a b c m : ℕ) → m ≡ o.at + 1 + read_duals o → 1 ≤ o.at → StandsAfter (duals_on j h ps o a b c) m
duals_stand j h ps o zero zero zero m e f = either_stands (j.closes h.bound h.cuts o.path o.duals) (go (wants_trees h ps)) (refused 7 o.at) m (omega arith) tt
duals_stand j h ps o (suc a) b c m e f = (e, f)
duals_stand j h ps o zero (suc b) c m e f = (e, f)
duals_stand j h ps o zero zero (suc c) m e f = (e, f)

title_stands : (m : ℕ) (x : Item) → m ≡ 1 → StandsAfter (on_title m x) (m + 1)
title_stands m (title_line v) e = omega arith
title_stands m x e = tt

size_stands : (j : Tests) (v m : ℕ) (x : Item) → m ≡ 2 → StandsAfter (on_size j v m x) (m + 1)
size_stands j v m (size_line c) e = either_stands (j.size c) (go (wants_length v)) (refused 2 m) (m + 1) (omega arith) tt
size_stands j v m x e = tt

length_stands : (v m : ℕ) (x : Item) → m ≡ 3 → StandsAfter (on_length v m x) (m + 1)
length_stands v m (length_line l) e = either_stands (v == 1) (go (wants_tour l l)) (go (wants_bound l)) (m + 1) (inl (refl, omega arith)) (omega arith)
length_stands v m x e = tt

below_stands : (b l m : ℕ) (t : Bool) → nat_lt b l ≡ t → m ≡ 4 → StandsAfter (cond t (go (wants_tour l b)) (refused 11 m)) (m + 1)
below_stands b l m true e f = inr (ltb-true b l e, omega arith)
below_stands b l m false e f = tt

-- a bound that passes is below the length
bound_stands : (i : Instance) (l m : ℕ) (x : Item) → m ≡ 4 → StandsAfter (on_bound (verifier i) l m x) (m + 1)
bound_stands i l m (bound_line b) e = below_stands b l m (nat_lt b l) refl e
bound_stands i l m x e = tt

tour_stands : (j : Tests) (l b m : ℕ) (x : Item) → IsTourLine l b m → StandsAfter (on_tour j l b m x) (m + 1)
tour_stands j l b m (tour_line cs) e =
    either_stands (j.tour cs) (cond (j.has_length cs l) (go (wants_count l b)) (refused 4 m)) (refused 3 m) (m + 1)
    (either_stands (j.has_length cs l) (go (wants_count l b)) (refused 4 m) (m + 1) (omega arith) tt) tt
tour_stands j l b m x e = tt

count_stands : (j : Tests) (l b m : ℕ) (x : Item) → 1 ≤ m → StandsAfter (on_count j l b m x) (m + 1)
count_stands j l b m (cuts_line c) e = cuts_stand j (record { long = l; bound = b; cuts = [] }) c (m + 1) (omega arith)
count_stands j l b m x e = tt

cut_line_stands : (j : Tests) (h : Head) (c m : ℕ) (x : Item) → 1 ≤ m → StandsAfter (on_cut j h c m x) (m + 1)
cut_line_stands j h c m (subtour_line s) e = cut_stands j m h c (subtour_cut s) (m + 1) (omega arith)
cut_line_stands j h c m (comb_line t) e = (refl, e)
cut_line_stands j h c m (odd_line t) e = (refl, e)
cut_line_stands j h c m x e = tt

handle_stands : (j : Tests) (h : Head) (c from t m : ℕ) (x : Item) → m ≡ from + 1 → 1 ≤ from → StandsAfter (on_handle j h c from t m x) (m + 1)
handle_stands j h c from t m (handle_line s) e f = teeth_stand j from h c t s [] (m + 1) (omega arith) f
handle_stands j h c from t m x e f = tt

tooth_stands : (j : Tests) (h : Head) (c from t : ℕ) (s : List ℕ) (ts : List (List ℕ)) (m : ℕ) (x : Item) → m ≡ from + 2 + length ts → 1 ≤ from → StandsAfter (on_tooth j h c from t s ts m x) (m + 1)
tooth_stands j h c from t s ts m (tooth_line q) e f = let more = length_push ts q in teeth_stand j from h c t s (ts ++ q ∷ []) (m + 1) (omega arith) f
tooth_stands j h c from t s ts m x e f = tt

odd_handle_stands : (j : Tests) (h : Head) (c from t m : ℕ) (x : Item) → m ≡ from + 1 → 1 ≤ from → StandsAfter (on_odd_handle j h c from t m x) (m + 1)
odd_handle_stands j h c from t m (handle_line s) e f = pairs_stand j from h c t s [] (m + 1) (omega arith) f
odd_handle_stands j h c from t m x e f = tt

pair_stands : (j : Tests) (h : Head) (c from t : ℕ) (s : List ℕ) (ps : List (ℕ × ℕ)) (m : ℕ) (x : Item) → m ≡ from + 2 + length ps → 1 ≤ from → StandsAfter (on_pair j h c from t s ps m x) (m + 1)
pair_stands j h c from t s ps m (pair_line u v) e f =
    let more = length_push ps (u, v) in
    either_stands (may_follow ps (u, v)) (pairs_on j from h c t s (ps ++ (u, v) ∷ [])) (refused 1 m) (m + 1) (pairs_stand j from h c t s (ps ++ (u, v) ∷ []) (m + 1) (omega arith) f) tt
pair_stands j h c from t s ps m x e f = tt

tree_stands : (j : Tests) (h : Head) (p : List Condition) (ps : List (List Condition)) (m : ℕ) (x : Item) → 1 ≤ m → StandsAfter (on_tree j h p ps m x) (m + 1)
tree_stands j h p ps m (edge_line u v) e = either_stands (j.decided p (u - 1) (v - 1)) (refused 6 m) _ (m + 1) tt (omega arith)
tree_stands j h p ps m (clique_line s) e = either_stands (j.proper s) _ (refused 5 m) (m + 1) (omega arith) tt
tree_stands j h p ps m (leaf_line a b c) e = duals_stand j h ps (fresh_duals m p) a b c (m + 1) (omega arith) e
tree_stands j h p ps m open_line e = either_stands j.opens (go (wants_trees h ps)) (refused 8 m) (m + 1) (omega arith) tt
tree_stands j h p ps m x e = tt

dual_stands : (j : Tests) (h : Head) (ps : List (List Condition)) (o : OpenDuals) (a b c m : ℕ) (x : Item) → m ≡ o.at + 1 + read_duals o → 1 ≤ o.at → StandsAfter (on_dual j h ps o a b c m x) (m + 1)
dual_stands j h ps o (suc a) b c m (city_line v x) e f =
    let more = length_push o.duals.cities (v, x) in
    either_stands (nat_le (after o.duals.cities) v) (duals_on j h ps (with_city o v x) a b c) (refused 1 m) (m + 1) (duals_stand j h ps (with_city o v x) a b c (m + 1) (omega arith) f) tt
dual_stands j h ps o zero (suc b) c m (cut_line q y) e f =
    let more = length_push o.duals.cuts (q, y) in
    either_stands (nat_le (after o.duals.cuts) q && nat_le q (length h.cuts)) (duals_on j h ps (with_cut_dual o q y) zero b c) (refused 1 m) (m + 1) (duals_stand j h ps (with_cut_dual o q y) zero b c (m + 1) (omega arith) f) tt
dual_stands j h ps o zero zero (suc c) m (condition_line d z) e f =
    let more = length_push o.duals.conds (d, z) in
    either_stands (nat_le (after o.duals.conds) d && j.names o.path d) (duals_on j h ps (with_condition o d z) zero zero c) (refused 1 m) (m + 1) (duals_stand j h ps (with_condition o d z) zero zero c (m + 1) (omega arith) f) tt
dual_stands j h ps o a b c m x e f = tt

-- a line leads to a stage that wants the next one
pub step_stands : (i : Instance) (s : Stage) (m : ℕ) (x : Option Item) → StandsAt s m → StandsAfter (line_step (verifier i) m s x) (m + 1)
step_stands i s m None e = tt
step_stands i wants_title m (Some x) e = title_stands m x e
step_stands i (wants_size v) m (Some x) e = size_stands (verifier i) v m x e
step_stands i (wants_length v) m (Some x) e = length_stands v m x e
step_stands i (wants_bound l) m (Some x) e = bound_stands i l m x e
step_stands i (wants_tour l b) m (Some x) e = tour_stands (verifier i) l b m x e
step_stands i (wants_count l b) m (Some x) e = count_stands (verifier i) l b m x e
step_stands i (wants_cut h c) m (Some x) e = cut_line_stands (verifier i) h c m x e
step_stands i (wants_handle h c from t) m (Some x) e = handle_stands (verifier i) h c from t m x e.0 e.1
step_stands i (wants_tooth h c from t s ts) m (Some x) e = tooth_stands (verifier i) h c from t s ts m x e.0 e.1
step_stands i (wants_odd_handle h c from t) m (Some x) e = odd_handle_stands (verifier i) h c from t m x e.0 e.1
step_stands i (wants_pair h c from t s ps) m (Some x) e = pair_stands (verifier i) h c from t s ps m x e.0 e.1
step_stands i (wants_trees h []) m (Some x) e = tt
step_stands i (wants_trees h (p ∷ ps)) m (Some x) e = tree_stands (verifier i) h p ps m x e
step_stands i (wants_duals h ps o a b c) m (Some x) e = dual_stands (verifier i) h ps o a b c m x e.0 e.1
