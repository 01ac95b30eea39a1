-- the reader's counts are those of the machine by the form's tests
use Rattle.std.proofs.Common.{◌≡◌, ℕ, zero, suc, ◌+◌, ◌-◌, ◌^◌, ◌<◌, Bool, true, false, cond, ◌&&◌, List, [], ◌∷◌, ◌++◌, length, map, Option, Some, None, refl, sym, ap, ◌∙◌, arith, length-append}
use Rattle.std.specs.Prelude.{nat_le, nat_lt, ◌==◌}
use Rattle.std.proofs.lemmas.Bool.{ne_eqb, lt-ltb}
use Rattle.tspdef.specs.Paths.{Condition}
use Rattle.certdef.specs.Items.{Item, title_line, size_line, length_line, bound_line, tour_line, cuts_line, subtour_line, comb_line, handle_line, tooth_line, odd_line, pair_line, edge_line, clique_line, leaf_line, city_line, cut_line, condition_line, open_line, line, item_of}
use Rattle.certdef.specs.Proofs.{Listed, subtour_cut, comb_cut, odd_cut, Proof, items, lines}
use Rattle.certdef.specs.Verdicts.{Head, OpenDuals, Stage, wants_title, wants_size, wants_length, wants_bound, wants_tour, wants_count, wants_cut, wants_handle, wants_tooth, wants_odd_handle, wants_pair, wants_trees, wants_duals, yes, Outcome, go, refused, after, may_follow, with_cut, cuts_on, teeth_on, pairs_on, duals_on, with_city, with_cut_dual, with_condition, step, line_step, at_end, run, verdict_by, on_pair, on_dual}
use Rattle.verdict.specs.Forms.{form_only, DualsLeft, Form, at_title, at_size, at_length, at_bound, at_tour, at_count, at_cut, at_handle, at_tooth, at_odd_handle, at_pair, at_trees, at_duals, cuts_then, teeth_then, pairs_then, comes_behind, duals_then, form_dual, form_step, with_next, item_next, line_next, with_item, items_after, items_read}
use Rattle.verdict.specs.Laws.{ReadIsReadable}
use Rattle.verdict.specs.WrongValues.{bound_of}
use Rattle.verdict.proofs.CutSteps.{after_last}
use Rattle.verdict.proofs.Lines.{item_again}
use Rattle.verdict.proofs.Runs.{AreOfForm}
use Rattle.verdict.proofs.Values.{form_is_readable, its_bound}

-- what is left of a leaf at a stage of the machine
abbrev left : OpenDuals → ℕ → ℕ → ℕ → DualsLeft
left o a b c = record { a = a; b = b; c = c; city = after o.duals.cities; cut = after o.duals.cuts; depth = after o.duals.conds }

-- the last pair, if any
abbrev last_of : List (ℕ × ℕ) → Option (ℕ × ℕ)
last_of [] = None
last_of (p ∷ []) = Some p
last_of (p ∷ q ∷ ps) = last_of (q ∷ ps)

abbrev form_of : Stage → Form
form_of wants_title = at_title
form_of (wants_size v) = at_size v
form_of (wants_length v) = at_length v
form_of (wants_bound l) = at_bound
form_of (wants_tour l b) = at_tour
form_of (wants_count l b) = at_count
form_of (wants_cut h m) = at_cut m (length h.cuts)
form_of (wants_handle h m from t) = at_handle m (length h.cuts) t
form_of (wants_tooth h m from t s ts) = at_tooth m (length h.cuts) t
form_of (wants_odd_handle h m from t) = at_odd_handle m (length h.cuts) t
form_of (wants_pair h m from t s ps) = at_pair m (length h.cuts) t (last_of ps)
form_of (wants_trees h ps) = at_trees (length ps) (length h.cuts)
form_of (wants_duals h ps o a b c) = at_duals (length ps) (length h.cuts) (left o a b c)

abbrev form_after : Outcome → Option Form
form_after (go s) = Some (form_of s)
form_after (refused k at) = None

more : (h : Head) (c : Listed) → length (with_cut h c).cuts ≡ length h.cuts + 1
more h c = length-append h.cuts (c ∷ [])

cuts_form : (n : ℕ) (h : Head) (m : ℕ) → form_of (cuts_on (form_only n) h m) ≡ cuts_then m (length h.cuts)
cuts_form n h zero = refl
cuts_form n h (suc m) = refl

cuts_more : (n : ℕ) (h : Head) (c : Listed) (m : ℕ) → form_of (cuts_on (form_only n) (with_cut h c) m) ≡ cuts_then m (length h.cuts + 1)
cuts_more n h c m = cuts_form n (with_cut h c) m ∙ ap (cuts_then m) (more h c)

teeth_form : (n at : ℕ) (h : Head) (m t : ℕ) (s : List ℕ) (ts : List (List ℕ)) → form_after (teeth_on (form_only n) at h m t s ts) ≡ Some (teeth_then m (length h.cuts) t)
teeth_form n at h m zero s ts = ap Some (cuts_more n h (comb_cut s ts) m)
teeth_form n at h m (suc t) s ts = refl

last_is : (ps : List (ℕ × ℕ)) (p : ℕ × ℕ) → last_of (ps ++ p ∷ []) ≡ Some p
last_is [] p = refl
last_is (q ∷ []) p = refl
last_is (q ∷ r ∷ ps) p = last_is (r ∷ ps) p

comes_last : (ps : List (ℕ × ℕ)) (q : ℕ × ℕ) → comes_behind (last_of ps) q ≡ may_follow ps q
comes_last [] q = refl
comes_last (p ∷ []) q = refl
comes_last (p ∷ r ∷ ps) q = comes_last (r ∷ ps) q

pairs_form : (n at : ℕ) (h : Head) (m t : ℕ) (s : List ℕ) (ps : List (ℕ × ℕ)) → form_after (pairs_on (form_only n) at h m t s ps) ≡ Some (pairs_then m (length h.cuts) t (last_of ps))
pairs_form n at h m zero s ps = ap Some (cuts_more n h (odd_cut s ps) m)
pairs_form n at h m (suc t) s ps = refl

-- whether a leaf has lines left
zero_eq : (a : ℕ) → (suc a == 0) ≡ false
zero_eq a = ne_eqb (suc a) 0 (λ e. omega arith)

zero_lt : (a : ℕ) → nat_lt 0 (suc a) ≡ true
zero_lt a = lt-ltb 0 (suc a) (omega arith)

one_less : (a : ℕ) → suc a - 1 ≡ a
one_less a = omega arith

duals_form : (n : ℕ) (h : Head) (ps : List (List Condition)) (o : OpenDuals) (a b c : ℕ) → form_after (duals_on (form_only n) h ps o a b c) ≡ Some (duals_then (length ps) (length h.cuts) (left o a b c))
duals_form n h ps o zero zero zero = refl
duals_form n h ps o (suc a) b c = sym (ap (λ e. Some (cond (e && (b == 0 && c == 0)) (at_trees (length ps) (length h.cuts)) (at_duals (length ps) (length h.cuts) (left o (suc a) b c)))) (zero_eq a))
duals_form n h ps o zero (suc b) c = sym (ap (λ e. Some (cond (e && c == 0) (at_trees (length ps) (length h.cuts)) (at_duals (length ps) (length h.cuts) (left o zero (suc b) c)))) (zero_eq b))
duals_form n h ps o zero zero (suc c) = sym (ap (λ e. Some (cond e (at_trees (length ps) (length h.cuts)) (at_duals (length ps) (length h.cuts) (left o zero zero (suc c))))) (zero_eq c))

chosen : (b : Bool) (o : Outcome) (f : Form) (at : ℕ) → form_after o ≡ Some f → cond b (Some f) None ≡ form_after (cond b o (refused 1 at))
chosen true o f at e = sym e
chosen false o f at e = refl

pair_form : (n at : ℕ) (h : Head) (m from t : ℕ) (s : List ℕ) (ps : List (ℕ × ℕ)) (u v : ℕ) → form_step (at_pair m (length h.cuts) t (last_of ps)) (pair_line u v) ≡ form_after (on_pair (form_only n) h m from t s ps at (pair_line u v))
pair_form n at h m from t s ps u v =
    let k = length h.cuts in
    let q : ℕ × ℕ = (u, v) in
    ap (λ b. cond b (Some (pairs_then m k t (Some q))) None) (comes_last ps q)
    ∙ chosen (may_follow ps q) (pairs_on (form_only n) from h m t s (ps ++ q ∷ [])) (pairs_then m k t (Some q)) at
    (pairs_form n from h m t s (ps ++ q ∷ []) ∙ ap (λ r. Some (pairs_then m k t r)) (last_is ps q))

length_form : (b : Bool) (l : ℕ) → Some (cond b at_tour at_bound) ≡ form_after (cond b (go (wants_tour l l)) (go (wants_bound l)))
length_form true l = refl
length_form false l = refl

-- the same where a test that is true stands before it
behind_true : (t b : Bool) (f : Form) → t ≡ true → cond (t && b) (Some f) None ≡ cond b (Some f) None
behind_true true b f e = refl
behind_true false b f e = cc

-- no line of another kind stands there
past : (t b : Bool) (f : Form) → t ≡ false → cond (t && b) (Some f) None ≡ None
past true b f e = cc
past false b f e = refl

city_form : (n : ℕ) (h : Head) (ps : List (List Condition)) (o : OpenDuals) (a b c at : ℕ) (x : Item) → form_dual (length ps) (length h.cuts) (left o (suc a) b c) x ≡ form_after (on_dual (form_only n) h ps o (suc a) b c at x)
city_form n h ps o a b c at (title_line z1) = refl
city_form n h ps o a b c at (size_line z1) = refl
city_form n h ps o a b c at (length_line z1) = refl
city_form n h ps o a b c at (bound_line z1) = refl
city_form n h ps o a b c at (tour_line z1) = refl
city_form n h ps o a b c at (cuts_line z1) = refl
city_form n h ps o a b c at (subtour_line z1) = refl
city_form n h ps o a b c at (comb_line z1) = refl
city_form n h ps o a b c at (handle_line z1) = refl
city_form n h ps o a b c at (tooth_line z1) = refl
city_form n h ps o a b c at (odd_line z1) = refl
city_form n h ps o a b c at (pair_line z1 z2) = refl
city_form n h ps o a b c at (edge_line z1 z2) = refl
city_form n h ps o a b c at (clique_line z1) = refl
city_form n h ps o a b c at (leaf_line z1 z2 z3) = refl
city_form n h ps o a b c at (city_line v w) =
    let r = length ps in
    let k = length h.cuts in
    let next : ℕ → Form = λ m. duals_then r k (record { a = m; b = b; c = c; city = v + 1; cut = after o.duals.cuts; depth = after o.duals.conds }) in
    behind_true (nat_lt 0 (suc a)) (nat_le (after o.duals.cities) v) (next (suc a - 1)) (zero_lt a)
    ∙ ap (λ m. cond (nat_le (after o.duals.cities) v) (Some (next m)) None) (one_less a)
    ∙ chosen (nat_le (after o.duals.cities) v) (duals_on (form_only n) h ps (with_city o v w) a b c) (next a) at
    (duals_form n h ps (with_city o v w) a b c ∙ ap (λ m. Some (duals_then r k (record { a = a; b = b; c = c; city = m; cut = after o.duals.cuts; depth = after o.duals.conds }))) (after_last o.duals.cities (v, w)))
city_form n h ps o a b c at (cut_line v w) = past (suc a == 0) (nat_lt 0 b && (nat_le (after o.duals.cuts) v && nat_le v (length h.cuts)))
    (duals_then (length ps) (length h.cuts) (record { a = suc a; b = b - 1; c = c; city = after o.duals.cities; cut = v + 1; depth = after o.duals.conds })) (zero_eq a)
city_form n h ps o a b c at (condition_line v w) = past (suc a == 0) (b == 0 && (nat_lt 0 c && nat_le (after o.duals.conds) v))
    (duals_then (length ps) (length h.cuts) (record { a = suc a; b = b; c = c - 1; city = after o.duals.cities; cut = after o.duals.cuts; depth = v + 1 })) (zero_eq a)
city_form n h ps o a b c at open_line = refl

cut_dual_form : (n : ℕ) (h : Head) (ps : List (List Condition)) (o : OpenDuals) (b c at : ℕ) (x : Item) → form_dual (length ps) (length h.cuts) (left o zero (suc b) c) x ≡ form_after (on_dual (form_only n) h ps o zero (suc b) c at x)
cut_dual_form n h ps o b c at (title_line z1) = refl
cut_dual_form n h ps o b c at (size_line z1) = refl
cut_dual_form n h ps o b c at (length_line z1) = refl
cut_dual_form n h ps o b c at (bound_line z1) = refl
cut_dual_form n h ps o b c at (tour_line z1) = refl
cut_dual_form n h ps o b c at (cuts_line z1) = refl
cut_dual_form n h ps o b c at (subtour_line z1) = refl
cut_dual_form n h ps o b c at (comb_line z1) = refl
cut_dual_form n h ps o b c at (handle_line z1) = refl
cut_dual_form n h ps o b c at (tooth_line z1) = refl
cut_dual_form n h ps o b c at (odd_line z1) = refl
cut_dual_form n h ps o b c at (pair_line z1 z2) = refl
cut_dual_form n h ps o b c at (edge_line z1 z2) = refl
cut_dual_form n h ps o b c at (clique_line z1) = refl
cut_dual_form n h ps o b c at (leaf_line z1 z2 z3) = refl
cut_dual_form n h ps o b c at (city_line z1 z2) = refl
cut_dual_form n h ps o b c at (cut_line v w) =
    let r = length ps in
    let k = length h.cuts in
    let test = nat_le (after o.duals.cuts) v && nat_le v k in
    let next : ℕ → Form = λ m. duals_then r k (record { a = zero; b = m; c = c; city = after o.duals.cities; cut = v + 1; depth = after o.duals.conds }) in
    behind_true (nat_lt 0 (suc b)) test (next (suc b - 1)) (zero_lt b)
    ∙ ap (λ m. cond test (Some (next m)) None) (one_less b)
    ∙ chosen test (duals_on (form_only n) h ps (with_cut_dual o v w) zero b c) (next b) at
    (duals_form n h ps (with_cut_dual o v w) zero b c ∙ ap (λ m. Some (duals_then r k (record { a = zero; b = b; c = c; city = after o.duals.cities; cut = m; depth = after o.duals.conds }))) (after_last o.duals.cuts (v, w)))
cut_dual_form n h ps o b c at (condition_line v w) = past (suc b == 0) (nat_lt 0 c && nat_le (after o.duals.conds) v)
    (duals_then (length ps) (length h.cuts) (record { a = zero; b = suc b; c = c - 1; city = after o.duals.cities; cut = after o.duals.cuts; depth = v + 1 })) (zero_eq b)
cut_dual_form n h ps o b c at open_line = refl

both : (b : Bool) (o q : Outcome) → cond b o q ≡ cond (b && true) o q
both true o q = refl
both false o q = refl

cond_dual_form : (n : ℕ) (h : Head) (ps : List (List Condition)) (o : OpenDuals) (c at : ℕ) (x : Item) → form_dual (length ps) (length h.cuts) (left o zero zero (suc c)) x ≡ form_after (on_dual (form_only n) h ps o zero zero (suc c) at x)
cond_dual_form n h ps o c at (title_line z1) = refl
cond_dual_form n h ps o c at (size_line z1) = refl
cond_dual_form n h ps o c at (length_line z1) = refl
cond_dual_form n h ps o c at (bound_line z1) = refl
cond_dual_form n h ps o c at (tour_line z1) = refl
cond_dual_form n h ps o c at (cuts_line z1) = refl
cond_dual_form n h ps o c at (subtour_line z1) = refl
cond_dual_form n h ps o c at (comb_line z1) = refl
cond_dual_form n h ps o c at (handle_line z1) = refl
cond_dual_form n h ps o c at (tooth_line z1) = refl
cond_dual_form n h ps o c at (odd_line z1) = refl
cond_dual_form n h ps o c at (pair_line z1 z2) = refl
cond_dual_form n h ps o c at (edge_line z1 z2) = refl
cond_dual_form n h ps o c at (clique_line z1) = refl
cond_dual_form n h ps o c at (leaf_line z1 z2 z3) = refl
cond_dual_form n h ps o c at (city_line z1 z2) = refl
cond_dual_form n h ps o c at (cut_line z1 z2) = refl
cond_dual_form n h ps o c at (condition_line v w) =
    let r = length ps in
    let k = length h.cuts in
    let test = nat_le (after o.duals.conds) v in
    let next : ℕ → Form = λ m. duals_then r k (record { a = zero; b = zero; c = m; city = after o.duals.cities; cut = after o.duals.cuts; depth = v + 1 }) in
    behind_true (nat_lt 0 (suc c)) test (next (suc c - 1)) (zero_lt c)
    ∙ ap (λ m. cond test (Some (next m)) None) (one_less c)
    ∙ chosen test (duals_on (form_only n) h ps (with_condition o v w) zero zero c) (next c) at
    (duals_form n h ps (with_condition o v w) zero zero c ∙ ap (λ m. Some (duals_then r k (record { a = zero; b = zero; c = c; city = after o.duals.cities; cut = after o.duals.cuts; depth = m }))) (after_last o.duals.conds (v, w)))
    ∙ ap form_after (both test (duals_on (form_only n) h ps (with_condition o v w) zero zero c) (refused 1 at))
cond_dual_form n h ps o c at open_line = refl

pub step_form : (n at : ℕ) (s : Stage) (x : Item) → form_step (form_of s) x ≡ form_after (step (form_only n) at s x)
step_form n at wants_title (title_line z1) = refl
step_form n at wants_title (size_line z1) = refl
step_form n at wants_title (length_line z1) = refl
step_form n at wants_title (bound_line z1) = refl
step_form n at wants_title (tour_line z1) = refl
step_form n at wants_title (cuts_line z1) = refl
step_form n at wants_title (subtour_line z1) = refl
step_form n at wants_title (comb_line z1) = refl
step_form n at wants_title (handle_line z1) = refl
step_form n at wants_title (tooth_line z1) = refl
step_form n at wants_title (odd_line z1) = refl
step_form n at wants_title (pair_line z1 z2) = refl
step_form n at wants_title (edge_line z1 z2) = refl
step_form n at wants_title (clique_line z1) = refl
step_form n at wants_title (leaf_line z1 z2 z3) = refl
step_form n at wants_title (city_line z1 z2) = refl
step_form n at wants_title (cut_line z1 z2) = refl
step_form n at wants_title (condition_line z1 z2) = refl
step_form n at wants_title open_line = refl
step_form n at (wants_size v) (title_line z1) = refl
step_form n at (wants_size v) (size_line z1) = refl
step_form n at (wants_size v) (length_line z1) = refl
step_form n at (wants_size v) (bound_line z1) = refl
step_form n at (wants_size v) (tour_line z1) = refl
step_form n at (wants_size v) (cuts_line z1) = refl
step_form n at (wants_size v) (subtour_line z1) = refl
step_form n at (wants_size v) (comb_line z1) = refl
step_form n at (wants_size v) (handle_line z1) = refl
step_form n at (wants_size v) (tooth_line z1) = refl
step_form n at (wants_size v) (odd_line z1) = refl
step_form n at (wants_size v) (pair_line z1 z2) = refl
step_form n at (wants_size v) (edge_line z1 z2) = refl
step_form n at (wants_size v) (clique_line z1) = refl
step_form n at (wants_size v) (leaf_line z1 z2 z3) = refl
step_form n at (wants_size v) (city_line z1 z2) = refl
step_form n at (wants_size v) (cut_line z1 z2) = refl
step_form n at (wants_size v) (condition_line z1 z2) = refl
step_form n at (wants_size v) open_line = refl
step_form n at (wants_length v) (title_line z1) = refl
step_form n at (wants_length v) (size_line z1) = refl
step_form n at (wants_length v) (length_line z1) = length_form (v == 1) z1
step_form n at (wants_length v) (bound_line z1) = refl
step_form n at (wants_length v) (tour_line z1) = refl
step_form n at (wants_length v) (cuts_line z1) = refl
step_form n at (wants_length v) (subtour_line z1) = refl
step_form n at (wants_length v) (comb_line z1) = refl
step_form n at (wants_length v) (handle_line z1) = refl
step_form n at (wants_length v) (tooth_line z1) = refl
step_form n at (wants_length v) (odd_line z1) = refl
step_form n at (wants_length v) (pair_line z1 z2) = refl
step_form n at (wants_length v) (edge_line z1 z2) = refl
step_form n at (wants_length v) (clique_line z1) = refl
step_form n at (wants_length v) (leaf_line z1 z2 z3) = refl
step_form n at (wants_length v) (city_line z1 z2) = refl
step_form n at (wants_length v) (cut_line z1 z2) = refl
step_form n at (wants_length v) (condition_line z1 z2) = refl
step_form n at (wants_length v) open_line = refl
step_form n at (wants_bound l) (title_line z1) = refl
step_form n at (wants_bound l) (size_line z1) = refl
step_form n at (wants_bound l) (length_line z1) = refl
step_form n at (wants_bound l) (bound_line z1) = refl
step_form n at (wants_bound l) (tour_line z1) = refl
step_form n at (wants_bound l) (cuts_line z1) = refl
step_form n at (wants_bound l) (subtour_line z1) = refl
step_form n at (wants_bound l) (comb_line z1) = refl
step_form n at (wants_bound l) (handle_line z1) = refl
step_form n at (wants_bound l) (tooth_line z1) = refl
step_form n at (wants_bound l) (odd_line z1) = refl
step_form n at (wants_bound l) (pair_line z1 z2) = refl
step_form n at (wants_bound l) (edge_line z1 z2) = refl
step_form n at (wants_bound l) (clique_line z1) = refl
step_form n at (wants_bound l) (leaf_line z1 z2 z3) = refl
step_form n at (wants_bound l) (city_line z1 z2) = refl
step_form n at (wants_bound l) (cut_line z1 z2) = refl
step_form n at (wants_bound l) (condition_line z1 z2) = refl
step_form n at (wants_bound l) open_line = refl
step_form n at (wants_tour l b) (title_line z1) = refl
step_form n at (wants_tour l b) (size_line z1) = refl
step_form n at (wants_tour l b) (length_line z1) = refl
step_form n at (wants_tour l b) (bound_line z1) = refl
step_form n at (wants_tour l b) (tour_line z1) = refl
step_form n at (wants_tour l b) (cuts_line z1) = refl
step_form n at (wants_tour l b) (subtour_line z1) = refl
step_form n at (wants_tour l b) (comb_line z1) = refl
step_form n at (wants_tour l b) (handle_line z1) = refl
step_form n at (wants_tour l b) (tooth_line z1) = refl
step_form n at (wants_tour l b) (odd_line z1) = refl
step_form n at (wants_tour l b) (pair_line z1 z2) = refl
step_form n at (wants_tour l b) (edge_line z1 z2) = refl
step_form n at (wants_tour l b) (clique_line z1) = refl
step_form n at (wants_tour l b) (leaf_line z1 z2 z3) = refl
step_form n at (wants_tour l b) (city_line z1 z2) = refl
step_form n at (wants_tour l b) (cut_line z1 z2) = refl
step_form n at (wants_tour l b) (condition_line z1 z2) = refl
step_form n at (wants_tour l b) open_line = refl
step_form n at (wants_count l b) (title_line z1) = refl
step_form n at (wants_count l b) (size_line z1) = refl
step_form n at (wants_count l b) (length_line z1) = refl
step_form n at (wants_count l b) (bound_line z1) = refl
step_form n at (wants_count l b) (tour_line z1) = refl
step_form n at (wants_count l b) (cuts_line k) = sym (ap Some (cuts_form n (record { long = l; bound = b; cuts = [] }) k))
step_form n at (wants_count l b) (subtour_line z1) = refl
step_form n at (wants_count l b) (comb_line z1) = refl
step_form n at (wants_count l b) (handle_line z1) = refl
step_form n at (wants_count l b) (tooth_line z1) = refl
step_form n at (wants_count l b) (odd_line z1) = refl
step_form n at (wants_count l b) (pair_line z1 z2) = refl
step_form n at (wants_count l b) (edge_line z1 z2) = refl
step_form n at (wants_count l b) (clique_line z1) = refl
step_form n at (wants_count l b) (leaf_line z1 z2 z3) = refl
step_form n at (wants_count l b) (city_line z1 z2) = refl
step_form n at (wants_count l b) (cut_line z1 z2) = refl
step_form n at (wants_count l b) (condition_line z1 z2) = refl
step_form n at (wants_count l b) open_line = refl
step_form n at (wants_cut h m) (title_line z1) = refl
step_form n at (wants_cut h m) (size_line z1) = refl
step_form n at (wants_cut h m) (length_line z1) = refl
step_form n at (wants_cut h m) (bound_line z1) = refl
step_form n at (wants_cut h m) (tour_line z1) = refl
step_form n at (wants_cut h m) (cuts_line z1) = refl
step_form n at (wants_cut h m) (subtour_line q) = sym (ap Some (cuts_more n h (subtour_cut q) m))
step_form n at (wants_cut h m) (comb_line z1) = refl
step_form n at (wants_cut h m) (handle_line z1) = refl
step_form n at (wants_cut h m) (tooth_line z1) = refl
step_form n at (wants_cut h m) (odd_line z1) = refl
step_form n at (wants_cut h m) (pair_line z1 z2) = refl
step_form n at (wants_cut h m) (edge_line z1 z2) = refl
step_form n at (wants_cut h m) (clique_line z1) = refl
step_form n at (wants_cut h m) (leaf_line z1 z2 z3) = refl
step_form n at (wants_cut h m) (city_line z1 z2) = refl
step_form n at (wants_cut h m) (cut_line z1 z2) = refl
step_form n at (wants_cut h m) (condition_line z1 z2) = refl
step_form n at (wants_cut h m) open_line = refl
step_form n at (wants_handle h m from t) (title_line z1) = refl
step_form n at (wants_handle h m from t) (size_line z1) = refl
step_form n at (wants_handle h m from t) (length_line z1) = refl
step_form n at (wants_handle h m from t) (bound_line z1) = refl
step_form n at (wants_handle h m from t) (tour_line z1) = refl
step_form n at (wants_handle h m from t) (cuts_line z1) = refl
step_form n at (wants_handle h m from t) (subtour_line z1) = refl
step_form n at (wants_handle h m from t) (comb_line z1) = refl
step_form n at (wants_handle h m from t) (handle_line q) = sym (teeth_form n from h m t q [])
step_form n at (wants_handle h m from t) (tooth_line z1) = refl
step_form n at (wants_handle h m from t) (odd_line z1) = refl
step_form n at (wants_handle h m from t) (pair_line z1 z2) = refl
step_form n at (wants_handle h m from t) (edge_line z1 z2) = refl
step_form n at (wants_handle h m from t) (clique_line z1) = refl
step_form n at (wants_handle h m from t) (leaf_line z1 z2 z3) = refl
step_form n at (wants_handle h m from t) (city_line z1 z2) = refl
step_form n at (wants_handle h m from t) (cut_line z1 z2) = refl
step_form n at (wants_handle h m from t) (condition_line z1 z2) = refl
step_form n at (wants_handle h m from t) open_line = refl
step_form n at (wants_tooth h m from t s ts) (title_line z1) = refl
step_form n at (wants_tooth h m from t s ts) (size_line z1) = refl
step_form n at (wants_tooth h m from t s ts) (length_line z1) = refl
step_form n at (wants_tooth h m from t s ts) (bound_line z1) = refl
step_form n at (wants_tooth h m from t s ts) (tour_line z1) = refl
step_form n at (wants_tooth h m from t s ts) (cuts_line z1) = refl
step_form n at (wants_tooth h m from t s ts) (subtour_line z1) = refl
step_form n at (wants_tooth h m from t s ts) (comb_line z1) = refl
step_form n at (wants_tooth h m from t s ts) (handle_line z1) = refl
step_form n at (wants_tooth h m from t s ts) (odd_line z1) = refl
step_form n at (wants_tooth h m from t s ts) (pair_line z1 z2) = refl
step_form n at (wants_tooth h m from t s ts) (tooth_line q) = sym (teeth_form n from h m t s (ts ++ q ∷ []))
step_form n at (wants_tooth h m from t s ts) (edge_line z1 z2) = refl
step_form n at (wants_tooth h m from t s ts) (clique_line z1) = refl
step_form n at (wants_tooth h m from t s ts) (leaf_line z1 z2 z3) = refl
step_form n at (wants_tooth h m from t s ts) (city_line z1 z2) = refl
step_form n at (wants_tooth h m from t s ts) (cut_line z1 z2) = refl
step_form n at (wants_tooth h m from t s ts) (condition_line z1 z2) = refl
step_form n at (wants_tooth h m from t s ts) open_line = refl
step_form n at (wants_odd_handle h m from t) (title_line z1) = refl
step_form n at (wants_odd_handle h m from t) (size_line z1) = refl
step_form n at (wants_odd_handle h m from t) (length_line z1) = refl
step_form n at (wants_odd_handle h m from t) (bound_line z1) = refl
step_form n at (wants_odd_handle h m from t) (tour_line z1) = refl
step_form n at (wants_odd_handle h m from t) (cuts_line z1) = refl
step_form n at (wants_odd_handle h m from t) (subtour_line z1) = refl
step_form n at (wants_odd_handle h m from t) (comb_line z1) = refl
step_form n at (wants_odd_handle h m from t) (handle_line q) = sym (pairs_form n from h m t q [])
step_form n at (wants_odd_handle h m from t) (tooth_line z1) = refl
step_form n at (wants_odd_handle h m from t) (odd_line z1) = refl
step_form n at (wants_odd_handle h m from t) (pair_line z1 z2) = refl
step_form n at (wants_odd_handle h m from t) (edge_line z1 z2) = refl
step_form n at (wants_odd_handle h m from t) (clique_line z1) = refl
step_form n at (wants_odd_handle h m from t) (leaf_line z1 z2 z3) = refl
step_form n at (wants_odd_handle h m from t) (city_line z1 z2) = refl
step_form n at (wants_odd_handle h m from t) (cut_line z1 z2) = refl
step_form n at (wants_odd_handle h m from t) (condition_line z1 z2) = refl
step_form n at (wants_odd_handle h m from t) open_line = refl
step_form n at (wants_pair h m from t s ps) (title_line z1) = refl
step_form n at (wants_pair h m from t s ps) (size_line z1) = refl
step_form n at (wants_pair h m from t s ps) (length_line z1) = refl
step_form n at (wants_pair h m from t s ps) (bound_line z1) = refl
step_form n at (wants_pair h m from t s ps) (tour_line z1) = refl
step_form n at (wants_pair h m from t s ps) (cuts_line z1) = refl
step_form n at (wants_pair h m from t s ps) (subtour_line z1) = refl
step_form n at (wants_pair h m from t s ps) (comb_line z1) = refl
step_form n at (wants_pair h m from t s ps) (handle_line z1) = refl
step_form n at (wants_pair h m from t s ps) (odd_line z1) = refl
step_form n at (wants_pair h m from t s ps) (pair_line u v) = pair_form n at h m from t s ps u v
step_form n at (wants_pair h m from t s ps) (tooth_line z1) = refl
step_form n at (wants_pair h m from t s ps) (edge_line z1 z2) = refl
step_form n at (wants_pair h m from t s ps) (clique_line z1) = refl
step_form n at (wants_pair h m from t s ps) (leaf_line z1 z2 z3) = refl
step_form n at (wants_pair h m from t s ps) (city_line z1 z2) = refl
step_form n at (wants_pair h m from t s ps) (cut_line z1 z2) = refl
step_form n at (wants_pair h m from t s ps) (condition_line z1 z2) = refl
step_form n at (wants_pair h m from t s ps) open_line = refl
step_form n at (wants_trees h []) (title_line z1) = refl
step_form n at (wants_trees h []) (size_line z1) = refl
step_form n at (wants_trees h []) (length_line z1) = refl
step_form n at (wants_trees h []) (bound_line z1) = refl
step_form n at (wants_trees h []) (tour_line z1) = refl
step_form n at (wants_trees h []) (cuts_line z1) = refl
step_form n at (wants_trees h []) (subtour_line z1) = refl
step_form n at (wants_trees h []) (comb_line z1) = refl
step_form n at (wants_trees h []) (handle_line z1) = refl
step_form n at (wants_trees h []) (tooth_line z1) = refl
step_form n at (wants_trees h []) (odd_line z1) = refl
step_form n at (wants_trees h []) (pair_line z1 z2) = refl
step_form n at (wants_trees h []) (edge_line z1 z2) = refl
step_form n at (wants_trees h []) (clique_line z1) = refl
step_form n at (wants_trees h []) (leaf_line z1 z2 z3) = refl
step_form n at (wants_trees h []) (city_line z1 z2) = refl
step_form n at (wants_trees h []) (cut_line z1 z2) = refl
step_form n at (wants_trees h []) (condition_line z1 z2) = refl
step_form n at (wants_trees h []) open_line = refl
step_form n at (wants_trees h (p ∷ ps)) (title_line z1) = refl
step_form n at (wants_trees h (p ∷ ps)) (size_line z1) = refl
step_form n at (wants_trees h (p ∷ ps)) (length_line z1) = refl
step_form n at (wants_trees h (p ∷ ps)) (bound_line z1) = refl
step_form n at (wants_trees h (p ∷ ps)) (tour_line z1) = refl
step_form n at (wants_trees h (p ∷ ps)) (cuts_line z1) = refl
step_form n at (wants_trees h (p ∷ ps)) (subtour_line z1) = refl
step_form n at (wants_trees h (p ∷ ps)) (comb_line z1) = refl
step_form n at (wants_trees h (p ∷ ps)) (handle_line z1) = refl
step_form n at (wants_trees h (p ∷ ps)) (tooth_line z1) = refl
step_form n at (wants_trees h (p ∷ ps)) (odd_line z1) = refl
step_form n at (wants_trees h (p ∷ ps)) (pair_line z1 z2) = refl
step_form n at (wants_trees h (p ∷ ps)) (edge_line z1 z2) = refl
step_form n at (wants_trees h (p ∷ ps)) (clique_line z1) = refl
step_form n at (wants_trees h (p ∷ ps)) (leaf_line a b c) = sym (duals_form n h ps (record { at = at; path = p; duals = record { cities = []; cuts = []; conds = [] } }) a b c)
step_form n at (wants_trees h (p ∷ ps)) (city_line z1 z2) = refl
step_form n at (wants_trees h (p ∷ ps)) (cut_line z1 z2) = refl
step_form n at (wants_trees h (p ∷ ps)) (condition_line z1 z2) = refl
step_form n at (wants_trees h (p ∷ ps)) open_line = refl
step_form n at (wants_duals h ps o zero zero zero) (title_line z1) = refl
step_form n at (wants_duals h ps o zero zero zero) (size_line z1) = refl
step_form n at (wants_duals h ps o zero zero zero) (length_line z1) = refl
step_form n at (wants_duals h ps o zero zero zero) (bound_line z1) = refl
step_form n at (wants_duals h ps o zero zero zero) (tour_line z1) = refl
step_form n at (wants_duals h ps o zero zero zero) (cuts_line z1) = refl
step_form n at (wants_duals h ps o zero zero zero) (subtour_line z1) = refl
step_form n at (wants_duals h ps o zero zero zero) (comb_line z1) = refl
step_form n at (wants_duals h ps o zero zero zero) (handle_line z1) = refl
step_form n at (wants_duals h ps o zero zero zero) (tooth_line z1) = refl
step_form n at (wants_duals h ps o zero zero zero) (odd_line z1) = refl
step_form n at (wants_duals h ps o zero zero zero) (pair_line z1 z2) = refl
step_form n at (wants_duals h ps o zero zero zero) (edge_line z1 z2) = refl
step_form n at (wants_duals h ps o zero zero zero) (clique_line z1) = refl
step_form n at (wants_duals h ps o zero zero zero) (leaf_line z1 z2 z3) = refl
step_form n at (wants_duals h ps o zero zero zero) (city_line z1 z2) = refl
step_form n at (wants_duals h ps o zero zero zero) (cut_line z1 z2) = refl
step_form n at (wants_duals h ps o zero zero zero) (condition_line z1 z2) = refl
step_form n at (wants_duals h ps o zero zero zero) open_line = refl
step_form n at (wants_duals h ps o (suc a) b c) x = city_form n h ps o a b c at x
step_form n at (wants_duals h ps o zero (suc b) c) x = cut_dual_form n h ps o b c at x
step_form n at (wants_duals h ps o zero zero (suc c)) x = cond_dual_form n h ps o c at x

-- ---- runs

some_is : {X : Type 0} (a b : X) → Some a ≡ Some b → a ≡ b
some_is a b e = cc

-- an item and what comes after it, where the machine goes on
abbrev Pairs : Option (Item × Form) → Outcome → Type 0
Pairs None (go s) = ⊥
Pairs None (refused k at) = Unit {0}
Pairs (Some q) (go s) = q.1 ≡ form_of s
Pairs (Some q) (refused k at) = ⊥

next_pairs : (x : Item) (f : Option Form) (o : Outcome) → f ≡ form_after o → Pairs (with_next x f) o
next_pairs x None (go s) e = cc
next_pairs x None (refused k at) e = tt
next_pairs x (Some f) (go s) e = cc
next_pairs x (Some f) (refused k at) e = cc

line_pairs : (n at : ℕ) (s : Stage) (f : Form) (r : Option Item) → f ≡ form_of s → Pairs (item_next f r) (line_step (form_only n) at s r)
line_pairs n at s f None e = tt
line_pairs n at s f (Some x) e = next_pairs x (form_step f x) (step (form_only n) at s x) (ap (λ g. form_step g x) e ∙ step_form n at s x)

end_yes : (at : ℕ) (l : ℕ × ℕ) (s : Stage) → at_end at s ≡ yes l.0 l.1 → (k : ℕ) × (form_of s ≡ at_trees 0 k)
end_yes at l wants_title e = cc
end_yes at l (wants_size v) e = cc
end_yes at l (wants_length v) e = cc
end_yes at l (wants_bound m) e = cc
end_yes at l (wants_tour m b) e = cc
end_yes at l (wants_count m b) e = cc
end_yes at l (wants_cut h m) e = cc
end_yes at l (wants_handle h m from t) e = cc
end_yes at l (wants_tooth h m from t s ts) e = cc
end_yes at l (wants_odd_handle h m from t) e = cc
end_yes at l (wants_pair h m from t s ps) e = cc
end_yes at l (wants_trees h []) e = (length h.cuts, refl)
end_yes at l (wants_trees h (p ∷ ps)) e = cc
end_yes at l (wants_duals h ps o a b c) e = cc

trees_same : (r q k j : ℕ) → at_trees r k ≡ at_trees q j → r ≡ q
trees_same r q k j e = cc

yes_end : (at k : ℕ) (s : Stage) → form_of s ≡ at_trees 0 k → (l : ℕ × ℕ) × (at_end at s ≡ yes l.0 l.1)
yes_end at k wants_title e = cc
yes_end at k (wants_size v) e = cc
yes_end at k (wants_length v) e = cc
yes_end at k (wants_bound m) e = cc
yes_end at k (wants_tour m b) e = cc
yes_end at k (wants_count m b) e = cc
yes_end at k (wants_cut h m) e = cc
yes_end at k (wants_handle h m from t) e = cc
yes_end at k (wants_tooth h m from t s ts) e = cc
yes_end at k (wants_odd_handle h m from t) e = cc
yes_end at k (wants_pair h m from t s ps) e = cc
yes_end at k (wants_trees h []) e = ((h.long, h.bound), refl)
yes_end at k (wants_trees h (p ∷ ps)) e = let same : suc (length ps) ≡ 0 = trees_same (suc (length ps)) 0 (length h.cuts) k e in absurd (omega arith)
yes_end at k (wants_duals h ps o a b c) e = cc

-- the reader is at the end
abbrev AtEnd : Option (List Item × Form) → Type 0
AtEnd r = (xs : List Item) × (k : ℕ) × (r ≡ Some (xs, at_trees 0 k))

with_end : (x : Item) (r : Option (List Item × Form)) → AtEnd r → AtEnd (with_item x r)
with_end x r e = (x ∷ e.0, e.1, ap (with_item x) e.2)

ends : (n at : ℕ) (l : ℕ × ℕ) (q : Option (Item × Form)) (o : Outcome) (ls : List (List ℕ)) → Pairs q o → run (form_only n) at o (map (item_of n) ls) ≡ yes l.0 l.1 → AtEnd (items_after n q ls)
ends n at l None (go s) ls p e = absurd p
ends n at l q (refused k from) ls p e = cc
ends n at l (Some q) (go s) [] p e = let w = end_yes at l s e in (q.0 ∷ [], w.0, ap (λ f. Some (q.0 ∷ [], f)) (p ∙ w.1))
ends n at l (Some q) (go s) (w ∷ ws) p e = with_end q.0 (items_after n (line_next n q.1 w) ws)
    (ends n (at + 1) l (line_next n q.1 w) (line_step (form_only n) at s (item_of n w)) ws (line_pairs n at s q.1 (item_of n w) p) e)

-- what is read behind an item, where anything is
pub record Behind (x : Item) (r : Option (List Item × Form)) (xs : List Item) (f : Form) : Type 0 where
  pub rest : List Item
  pub said : r ≡ Some (rest, f)
  pub items : xs ≡ x ∷ rest

behind : (x : Item) (r : Option (List Item × Form)) (xs : List Item) (f : Form) → with_item x r ≡ Some (xs, f) → Behind x r xs f
behind x None xs f e = cc
behind x (Some q) xs f e =
    let same : (x ∷ q.0, q.1) ≡ (xs, f) = some_is (x ∷ q.0, q.1) (xs, f) e in
    record { rest = q.0; said = ap (λ r. Some (q.0, r.1)) same; items = sym (ap (λ r. r.0) same) }

says : (n at k : ℕ) (q : Option (Item × Form)) (o : Outcome) (ls : List (List ℕ)) (xs : List Item) → Pairs q o → items_after n q ls ≡ Some (xs, at_trees 0 k) → (l : ℕ × ℕ) × (run (form_only n) at o (map (item_of n) ls) ≡ yes l.0 l.1)
says n at k None (go s) ls xs p e = absurd p
says n at k None (refused l from) ls xs p e = cc
says n at k (Some q) (refused l from) ls xs p e = absurd p
says n at k (Some q) (go s) [] xs p e = yes_end at k s (sym p ∙ ap (λ r. r.1) (some_is (q.0 ∷ [], q.1) (xs, at_trees 0 k) e))
says n at k (Some q) (go s) (w ∷ ws) xs p e =
    let b = behind q.0 (items_after n (line_next n q.1 w) ws) xs (at_trees 0 k) e in
    says n (at + 1) k (line_next n q.1 w) (line_step (form_only n) at s (item_of n w)) ws b.rest (line_pairs n at s q.1 (item_of n w) p) b.said

-- ---- the items that are given are those of the lines

next_some : (y : Item) (f : Option Form) (x : Item) (g : Form) → with_next y f ≡ Some (x, g) → Some y ≡ Some x
next_some y None x g e = cc
next_some y (Some f) x g e = ap (λ r. Some r.0) (some_is (y, f) (x, g) e)

next_item : (f : Form) (r : Option Item) (x : Item) (g : Form) → item_next f r ≡ Some (x, g) → r ≡ Some x
next_item f None x g e = cc
next_item f (Some y) x g e = next_some y (form_step f y) x g e

pub record Given (n : ℕ) (q : Option (Item × Form)) (ls : List (List ℕ)) (xs : List Item) : Type 0 where
  pub first : Item
  pub form : Form
  pub rest : List Item
  pub next : q ≡ Some (first, form)
  pub items : xs ≡ first ∷ rest
  pub said : map (item_of n) ls ≡ map Some rest

given : (n : ℕ) (q : Option (Item × Form)) (ls : List (List ℕ)) (xs : List Item) (f : Form) → items_after n q ls ≡ Some (xs, f) → Given n q ls xs
given n None ls xs f e = cc
given n (Some q) [] xs f e = record { first = q.0; form = q.1; rest = []; next = refl; items = sym (ap (λ r. r.0) (some_is (q.0 ∷ [], q.1) (xs, f) e)); said = refl }
given n (Some q) (w ∷ ws) xs f e =
    let b = behind q.0 (items_after n (line_next n q.1 w) ws) xs f e in
    let g = given n (line_next n q.1 w) ws b.rest f b.said in
    let head = next_item q.1 (item_of n w) g.first g.form g.next in
    record {
      first = q.0;
      form = q.1;
      rest = b.rest;
      next = refl;
      items = b.items;
      said = ap (λ r. r ∷ map (item_of n) ws) head ∙ ap (λ r. Some g.first ∷ r) g.said ∙ ap (map Some) (sym g.items);
    }

not_begun : (k : ℕ) → at_title ≡ at_trees 0 k → ⊥
not_begun k e = cc

read_given : (n : ℕ) (ls : List (List ℕ)) (xs : List Item) (k : ℕ) → items_read n ls ≡ Some (xs, at_trees 0 k) → map (item_of n) ls ≡ map Some xs
read_given n [] xs k e = absurd (not_begun k (ap (λ r. r.1) (some_is ([], at_title) (xs, at_trees 0 k) e)))
read_given n (w ∷ ws) xs k e =
    let g = given n (line_next n at_title w) ws xs (at_trees 0 k) e in
    let head = next_item at_title (item_of n w) g.first g.form g.next in
    ap (λ r. r ∷ map (item_of n) ws) head ∙ ap (λ r. Some g.first ∷ r) g.said ∙ ap (map Some) (sym g.items)

read_says : (n k : ℕ) (ls : List (List ℕ)) (xs : List Item) → items_read n ls ≡ Some (xs, at_trees 0 k) → (l : ℕ × ℕ) × (verdict_by (form_only n) ls ≡ yes l.0 l.1)
read_says n k [] xs e = absurd (not_begun k (ap (λ r. r.1) (some_is ([], at_title) (xs, at_trees 0 k) e)))
read_says n k (w ∷ ws) xs e = says n 2 k (line_next n at_title w) (line_step (form_only n) 1 wants_title (item_of n w)) ws xs (line_pairs n 1 wants_title at_title (item_of n w) refl) e

read_ends : (n : ℕ) (l : ℕ × ℕ) (ls : List (List ℕ)) → verdict_by (form_only n) ls ≡ yes l.0 l.1 → AtEnd (items_read n ls)
read_ends n l [] e = cc
read_ends n l (w ∷ ws) e = ends n 2 l (line_next n at_title w) (line_step (form_only n) 1 wants_title (item_of n w)) ws (line_pairs n 1 wants_title at_title (item_of n w) refl) e

spelled_again : (n : ℕ) (xs : List Item) → n < 2 ^ 32 → AreOfForm n xs → map (item_of n) (map line xs) ≡ map Some xs
spelled_again n [] h f = refl
spelled_again n (x ∷ xs) h f = ap (λ r. r ∷ map (item_of n) (map line xs)) (item_again n x h f.0) ∙ ap (λ r. Some x ∷ r) (spelled_again n xs h f.1)

some_same : (xs ys : List Item) → map Some xs ≡ map Some ys → xs ≡ ys
some_same [] [] e = refl
some_same [] (y ∷ ys) e = cc
some_same (x ∷ xs) [] e = cc
some_same (x ∷ xs) (y ∷ ys) e =
    let head : x ≡ y = cc in
    let tail : map Some xs ≡ map Some ys = cc in
    ap (λ r. r ∷ xs) head ∙ ap (λ r. y ∷ r) (some_same xs ys tail)

same_items : (n : ℕ) (ls : List (List ℕ)) (xs : List Item) (p : Proof) → n < 2 ^ 32 → map (item_of n) ls ≡ map Some xs → ls ≡ lines p → AreOfForm n (items p) → xs ≡ items p
same_items n ls xs p h said e f = some_same xs (items p) (sym said ∙ ap (map (item_of n)) e ∙ spelled_again n (items p) h f)

pub read_is_readable : ReadIsReadable
read_is_readable n ls xs h = (
  λ e. let y = read_says n e.0 ls xs e.1 in
      let a = (form_is_readable n ls y.0.0 y.0.1 h).0 y.1 in
      (a.0, record { lines = a.1.lines; readable = a.1.readable; items = same_items n ls xs a.0 h (read_given n ls xs e.0 e.1) a.1.lines a.1.readable.lines }),
  λ a. let p = a.0 in
      let b = bound_of p.long p.bound in
      let e = read_ends n (p.long, b) ls ((form_is_readable n ls p.long b h).1 (p, record { lines = a.1.lines; readable = a.1.readable; same = refl; bound = its_bound p.bound p.long })) in
      let same = same_items n ls e.0 p h (read_given n ls e.0 e.1 e.2) a.1.lines a.1.readable.lines in
      (e.1, e.2 ∙ ap (λ r. Some (r, at_trees 0 e.1)) (same ∙ sym a.1.items)),
)
