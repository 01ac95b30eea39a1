-- what is wrong with a line that is refused
use Rattle.std.proofs.Common.{◌≡◌, ℕ, zero, suc, ◌+◌, ◌-◌, ◌≤◌, Bool, true, false, cond, ◌&&◌, List, [], ◌∷◌, ◌++◌, length, map, Option, Some, None, ℤ, refl, sym, ap, ◌∙◌, subst, arith, ◌⊎◌, inl, inr, ⊎_elim}
use Rattle.std.specs.Prelude.{nat_le, nat_lt, ◌==◌, ◌≤ℤ◌}
use Rattle.std.specs.Int.Signed.{lt_z}
use Rattle.std.proofs.lemmas.Int.{ints}
use Rattle.std.proofs.lemmas.Bool.{and_parts, and_from, eq-eqb, leb-true, le-leb, ltb-true, leb-false}
use Rattle.tspdef.specs.Sets.{RisesFrom, IsProper}
use Rattle.tspdef.specs.Instances.{Instance, length_in}
use Rattle.tspdef.specs.Cuts.{subtour, comb, odd}
use Rattle.tspdef.specs.Paths.{Condition, absent, present, two, four, condition_at, is_decided}
use Rattle.tspdef.specs.Bounds.{bound, needed}
use Rattle.certdef.specs.Items.{Item, title_line, size_line, length_line, bound_line, tour_line, cuts_line, subtour_line, comb_line, handle_line, tooth_line, odd_line, pair_line, edge_line, clique_line, leaf_line, city_line, cut_line, condition_line, open_line, rises, is_set, in_bounds, fits, longest, line}
use Rattle.certdef.specs.Proofs.{subtour_cut, comb_cut, odd_cut}
use Rattle.certdef.specs.Accepted.{from_zero, pair_from_zero, cuts_of, closing_of, is_clique}
use Rattle.certdef.specs.Tests.{verifier, is_tour_from_one, is_proper, is_cut, closes_leaf}
use Rattle.certdef.specs.Verdicts.{Head, OpenDuals, Stage, wants_title, wants_size, wants_length, wants_bound, wants_tour, wants_count, wants_cut, wants_handle, wants_tooth, wants_odd_handle, wants_pair, wants_trees, wants_duals, Outcome, go, refused, after, may_follow, with_cut, cuts_on, teeth_on, pairs_on, duals_on, with_city, with_cut_dual, with_condition, fresh_duals, on_title, on_size, on_length, on_bound, on_tour, on_count, on_cut, on_handle, on_tooth, on_odd_handle, on_pair, on_tree, on_dual, is_end, line_step}
use Rattle.verdict.specs.Faults.{IsOfForm, IsTourLine, comb_with, odd_with, leaf_with, Fault, not_a_proof, other_size, not_a_tour, wrong_length, set_of_all, not_a_comb, not_an_odd_cut, decided_edge, weak_leaf, open_leaf, trailing, wrong_bound}
use Rattle.verdict.proofs.Lines.{rises_length}
use Rattle.verdict.proofs.Decisions.{tour_from_one_yes, yes_tour_from_one, yes_proper, yes_cut, yes_clique}
use Rattle.verdict.proofs.Stands.{read_duals, StandsAt, length_push}

-- ---- tests that fail

failed : (b : Bool) (s : Stage) (r m k at : ℕ) → cond b (go s) (refused r m) ≡ refused k at → (b ≡ false) × (k ≡ r) × (at ≡ m)
failed true s r m k at e = cc
failed false s r m k at e = (refl, cc, cc)

met : (b : Bool) (s : Stage) (r m k at : ℕ) → cond b (refused r m) (go s) ≡ refused k at → (b ≡ true) × (k ≡ r) × (at ≡ m)
met true s r m k at e = (refl, cc, cc)
met false s r m k at e = cc

tour_failed : (b c : Bool) (s : Stage) (m k at : ℕ) → cond b (cond c (go s) (refused 4 m)) (refused 3 m) ≡ refused k at
    → ((b ≡ false) × (k ≡ 3) × (at ≡ m)) ⊎ ((b ≡ true) × (c ≡ false) × (k ≡ 4) × (at ≡ m))
tour_failed true true s m k at e = cc
tour_failed true false s m k at e = inr (refl, refl, cc, cc)
tour_failed false c s m k at e = inl (refl, cc, cc)

in_turn : (b : Bool) (o : Outcome) (r m k at : ℕ) → cond b o (refused r m) ≡ refused k at → ((b ≡ false) × (refused r m ≡ refused k at)) ⊎ ((b ≡ true) × (o ≡ refused k at))
in_turn true o r m k at e = inr (refl, e)
in_turn false o r m k at e = inl (refl, e)

not_both : (b : Bool) → b ≡ false → b ≡ true → ⊥
not_both b e f = cc

-- ---- sets

from_zero_rises : (n from : ℕ) (s : List ℕ) → 1 ≤ from → rises from n s ≡ true → RisesFrom n (from - 1) (from_zero s)
from_zero_rises n from [] some e = tt
from_zero_rises n from (c ∷ cs) some e =
    let p = and_parts (nat_le from c && nat_le c n) (rises (c + 1) n cs) e in
    let q = and_parts (nat_le from c) (nat_le c n) p.0 in
    let low = leb-true from c q.0 in
    let high = leb-true c n q.1 in
    let same : c + 1 - 1 ≡ c - 1 + 1 = omega arith in
    ((omega arith, omega arith), subst (λ d. RisesFrom n d (from_zero cs)) same (from_zero_rises n (c + 1) cs (omega arith) p.1))

length_zero : (s : List ℕ) → length (from_zero s) ≡ length s
length_zero [] = refl
length_zero (c ∷ cs) = let r = length_zero cs in omega arith

-- a set that is not proper is that of all cities
all_if : (n : ℕ) (s : List ℕ) (b : Bool) → is_set n s ≡ true → nat_lt (length s) n ≡ b → (IsProper n (from_zero s) → ⊥) → length s ≡ n
all_if n s true f b none =
    let p = and_parts (nat_lt 0 (length s)) (rises 1 n s) f in
    let some = ltb-true 0 (length s) p.0 in
    let few = ltb-true (length s) n b in
    let same = length_zero s in
    absurd (none (record { set = from_zero_rises n 1 s (omega arith) p.1; some = omega arith; not_all = omega arith }))
all_if n s false f b none =
    let p = and_parts (nat_lt 0 (length s)) (rises 1 n s) f in
    let few = rises_length 1 n s (omega arith) p.1 in
    let many = leb-false (suc (length s)) n b in
    omega arith

whole_set : (n : ℕ) (s : List ℕ) → is_set n s ≡ true → (IsProper n (from_zero s) → ⊥) → length s ≡ n
whole_set n s f none = all_if n s (nat_lt (length s) n) f refl none

set_of : (n : ℕ) (i : Item) → fits n i ≡ true → in_bounds n i ≡ true
set_of n i f = (and_parts (in_bounds n i) (nat_le (length (line i)) longest) f).0

-- ---- by stage

out_of_place : (i : Instance) (m : ℕ) (s : Stage) (x : Option Item) (k at : ℕ) → is_end s ≡ false → (IsOfForm s x → ⊥) → refused 1 m ≡ refused k at → Fault i s m x k at
out_of_place i m s x k at e none r = not_a_proof (record { refusal = cc; line = cc; before_end = e; no_form = none })

title_fault : (i : Instance) (m : ℕ) (x : Item) (k at : ℕ) → on_title m x ≡ refused k at → Fault i wants_title m (Some x) k at
title_fault i m (title_line v) k at e = cc
title_fault i m x k at e = out_of_place i m wants_title (Some x) k at refl (λ h. h) e

size_fault : (i : Instance) (v m : ℕ) (x : Item) (k at : ℕ) → m ≡ 2 → on_size (verifier i) v m x ≡ refused k at → Fault i (wants_size v) m (Some x) k at
size_fault i v m (size_line c) k at second e =
    let f = failed (c == i.n) (wants_length v) 2 m k at e in
    other_size (record { refusal = f.1; line = f.2; second = second; cities = c; says = refl; other = λ same. not_both (c == i.n) f.0 (eq-eqb c i.n same) })
size_fault i v m x k at second e = out_of_place i m (wants_size v) (Some x) k at refl (λ h. h) e

goes_either : (b : Bool) (s t : Stage) (k at : ℕ) → cond b (go s) (go t) ≡ refused k at → ⊥
goes_either true s t k at e = cc
goes_either false s t k at e = cc

length_fault : (i : Instance) (v m : ℕ) (x : Item) (k at : ℕ) → on_length v m x ≡ refused k at → Fault i (wants_length v) m (Some x) k at
length_fault i v m (length_line l) k at e = absurd (goes_either (v == 1) (wants_tour l l) (wants_bound l) k at e)
length_fault i v m x k at e = out_of_place i m (wants_length v) (Some x) k at refl (λ h. h) e

bound_fault : (i : Instance) (l m : ℕ) (x : Item) (k at : ℕ) → m ≡ 4 → on_bound (verifier i) l m x ≡ refused k at → Fault i (wants_bound l) m (Some x) k at
bound_fault i l m (bound_line b) k at fourth e =
    let f = failed (nat_lt b l) (wants_tour l b) 11 m k at e in
    let many = leb-false (suc b) l f.0 in
    wrong_bound (record { refusal = f.1; line = f.2; fourth = fourth; long = l; said = refl; told = b; says = refl; great = omega arith })
bound_fault i l m x k at fourth e = out_of_place i m (wants_bound l) (Some x) k at refl (λ h. h) e

tour_fault : (i : Instance) (l b m : ℕ) (x : Item) (k at : ℕ) → IsTourLine l b m → on_tour (verifier i) l b m x ≡ refused k at → Fault i (wants_tour l b) m (Some x) k at
tour_fault i l b m (tour_line cs) k at place e = ⊎_elim
    (λ f. not_a_tour (record { refusal = f.1; line = f.2; long = l; bound = b; said = refl; place = place; cities = cs; says = refl; none = λ t. not_both (is_tour_from_one i cs) f.0 (yes_tour_from_one i cs t.from_one t.is_tour t.canonical) }))
    (λ f. wrong_length (record {
      refusal = f.2;
      line = f.3;
      long = l;
      bound = b;
      said = refl;
      place = place;
      cities = cs;
      says = refl;
      tour = tour_from_one_yes i cs f.0;
      other = λ same. not_both (length_in i (from_zero cs) == l) f.1 (eq-eqb (length_in i (from_zero cs)) l same);
    }))
    (tour_failed (is_tour_from_one i cs) (length_in i (from_zero cs) == l) (wants_count l b) m k at e)
tour_fault i l b m x k at place e = out_of_place i m (wants_tour l b) (Some x) k at refl (λ h. h) e

count_fault : (i : Instance) (l b m : ℕ) (x : Item) (k at : ℕ) → on_count (verifier i) l b m x ≡ refused k at → Fault i (wants_count l b) m (Some x) k at
count_fault i l b m (cuts_line c) k at e = cc
count_fault i l b m x k at e = out_of_place i m (wants_count l b) (Some x) k at refl (λ h. h) e

cut_fault : (i : Instance) (h : Head) (c m : ℕ) (x : Item) (k at : ℕ) → fits i.n x ≡ true → on_cut (verifier i) h c m x ≡ refused k at → Fault i (wants_cut h c) m (Some x) k at
cut_fault i h c m (subtour_line s) k at are e =
    let f = failed (is_cut i.n (subtour i.n (from_zero s))) (cuts_on (verifier i) (with_cut h (subtour_cut s)) c) 5 m k at e in
    let none : IsProper i.n (from_zero s) → ⊥ = λ p. not_both (is_cut i.n (subtour i.n (from_zero s))) f.0 (yes_cut i.n (subtour i.n (from_zero s)) (refl, p)) in
    set_of_all (record { refusal = f.1; line = f.2; set = s; says = inl refl; all = whole_set i.n s (set_of i.n (subtour_line s) are) none })
cut_fault i h c m (comb_line t) k at are e = cc
cut_fault i h c m (odd_line t) k at are e = cc
cut_fault i h c m x k at are e = out_of_place i m (wants_cut h c) (Some x) k at refl (λ g. g) e

-- a comb whose last line is read
comb_fault : (i : Instance) (s : Stage) (m : ℕ) (x : Option Item) (k at : ℕ) (h : Head) (c from t : ℕ) (handle : List ℕ) (teeth : List (List ℕ)) → comb_with s x ≡ Some (from, handle, teeth) → m ≡ from + 1 + length teeth → 1 ≤ from
    → teeth_on (verifier i) from h c t handle teeth ≡ refused k at → Fault i s m x k at
comb_fault i s m x k at h c from zero handle teeth w last some e =
    let z = comb i.n (from_zero handle) (map from_zero teeth) in
    let f = failed (is_cut i.n z) (cuts_on (verifier i) (with_cut h (comb_cut handle teeth)) c) 5 from k at e in
    let same = f.2 in
    not_a_comb (record {
      refusal = f.1;
      handle = handle;
      teeth = teeth;
      says = w ∙ ap (λ (a : ℕ). Some (a, handle, teeth)) (sym same);
      begins = omega arith;
      last = omega arith;
      none = λ p. not_both (is_cut i.n z) f.0 (yes_cut i.n z (refl, p));
    })
comb_fault i s m x k at h c from (suc t) handle teeth w last some e = cc

handle_fault : (i : Instance) (h : Head) (c from t m : ℕ) (x : Item) (k at : ℕ) → m ≡ from + 1 → 1 ≤ from → on_handle (verifier i) h c from t m x ≡ refused k at → Fault i (wants_handle h c from t) m (Some x) k at
handle_fault i h c from t m (handle_line s) k at d some e = comb_fault i (wants_handle h c from t) m (Some (handle_line s)) k at h c from t s [] refl (omega arith) some e
handle_fault i h c from t m x k at d some e = out_of_place i m (wants_handle h c from t) (Some x) k at refl (λ g. g) e

tooth_fault : (i : Instance) (h : Head) (c from t : ℕ) (s : List ℕ) (ts : List (List ℕ)) (m : ℕ) (x : Item) (k at : ℕ) → m ≡ from + 2 + length ts → 1 ≤ from → on_tooth (verifier i) h c from t s ts m x ≡ refused k at
    → Fault i (wants_tooth h c from t s ts) m (Some x) k at
tooth_fault i h c from t s ts m (tooth_line q) k at d some e =
    let more = length_push ts q in
    comb_fault i (wants_tooth h c from t s ts) m (Some (tooth_line q)) k at h c from t s (ts ++ q ∷ []) refl (omega arith) some e
tooth_fault i h c from t s ts m x k at d some e = out_of_place i m (wants_tooth h c from t s ts) (Some x) k at refl (λ g. g) e

-- an odd cut whose last line is read
odd_fault : (i : Instance) (s : Stage) (m : ℕ) (x : Option Item) (k at : ℕ) (h : Head) (c from t : ℕ) (handle : List ℕ) (pairs : List (ℕ × ℕ)) → odd_with s x ≡ Some (from, handle, pairs) → m ≡ from + 1 + length pairs → 1 ≤ from
    → pairs_on (verifier i) from h c t handle pairs ≡ refused k at → Fault i s m x k at
odd_fault i s m x k at h c from zero handle pairs w last some e =
    let z = odd i.n (from_zero handle) (map pair_from_zero pairs) in
    let f = failed (is_cut i.n z) (cuts_on (verifier i) (with_cut h (odd_cut handle pairs)) c) 5 from k at e in
    let same = f.2 in
    not_an_odd_cut (record {
      refusal = f.1;
      handle = handle;
      pairs = pairs;
      says = w ∙ ap (λ (a : ℕ). Some (a, handle, pairs)) (sym same);
      begins = omega arith;
      last = omega arith;
      none = λ p. not_both (is_cut i.n z) f.0 (yes_cut i.n z (refl, p));
    })
odd_fault i s m x k at h c from (suc t) handle pairs w last some e = cc

odd_handle_fault : (i : Instance) (h : Head) (c from t m : ℕ) (x : Item) (k at : ℕ) → m ≡ from + 1 → 1 ≤ from → on_odd_handle (verifier i) h c from t m x ≡ refused k at → Fault i (wants_odd_handle h c from t) m (Some x) k at
odd_handle_fault i h c from t m (handle_line s) k at d some e = odd_fault i (wants_odd_handle h c from t) m (Some (handle_line s)) k at h c from t s [] refl (omega arith) some e
odd_handle_fault i h c from t m x k at d some e = out_of_place i m (wants_odd_handle h c from t) (Some x) k at refl (λ g. g) e

pair_fault : (i : Instance) (h : Head) (c from t : ℕ) (s : List ℕ) (ps : List (ℕ × ℕ)) (m : ℕ) (x : Item) (k at : ℕ) → m ≡ from + 2 + length ps → 1 ≤ from → on_pair (verifier i) h c from t s ps m x ≡ refused k at
    → Fault i (wants_pair h c from t s ps) m (Some x) k at
pair_fault i h c from t s ps m (pair_line u v) k at d some e =
    let more = length_push ps (u, v) in
    ⊎_elim
    (λ f. out_of_place i m (wants_pair h c from t s ps) (Some (pair_line u v)) k at refl (λ g. not_both (may_follow ps (u, v)) f.0 g) f.1)
    (λ f. odd_fault i (wants_pair h c from t s ps) m (Some (pair_line u v)) k at h c from t s (ps ++ (u, v) ∷ []) refl (omega arith) some f.1)
    (in_turn (may_follow ps (u, v)) (pairs_on (verifier i) from h c t s (ps ++ (u, v) ∷ [])) 1 m k at e)
pair_fault i h c from t s ps m x k at d some e = out_of_place i m (wants_pair h c from t s ps) (Some x) k at refl (λ g. g) e

below : (a b : ℤ) → lt_z a b ≡ false → b ≤ℤ a
below a b e = grind (arith, ints)

-- a leaf whose last line is read
leaf_fault : (i : Instance) (s : Stage) (m : ℕ) (x : Option Item) (k at : ℕ) (h : Head) (ps : List (List Condition)) (o : OpenDuals) (a b c : ℕ) → leaf_with s m x ≡ Some (h, o) → m ≡ o.at + read_duals o → 1 ≤ o.at
    → duals_on (verifier i) h ps o a b c ≡ refused k at → Fault i s m x k at
leaf_fault i s m x k at h ps o zero zero zero w last some e =
    let f = failed (closes_leaf i h.bound h.cuts o.path o.duals) (wants_trees h ps) 7 o.at k at e in
    let same = f.2 in
    weak_leaf (record {
      refusal = f.1;
      head = h;
      leaf = o;
      says = w;
      line = same;
      begins = omega arith;
      last = omega arith;
      weak = below (needed h.bound) (bound i o.path (closing_of i.n (cuts_of i.n h.cuts) o.duals)) f.0;
    })
leaf_fault i s m x k at h ps o (suc a) b c w last some e = cc
leaf_fault i s m x k at h ps o zero (suc b) c w last some e = cc
leaf_fault i s m x k at h ps o zero zero (suc c) w last some e = cc

tree_fault : (i : Instance) (h : Head) (p : List Condition) (ps : List (List Condition)) (m : ℕ) (x : Item) (k at : ℕ) → 1 ≤ m → fits i.n x ≡ true → on_tree (verifier i) h p ps m x ≡ refused k at → Fault i (wants_trees h (p ∷ ps)) m (Some x) k at
tree_fault i h p ps m (edge_line u v) k at some are e =
    let f = met (is_decided p (u - 1) (v - 1)) (wants_trees h ((p ++ absent (u - 1) (v - 1) ∷ []) ∷ (p ++ present (u - 1) (v - 1) ∷ []) ∷ ps)) 6 m k at e in
    decided_edge (record { refusal = f.1; line = f.2; head = h; path = p; others = ps; stands = refl; u = u; v = v; says = refl; decided = f.0 })
tree_fault i h p ps m (clique_line s) k at some are e =
    let f = failed (is_proper i.n (from_zero s)) (wants_trees h ((p ++ two (from_zero s) ∷ []) ∷ (p ++ four (from_zero s) ∷ []) ∷ ps)) 5 m k at e in
    let none : IsProper i.n (from_zero s) → ⊥ = λ q. not_both (is_proper i.n (from_zero s)) f.0 (yes_proper i.n (from_zero s) q) in
    set_of_all (record { refusal = f.1; line = f.2; set = s; says = inr refl; all = whole_set i.n s (set_of i.n (clique_line s) are) none })
tree_fault i h p ps m (leaf_line a b c) k at some are e = leaf_fault i (wants_trees h (p ∷ ps)) m (Some (leaf_line a b c)) k at h ps (fresh_duals m p) a b c refl (omega arith) some e
tree_fault i h p ps m open_line k at some are e = open_leaf (record { refusal = cc; line = cc; says = refl })
tree_fault i h p ps m x k at some are e = out_of_place i m (wants_trees h (p ∷ ps)) (Some x) k at refl (λ g. g) e

dual_fault : (i : Instance) (h : Head) (ps : List (List Condition)) (o : OpenDuals) (a b c m : ℕ) (x : Item) (k at : ℕ) → m ≡ o.at + 1 + read_duals o → 1 ≤ o.at → on_dual (verifier i) h ps o a b c m x ≡ refused k at
    → Fault i (wants_duals h ps o a b c) m (Some x) k at
dual_fault i h ps o (suc a) b c m (city_line v w) k at d some e =
    let more = length_push o.duals.cities (v, w) in
    ⊎_elim
    (λ f. out_of_place i m (wants_duals h ps o (suc a) b c) (Some (city_line v w)) k at refl (λ g. not_both (nat_le (after o.duals.cities) v) f.0 (le-leb (after o.duals.cities) v g)) f.1)
    (λ f. leaf_fault i (wants_duals h ps o (suc a) b c) m (Some (city_line v w)) k at h ps (with_city o v w) a b c refl (omega arith) some f.1)
    (in_turn (nat_le (after o.duals.cities) v) (duals_on (verifier i) h ps (with_city o v w) a b c) 1 m k at e)
dual_fault i h ps o zero (suc b) c m (cut_line q y) k at d some e =
    let more = length_push o.duals.cuts (q, y) in
    let test = nat_le (after o.duals.cuts) q && nat_le q (length h.cuts) in
    ⊎_elim
    (λ f. out_of_place i m (wants_duals h ps o zero (suc b) c) (Some (cut_line q y)) k at refl
    (λ g. not_both test f.0 (and_from (nat_le (after o.duals.cuts) q) (nat_le q (length h.cuts)) (le-leb (after o.duals.cuts) q g.0) (le-leb q (length h.cuts) g.1))) f.1)
    (λ f. leaf_fault i (wants_duals h ps o zero (suc b) c) m (Some (cut_line q y)) k at h ps (with_cut_dual o q y) zero b c refl (omega arith) some f.1)
    (in_turn test (duals_on (verifier i) h ps (with_cut_dual o q y) zero b c) 1 m k at e)
dual_fault i h ps o zero zero (suc c) m (condition_line r z) k at d some e =
    let more = length_push o.duals.conds (r, z) in
    let test = nat_le (after o.duals.conds) r && is_clique (condition_at o.path r) in
    ⊎_elim
    (λ f. out_of_place i m (wants_duals h ps o zero zero (suc c)) (Some (condition_line r z)) k at refl
    (λ g. not_both test f.0 (and_from (nat_le (after o.duals.conds) r) (is_clique (condition_at o.path r)) (le-leb (after o.duals.conds) r g.0) (yes_clique (condition_at o.path r) g.1))) f.1)
    (λ f. leaf_fault i (wants_duals h ps o zero zero (suc c)) m (Some (condition_line r z)) k at h ps (with_condition o r z) zero zero c refl (omega arith) some f.1)
    (in_turn test (duals_on (verifier i) h ps (with_condition o r z) zero zero c) 1 m k at e)
dual_fault i h ps o a b c m x k at d some e = out_of_place i m (wants_duals h ps o a b c) (Some x) k at refl (λ g. g) e

none_fault : (i : Instance) (s : Stage) (m k at : ℕ) (b : Bool) → is_end s ≡ b → refused (cond b 9 1) m ≡ refused k at → Fault i s m None k at
none_fault i s m k at true d e = trailing (record { refusal = cc; line = cc; behind = d })
none_fault i s m k at false d e = out_of_place i m s None k at d (λ h. h) e

-- what is wrong with a line that is refused
pub fault : (i : Instance) (s : Stage) (m : ℕ) (x : Option Item) (k at : ℕ) → ((y : Item) → x ≡ Some y → fits i.n y ≡ true) → StandsAt s m → line_step (verifier i) m s x ≡ refused k at → Fault i s m x k at
fault i s m None k at are st e = none_fault i s m k at (is_end s) refl e
fault i wants_title m (Some x) k at are st e = title_fault i m x k at e
fault i (wants_size v) m (Some x) k at are st e = size_fault i v m x k at st e
fault i (wants_length v) m (Some x) k at are st e = length_fault i v m x k at e
fault i (wants_bound l) m (Some x) k at are st e = bound_fault i l m x k at st e
fault i (wants_tour l b) m (Some x) k at are st e = tour_fault i l b m x k at st e
fault i (wants_count l b) m (Some x) k at are st e = count_fault i l b m x k at e
fault i (wants_cut h c) m (Some x) k at are st e = cut_fault i h c m x k at (are x refl) e
fault i (wants_handle h c from t) m (Some x) k at are st e = handle_fault i h c from t m x k at st.0 st.1 e
fault i (wants_tooth h c from t s ts) m (Some x) k at are st e = tooth_fault i h c from t s ts m x k at st.0 st.1 e
fault i (wants_odd_handle h c from t) m (Some x) k at are st e = odd_handle_fault i h c from t m x k at st.0 st.1 e
fault i (wants_pair h c from t s ps) m (Some x) k at are st e = pair_fault i h c from t s ps m x k at st.0 st.1 e
fault i (wants_trees h []) m (Some x) k at are st e = trailing (record { refusal = cc; line = cc; behind = refl })
fault i (wants_trees h (p ∷ ps)) m (Some x) k at are st e = tree_fault i h p ps m x k at st (are x refl) e
fault i (wants_duals h ps o a b c) m (Some x) k at are st e = dual_fault i h ps o a b c m x k at st.0 st.1 e

-- ---- where a fault stands

stands_some : (s : Stage) (m : ℕ) → StandsAt s m → 1 ≤ m
stands_some wants_title m e = omega arith
stands_some (wants_size v) m e = omega arith
stands_some (wants_length v) m e = omega arith
stands_some (wants_bound l) m e = omega arith
stands_some (wants_tour l b) m e = omega arith
stands_some (wants_count l b) m e = e
stands_some (wants_cut h c) m e = e
stands_some (wants_handle h c from t) m e = let f = e.0 in omega arith
stands_some (wants_tooth h c from t s ts) m e = let f = e.0 in omega arith
stands_some (wants_odd_handle h c from t) m e = let f = e.0 in omega arith
stands_some (wants_pair h c from t s ps) m e = let f = e.0 in omega arith
stands_some (wants_trees h ps) m e = e
stands_some (wants_duals h ps o a b c) m e = let f = e.0 in omega arith

-- a fault is told at its own line, but for a comb, an odd cut and a leaf, which are told at their first
pub record IsPlaced (m k at : ℕ) : Type 0 where
  pub begins : 1 ≤ at
  pub ends : at ≤ m
  pub line : (at ≡ m) ⊎ (k ≡ 5) ⊎ (k ≡ 7)

at_own_line : (m k at : ℕ) → 1 ≤ m → at ≡ m → IsPlaced m k at
at_own_line m k at some e = record { begins = omega arith; ends = omega arith; line = inl e }

pub placed : (i : Instance) (s : Stage) (m : ℕ) (x : Option Item) (k at : ℕ) → StandsAt s m → Fault i s m x k at → IsPlaced m k at
placed i s m x k at st (not_a_proof f) = at_own_line m k at (stands_some s m st) f.line
placed i s m x k at st (other_size f) = at_own_line m k at (stands_some s m st) f.line
placed i s m x k at st (not_a_tour f) = at_own_line m k at (stands_some s m st) f.line
placed i s m x k at st (wrong_length f) = at_own_line m k at (stands_some s m st) f.line
placed i s m x k at st (set_of_all f) = at_own_line m k at (stands_some s m st) f.line
placed i s m x k at st (not_a_comb f) = let l = f.last in record { begins = f.begins; ends = omega arith; line = inr (inl f.refusal) }
placed i s m x k at st (not_an_odd_cut f) = let l = f.last in record { begins = f.begins; ends = omega arith; line = inr (inl f.refusal) }
placed i s m x k at st (decided_edge f) = at_own_line m k at (stands_some s m st) f.line
placed i s m x k at st (weak_leaf f) = let l = f.last in record { begins = f.begins; ends = omega arith; line = inr (inr f.refusal) }
placed i s m x k at st (open_leaf f) = at_own_line m k at (stands_some s m st) f.line
placed i s m x k at st (trailing f) = at_own_line m k at (stands_some s m st) f.line
placed i s m x k at st (wrong_bound f) = at_own_line m k at (stands_some s m st) f.line
