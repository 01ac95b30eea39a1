-- a value whose text is refused fails the test that refuses it, where the other tests pass by themselves
use Rattle.std.proofs.Common.{◌≡◌, ℕ, zero, suc, ◌+◌, ◌-◌, Bool, true, false, cond, ◌&&◌, List, [], ◌∷◌, ◌++◌, length, Option, Some, None, refl, sym, ap, ◌∙◌, arith}
use Rattle.std.specs.Prelude.{nat_le, nat_lt, ◌==◌, ◌≢◌}
use Rattle.std.specs.List.{AllByRecursion}
use Rattle.std.proofs.lemmas.Bool.{and_parts, and_from, eq-eqb, eqb-true, lt-ltb}
use Rattle.tspdef.specs.Instances.{Instance, length_in}
use Rattle.tspdef.specs.Cuts.{IsCut}
use Rattle.tspdef.specs.Paths.{Condition, absent, present, two, four, condition_at, is_decided, root}
use Rattle.tspdef.specs.Bounds.{bound, needed}
use Rattle.certdef.specs.Items.{Item, size_line, bound_line, tour_line, subtour_line, handle_line, tooth_line, pair_line, edge_line, clique_line, leaf_line, city_line, cut_line, condition_line, open_line, item_of, longest}
use Rattle.certdef.specs.Proofs.{Listed, subtour_cut, comb_cut, odd_cut, Written, open_leaf, closed_leaf, edge_split, clique_split, Proof, lines, text}
use Rattle.certdef.specs.Accepted.{from_zero, cut_of, cuts_of, closing_of, firsts, is_clique, name_cliques, LeavesRise, DepthsName, HasForm, most_bytes}
use Rattle.certdef.specs.Tests.{Tests, verifier, is_tour_from_one, is_proper, is_cut, closes_leaf}
use Rattle.certdef.specs.Verdicts.{Head, OpenDuals, Stage, wants_title, wants_size, wants_length, wants_bound, wants_tour, wants_count, wants_cut, wants_handle, wants_tooth, wants_odd_handle, wants_pair, wants_trees, wants_duals, yes, no, Outcome, go, refused, after, may_follow, with_cut, cuts_on, cut_end, teeth_on, pairs_on, duals_on, with_city, with_cut_dual, with_condition, fresh_duals, on_tour, on_bound, on_size, on_cut, on_handle, on_tooth, on_odd_handle, on_pair, on_tree, on_dual, is_end, line_step}
use Rattle.certdef.specs.Bytes.{Reading, Read, reads, stops, start, line_on, byte_on, bytes_on, verdict_at_end, verdict}
use Rattle.verdict.specs.WrongValues.{IsRightTree, bound_of, IsBelow, IsRight, RefusedValuesAreWrong, RefusedLinesAreWrong}
use Rattle.verdict.proofs.Left.{all_named, Good}
use Rattle.verdict.proofs.Runs.{IsToldBound, AreGood, yes_is_good}
use Rattle.verdict.proofs.Decisions.{yes_tour_from_one, yes_proper, yes_cut, z_below}
use Rattle.verdict.proofs.Bytes.{lines_bytes}
use Rattle.verdict.proofs.Values.{depths_at_root}

-- ---- one test of many

-- a test that counts for one refusal alone
abbrev part : ℕ → ℕ → Bool → Bool
part k r b = cond (k == r) b true

if_part : (t b : Bool) → b ≡ true → cond t b true ≡ true
if_part true b e = e
if_part false b e = refl

passes_part : (k r : ℕ) (b : Bool) → b ≡ true → part k r b ≡ true
passes_part k r b e = if_part (k == r) b e

same_part : (k r : ℕ) (b : Bool) → k ≡ r → part k r b ≡ b
same_part k r b e = ap (λ t. cond t b true) (eq-eqb k r e)

true_if : (k r : ℕ) (t b : Bool) → (k == r) ≡ t → (k ≡ r → b ≡ true) → cond t b true ≡ true
true_if k r true b e f = f (eqb-true k r e)
true_if k r false b e f = refl

true_part : (k r : ℕ) (b : Bool) → (k ≡ r → b ≡ true) → part k r b ≡ true
true_part k r b f = true_if k r (k == r) b refl f

false_if : (k r : ℕ) (t b : Bool) → (k == r) ≡ t → (k ≡ r → b ≡ false) → cond t b false ≡ false
false_if k r true b e f = f (eqb-true k r e)
false_if k r false b e f = refl

opens_if : (k : ℕ) (t : Bool) → (k == 8) ≡ t → k ≢ 8 → cond t false true ≡ true
opens_if k true e f = absurd (f (eqb-true k 8 e))
opens_if k false e f = refl

-- a verifier's tests, of which only those for refusal k count; the form is judged in full
abbrev tests_for : Instance → ℕ → Tests
tests_for i k = record {
  n = i.n;
  size = λ m. part k 2 (m == i.n);
  root = root i;
  tour = λ cs. part k 3 (is_tour_from_one i cs);
  has_length = λ cs l. part k 4 (length_in i (from_zero cs) == l);
  below = λ b l. part k 11 (nat_lt b l);
  cut = λ c. part k 5 (is_cut i.n (cut_of i.n c));
  decided = λ path u v. cond (k == 6) (is_decided path u v) false;
  proper = λ s. part k 5 (is_proper i.n (from_zero s));
  names = λ path d. is_clique (condition_at path d);
  closes = λ b cs path d. part k 7 (closes_leaf i b cs path d);
  opens = cond (k == 8) false true;
}

-- ---- the two machines agree up to refusal k

-- the outcome is no other refusal
abbrev Kept : ℕ → Outcome → Type 0
Kept k (go s) = Unit {0}
Kept k (refused r at) = k ≡ r

pick : (k r m : ℕ) (b c : Bool) (p q o : Outcome) → (b ≡ true → c ≡ true) → (k ≡ r → c ≡ b) → (p ≡ o → q ≡ o) → Kept k o → cond b p (refused r m) ≡ o → cond c q (refused r m) ≡ o
pick k r m true true p q o w s f kept e = f e
pick k r m true false p q o w s f kept e = let never : false ≡ true = w refl in cc
pick k r m false c p q (go t) w s f kept e = cc
pick k r m false c p q (refused l from) w s f kept e =
    let same : r ≡ l = cc in
    ap (λ x. cond x q (refused r m)) (s (kept ∙ sym same)) ∙ e

pick_not : (k r m : ℕ) (b c : Bool) (p o : Outcome) → (b ≡ false → c ≡ false) → (k ≡ r → c ≡ b) → Kept k o → cond b (refused r m) p ≡ o → cond c (refused r m) p ≡ o
pick_not k r m false false p o w s kept e = e
pick_not k r m false true p o w s kept e = let never : true ≡ false = w refl in cc
pick_not k r m true c p (go t) w s kept e = cc
pick_not k r m true c p (refused l from) w s kept e =
    let same : r ≡ l = cc in
    ap (λ x. cond x (refused r m) p) (s (kept ∙ sym same)) ∙ e

by_part : (k r m : ℕ) (b : Bool) (p q o : Outcome) → (p ≡ o → q ≡ o) → Kept k o → cond b p (refused r m) ≡ o → cond (part k r b) q (refused r m) ≡ o
by_part k r m b p q o f kept e = pick k r m b (part k r b) p q o (passes_part k r b) (same_part k r b) f kept e

in_form : (b : Bool) (m : ℕ) (p q o : Outcome) → (p ≡ o → q ≡ o) → cond b p (refused 1 m) ≡ o → cond b q (refused 1 m) ≡ o
in_form true m p q o f e = f e
in_form false m p q o f e = e

undecided_if : (t b : Bool) → b ≡ false → cond t b false ≡ false
undecided_if true b e = e
undecided_if false b e = refl

opens_kept : (k m : ℕ) (p o : Outcome) → Kept k o → refused 8 m ≡ o → cond (cond (k == 8) false true) p (refused 8 m) ≡ o
opens_kept k m p (go s) kept e = cc
opens_kept k m p (refused r at) kept e =
    let same : 8 ≡ r = cc in
    ap (λ t. cond (cond t false true) p (refused 8 m)) (eq-eqb k 8 (kept ∙ sym same)) ∙ e

cut_same : (i : Instance) (k from : ℕ) (h : Head) (c : ℕ) (x : Listed) (o : Outcome) → Kept k o → cut_end (verifier i) from h c x ≡ o → cut_end (tests_for i k) from h c x ≡ o
cut_same i k from h c x o kept e = by_part k 5 from (is_cut i.n (cut_of i.n x)) (go (cuts_on (verifier i) (with_cut h x) c)) (go (cuts_on (tests_for i k) (with_cut h x) c)) o (λ f. f) kept e

teeth_same : (i : Instance) (k from : ℕ) (h : Head) (c t : ℕ) (s : List ℕ) (ts : List (List ℕ)) (o : Outcome) → Kept k o → teeth_on (verifier i) from h c t s ts ≡ o → teeth_on (tests_for i k) from h c t s ts ≡ o
teeth_same i k from h c zero s ts o kept e = cut_same i k from h c (comb_cut s ts) o kept e
teeth_same i k from h c (suc t) s ts o kept e = e

pairs_same : (i : Instance) (k from : ℕ) (h : Head) (c t : ℕ) (s : List ℕ) (ps : List (ℕ × ℕ)) (o : Outcome) → Kept k o → pairs_on (verifier i) from h c t s ps ≡ o → pairs_on (tests_for i k) from h c t s ps ≡ o
pairs_same i k from h c zero s ps o kept e = cut_same i k from h c (odd_cut s ps) o kept e
pairs_same i k from h c (suc t) s ps o kept e = e

duals_same : (i : Instance) (k : ℕ) (h : Head) (ps : List (List Condition)) (d : OpenDuals) (a b c : ℕ) (o : Outcome) → Kept k o → duals_on (verifier i) h ps d a b c ≡ o → duals_on (tests_for i k) h ps d a b c ≡ o
duals_same i k h ps d zero zero zero o kept e = by_part k 7 d.at (closes_leaf i h.bound h.cuts d.path d.duals) (go (wants_trees h ps)) (go (wants_trees h ps)) o (λ f. f) kept e
duals_same i k h ps d (suc a) b c o kept e = e
duals_same i k h ps d zero (suc b) c o kept e = e
duals_same i k h ps d zero zero (suc c) o kept e = e

size_same : (i : Instance) (k v m : ℕ) (x : Item) (o : Outcome) → Kept k o → on_size (verifier i) v m x ≡ o → on_size (tests_for i k) v m x ≡ o
size_same i k v m (size_line c) o kept e = by_part k 2 m (c == i.n) (go (wants_length v)) (go (wants_length v)) o (λ f. f) kept e
size_same i k v m x o kept e = e

bound_same : (i : Instance) (k l m : ℕ) (x : Item) (o : Outcome) → Kept k o → on_bound (verifier i) l m x ≡ o → on_bound (tests_for i k) l m x ≡ o
bound_same i k l m (bound_line b) o kept e = by_part k 11 m (nat_lt b l) (go (wants_tour l b)) (go (wants_tour l b)) o (λ f. f) kept e
bound_same i k l m x o kept e = e

tour_same : (i : Instance) (k l b m : ℕ) (x : Item) (o : Outcome) → Kept k o → on_tour (verifier i) l b m x ≡ o → on_tour (tests_for i k) l b m x ≡ o
tour_same i k l b m (tour_line cs) o kept e =
    by_part k 3 m (is_tour_from_one i cs) (cond (length_in i (from_zero cs) == l) (go (wants_count l b)) (refused 4 m)) (cond (part k 4 (length_in i (from_zero cs) == l)) (go (wants_count l b)) (refused 4 m)) o
    (λ f. by_part k 4 m (length_in i (from_zero cs) == l) (go (wants_count l b)) (go (wants_count l b)) o (λ g. g) kept f) kept e
tour_same i k l b m x o kept e = e

cut_line_same : (i : Instance) (k : ℕ) (h : Head) (c m : ℕ) (x : Item) (o : Outcome) → Kept k o → on_cut (verifier i) h c m x ≡ o → on_cut (tests_for i k) h c m x ≡ o
cut_line_same i k h c m (subtour_line s) o kept e = cut_same i k m h c (subtour_cut s) o kept e
cut_line_same i k h c m x o kept e = e

handle_same : (i : Instance) (k : ℕ) (h : Head) (c from t m : ℕ) (x : Item) (o : Outcome) → Kept k o → on_handle (verifier i) h c from t m x ≡ o → on_handle (tests_for i k) h c from t m x ≡ o
handle_same i k h c from t m (handle_line s) o kept e = teeth_same i k from h c t s [] o kept e
handle_same i k h c from t m x o kept e = e

tooth_same : (i : Instance) (k : ℕ) (h : Head) (c from t : ℕ) (s : List ℕ) (ts : List (List ℕ)) (m : ℕ) (x : Item) (o : Outcome) → Kept k o → on_tooth (verifier i) h c from t s ts m x ≡ o → on_tooth (tests_for i k) h c from t s ts m x ≡ o
tooth_same i k h c from t s ts m (tooth_line q) o kept e = teeth_same i k from h c t s (ts ++ q ∷ []) o kept e
tooth_same i k h c from t s ts m x o kept e = e

odd_handle_same : (i : Instance) (k : ℕ) (h : Head) (c from t m : ℕ) (x : Item) (o : Outcome) → Kept k o → on_odd_handle (verifier i) h c from t m x ≡ o → on_odd_handle (tests_for i k) h c from t m x ≡ o
odd_handle_same i k h c from t m (handle_line s) o kept e = pairs_same i k from h c t s [] o kept e
odd_handle_same i k h c from t m x o kept e = e

pair_same : (i : Instance) (k : ℕ) (h : Head) (c from t : ℕ) (s : List ℕ) (ps : List (ℕ × ℕ)) (m : ℕ) (x : Item) (o : Outcome) → Kept k o → on_pair (verifier i) h c from t s ps m x ≡ o → on_pair (tests_for i k) h c from t s ps m x ≡ o
pair_same i k h c from t s ps m (pair_line u v) o kept e =
    in_form (may_follow ps (u, v)) m (pairs_on (verifier i) from h c t s (ps ++ (u, v) ∷ [])) (pairs_on (tests_for i k) from h c t s (ps ++ (u, v) ∷ [])) o (pairs_same i k from h c t s (ps ++ (u, v) ∷ []) o kept) e
pair_same i k h c from t s ps m x o kept e = e

tree_same : (i : Instance) (k : ℕ) (h : Head) (p : List Condition) (ps : List (List Condition)) (m : ℕ) (x : Item) (o : Outcome) → Kept k o → on_tree (verifier i) h p ps m x ≡ o → on_tree (tests_for i k) h p ps m x ≡ o
tree_same i k h p ps m (edge_line u v) o kept e =
    let b = is_decided p (u - 1) (v - 1) in
    pick_not k 6 m b (cond (k == 6) b false) (go (wants_trees h ((p ++ absent (u - 1) (v - 1) ∷ []) ∷ (p ++ present (u - 1) (v - 1) ∷ []) ∷ ps))) o (undecided_if (k == 6) b) (λ s. ap (λ t. cond t b false) (eq-eqb k 6 s)) kept e
tree_same i k h p ps m (clique_line s) o kept e =
    let next : Outcome = go (wants_trees h ((p ++ two (from_zero s) ∷ []) ∷ (p ++ four (from_zero s) ∷ []) ∷ ps)) in
    by_part k 5 m (is_proper i.n (from_zero s)) next next o (λ f. f) kept e
tree_same i k h p ps m (leaf_line a b c) o kept e = duals_same i k h ps (fresh_duals m p) a b c o kept e
tree_same i k h p ps m open_line o kept e = opens_kept k m (go (wants_trees h ps)) o kept e
tree_same i k h p ps m x o kept e = e

dual_same : (i : Instance) (k : ℕ) (h : Head) (ps : List (List Condition)) (d : OpenDuals) (a b c m : ℕ) (x : Item) (o : Outcome) → Kept k o → on_dual (verifier i) h ps d a b c m x ≡ o → on_dual (tests_for i k) h ps d a b c m x ≡ o
dual_same i k h ps d (suc a) b c m (city_line v w) o kept e =
    in_form (nat_le (after d.duals.cities) v) m (duals_on (verifier i) h ps (with_city d v w) a b c) (duals_on (tests_for i k) h ps (with_city d v w) a b c) o (duals_same i k h ps (with_city d v w) a b c o kept) e
dual_same i k h ps d zero (suc b) c m (cut_line q y) o kept e =
    in_form (nat_le (after d.duals.cuts) q && nat_le q (length h.cuts)) m (duals_on (verifier i) h ps (with_cut_dual d q y) zero b c) (duals_on (tests_for i k) h ps (with_cut_dual d q y) zero b c) o
    (duals_same i k h ps (with_cut_dual d q y) zero b c o kept) e
dual_same i k h ps d zero zero (suc c) m (condition_line r z) o kept e =
    in_form (nat_le (after d.duals.conds) r && is_clique (condition_at d.path r)) m (duals_on (verifier i) h ps (with_condition d r z) zero zero c) (duals_on (tests_for i k) h ps (with_condition d r z) zero zero c) o
    (duals_same i k h ps (with_condition d r z) zero zero c o kept) e
dual_same i k h ps d a b c m x o kept e = e

step_same : (i : Instance) (k m : ℕ) (s : Stage) (x : Option Item) (o : Outcome) → Kept k o → line_step (verifier i) m s x ≡ o → line_step (tests_for i k) m s x ≡ o
step_same i k m s None o kept e = e
step_same i k m wants_title (Some x) o kept e = e
step_same i k m (wants_size v) (Some x) o kept e = size_same i k v m x o kept e
step_same i k m (wants_length v) (Some x) o kept e = e
step_same i k m (wants_bound l) (Some x) o kept e = bound_same i k l m x o kept e
step_same i k m (wants_tour l b) (Some x) o kept e = tour_same i k l b m x o kept e
step_same i k m (wants_count l b) (Some x) o kept e = e
step_same i k m (wants_cut h c) (Some x) o kept e = cut_line_same i k h c m x o kept e
step_same i k m (wants_handle h c from t) (Some x) o kept e = handle_same i k h c from t m x o kept e
step_same i k m (wants_tooth h c from t s ts) (Some x) o kept e = tooth_same i k h c from t s ts m x o kept e
step_same i k m (wants_odd_handle h c from t) (Some x) o kept e = odd_handle_same i k h c from t m x o kept e
step_same i k m (wants_pair h c from t s ps) (Some x) o kept e = pair_same i k h c from t s ps m x o kept e
step_same i k m (wants_trees h []) (Some x) o kept e = e
step_same i k m (wants_trees h (p ∷ ps)) (Some x) o kept e = tree_same i k h p ps m x o kept e
step_same i k m (wants_duals h ps d a b c) (Some x) o kept e = dual_same i k h ps d a b c m x o kept e

-- ---- bytes

abbrev KeptRead : ℕ → Read → Type 0
KeptRead k (reads r) = Unit {0}
KeptRead k (stops l at) = k ≡ l

line_same : (i : Instance) (k at read : ℕ) (s : Stage) (y : Option Item) (o : Outcome) (x : Read) → line_step (verifier i) at s y ≡ o → KeptRead k x → line_on at read o ≡ x → line_on at read (line_step (tests_for i k) at s y) ≡ x
line_same i k at read s y (go t) x e kept h = ap (line_on at read) (step_same i k at s y (go t) tt e) ∙ h
line_same i k at read s y (refused l from) (reads r) e kept h = cc
line_same i k at read s y (refused l from) (stops r a) e kept h =
    let same : l ≡ r = cc in
    ap (line_on at read) (step_same i k at s y (refused l from) (kept ∙ sym same) e) ∙ h

choice_same : (d e f : Bool) (past behind p q g x : Read) → (p ≡ x → q ≡ x) → cond d past (cond e behind (cond f p g)) ≡ x → cond d past (cond e behind (cond f q g)) ≡ x
choice_same true e f past behind p q g x w h = h
choice_same false true f past behind p q g x w h = h
choice_same false false true past behind p q g x w h = w h
choice_same false false false past behind p q g x w h = h

byte_same : (i : Instance) (k : ℕ) (r : Reading) (b : ℕ) (x : Read) → KeptRead k x → byte_on (verifier i) r b ≡ x → byte_on (tests_for i k) r b ≡ x
byte_same i k r b x kept h = choice_same (nat_le most_bytes r.read) (is_end r.stage) (b == 10) (stops 10 r.at) (stops 9 r.at)
    (line_on r.at r.read (line_step (verifier i) r.at r.stage (item_of i.n r.begun)))
    (line_on r.at r.read (line_step (tests_for i k) r.at r.stage (item_of i.n r.begun)))
    (cond (nat_lt (length r.begun) longest) (reads (record { at = r.at; read = r.read + 1; stage = r.stage; begun = r.begun ++ b ∷ [] })) (stops 1 r.at)) x
    (λ e. line_same i k r.at r.read r.stage (item_of i.n r.begun) (line_step (verifier i) r.at r.stage (item_of i.n r.begun)) x refl kept e) h

on_from : (i : Instance) (k : ℕ) (r : Reading) (b : ℕ) (bs : List ℕ) (y x : Read) → byte_on (verifier i) r b ≡ y → KeptRead k x → ((q : Reading) → bytes_on (verifier i) (reads q) bs ≡ x → bytes_on (tests_for i k) (reads q) bs ≡ x)
    → bytes_on (verifier i) y bs ≡ x → bytes_on (tests_for i k) (byte_on (tests_for i k) r b) bs ≡ x
on_from i k r b bs (reads q) x e kept more h = ap (λ z. bytes_on (tests_for i k) z bs) (byte_same i k r b (reads q) tt e) ∙ more q h
on_from i k r b bs (stops l at) (reads q) e kept more h = cc
on_from i k r b bs (stops l at) (stops n a) e kept more h =
    let same : l ≡ n = cc in
    ap (λ z. bytes_on (tests_for i k) z bs) (byte_same i k r b (stops l at) (kept ∙ sym same) e) ∙ h

bytes_same : (i : Instance) (k : ℕ) (r : Reading) (bs : List ℕ) (x : Read) → KeptRead k x → bytes_on (verifier i) (reads r) bs ≡ x → bytes_on (tests_for i k) (reads r) bs ≡ x
bytes_same i k r [] x kept h = h
bytes_same i k r (b ∷ bs) x kept h = on_from i k r b bs (byte_on (verifier i) r b) x refl kept (λ q e. bytes_same i k q bs x kept e) h

refused_same : (i : Instance) (k at : ℕ) (bs : List ℕ) (x : Read) → bytes_on (verifier i) (reads start) bs ≡ x → verdict_at_end x ≡ no k at → verdict_at_end (bytes_on (tests_for i k) (reads start) bs) ≡ no k at
refused_same i k at bs (reads t) e h = ap verdict_at_end (bytes_same i k start bs (reads t) tt e) ∙ h
refused_same i k at bs (stops l from) e h =
    let same : k ≡ l = cc in
    ap verdict_at_end (bytes_same i k start bs (stops l from) same e) ∙ h

-- ---- a value that is right passes these tests

named_for : (i : Instance) (k : ℕ) (path : List Condition) (ds : List ℕ) → name_cliques path ds ≡ true → all_named (tests_for i k) path ds ≡ true
named_for i k path [] e = refl
named_for i k path (d ∷ ds) e =
    let p = and_parts (is_clique (condition_at path d)) (name_cliques path ds) e in
    and_from (is_clique (condition_at path d)) (all_named (tests_for i k) path ds) p.0 (named_for i k path ds p.1)

good_tree : (i : Instance) (k : ℕ) (h : Head) (path : List Condition) (t : Written) → LeavesRise i.n (length h.cuts) t → DepthsName path t → IsRightTree i k h.bound h.cuts path t → Good (tests_for i k) h path t
good_tree i k h path open_leaf o w g = opens_if k (k == 8) refl g
good_tree i k h path (closed_leaf d) o w g = (
  record { cities = o.cities; cuts = o.cuts; conds = o.conds; named = named_for i k path (firsts d.conds) w },
  true_part k 7 (closes_leaf i h.bound h.cuts path d) (λ e. z_below (needed h.bound) (bound i path (closing_of i.n (cuts_of i.n h.cuts) d)) (g e)),
)
good_tree i k h path (edge_split u v a b) o w g = (
  false_if k 6 (k == 6) (is_decided path (u - 1) (v - 1)) refl g.0,
  (good_tree i k h (path ++ absent (u - 1) (v - 1) ∷ []) a o.0 w.0 g.1.0, good_tree i k h (path ++ present (u - 1) (v - 1) ∷ []) b o.1 w.1 g.1.1),
)
good_tree i k h path (clique_split s a b) o w g = (
  true_part k 5 (is_proper i.n (from_zero s)) (λ e. yes_proper i.n (from_zero s) (g.0 e)),
  (good_tree i k h (path ++ two (from_zero s) ∷ []) a o.0 w.0 g.1.0, good_tree i k h (path ++ four (from_zero s) ∷ []) b o.1 w.1 g.1.1),
)

good_cuts : (i : Instance) (k : ℕ) (cs : List Listed) → (k ≡ 5 → AllByRecursion (IsCut i.n) (cuts_of i.n cs)) → AllByRecursion (λ c. part k 5 (is_cut i.n (cut_of i.n c)) ≡ true) cs
good_cuts i k [] f = tt
good_cuts i k (c ∷ cs) f = (true_part k 5 (is_cut i.n (cut_of i.n c)) (λ e. yes_cut i.n (cut_of i.n c) (f e).0), good_cuts i k cs (λ e. (f e).1))

good_bound : (i : Instance) (k l : ℕ) (told : Option ℕ) → (k ≡ 11 → IsBelow l told) → IsToldBound (tests_for i k) told (l, bound_of l told)
good_bound i k l None f = refl
good_bound i k l (Some b) f = (refl, true_part k 11 (nat_lt b l) (λ e. lt-ltb b l (f e)))

are_good : (i : Instance) (k : ℕ) (p : Proof) → HasForm i.n p → IsRight i k p → AreGood (tests_for i k) (lines p) (p.long, bound_of p.long p.bound)
are_good i k p f g = (
  p,
  refl,
  f.readable.lines,
  record {
    size = true_part k 2 (p.cities == i.n) (λ e. eq-eqb p.cities i.n (g.size e));
    same_length = refl;
    bound = good_bound i k p.long p.bound g.bound;
    is_tour = true_part k 3 (is_tour_from_one i p.tour) (λ e. let t = g.tour e in yes_tour_from_one i p.tour t.from_one t.is_tour t.canonical);
    long = true_part k 4 (length_in i (from_zero p.tour) == p.long) (λ e. eq-eqb (length_in i (from_zero p.tour)) p.long (g.long e));
    pairs = f.readable.pairs;
    cuts = good_cuts i k p.cuts g.cuts;
    tree = good_tree i k (record { long = p.long; bound = bound_of p.long p.bound; cuts = p.cuts }) (root i) p.tree f.readable.rise (depths_at_root i p.tree f.depths) g.tree;
  },
)

-- ---- the laws

pub refused_values_are_wrong : RefusedValuesAreWrong
refused_values_are_wrong i p k at h f few e = λ g.
    let b = bound_of p.long p.bound in
    let passes = (yes_is_good (tests_for i k) (lines p) (p.long, b) h).1 (are_good i k p f g) in
    let accepted : verdict_at_end (bytes_on (tests_for i k) (reads start) (text p)) ≡ yes p.long b = lines_bytes (tests_for i k) (p.long, b) 1 0 (go wants_title) (lines p) h (omega arith) passes in
    let refuses = refused_same i k at (text p) (bytes_on (verifier i) (reads start) (text p)) refl e in
    let never : no k at ≡ yes p.long b = sym refuses ∙ accepted in cc

pub refused_lines_are_wrong : RefusedLinesAreWrong
refused_lines_are_wrong i bytes k at m h t p more f few e = refused_values_are_wrong i p k at h f few (ap (verdict i) e ∙ t.always more)
