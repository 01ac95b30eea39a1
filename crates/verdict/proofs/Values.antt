-- values that pass a verifier's tests are accepted, and those that pass the form's are readable
use Rattle.std.proofs.Common.{◌≡◌, ℕ, zero, suc, ◌+◌, ◌-◌, ◌^◌, ◌<◌, ◌≤◌, Bool, true, false, cond, ◌&&◌, List, [], ◌∷◌, ◌++◌, length, map, ℤ, refl, sym, subst, arith}
use Rattle.std.specs.Prelude.{nat_le, nat_lt, nat_abs, ◌==◌, slice_index_or, ◌↔◌, Option, Some, None}
use Rattle.std.specs.List.{AllByRecursion}
use Rattle.std.proofs.lemmas.Bool.{and_parts, and_from, eq-eqb, eqb-true, leb-true, ltb-true, lt-ltb}
use Rattle.tspdef.specs.Instances.{Instance, length_in}
use Rattle.tspdef.specs.Cuts.{Cut, subtour, IsCut}
use Rattle.tspdef.specs.Paths.{Condition, absent, present, two, four, condition_at, root}
use Rattle.tspdef.specs.Closings.{IsDualSize, NamesCliques, IsClosing}
use Rattle.tspdef.specs.Bounds.{bound, needed}
use Rattle.tspdef.specs.Trees.{IsSound, open_leaves}
use Rattle.certdef.specs.Items.{Item, edge_line, leaf_line, city_line, cut_line, condition_line, line, rises, is_dual, in_bounds, longest, fits}
use Rattle.certdef.specs.Proofs.{Listed, Duals, Written, open_leaf, closed_leaf, edge_split, clique_split, Proof, listed_items, city_item, cut_item, condition_item, dual_items, tree_items, head_items, lines}
use Rattle.std.specs.List.{flat_map}
use Rattle.certdef.specs.Accepted.{from_zero, cut_of, cuts_of, dual_of, duals_from, cut_at, closing_of, tree_of, firsts, is_clique, name_cliques, LeavesRise, DepthsName, IsReadable, HasForm, IsBoundOf, IsAcceptedProof}
use Rattle.certdef.specs.Tests.{is_cut, verifier}
use Rattle.verdict.specs.Forms.{form_only}
use Rattle.verdict.specs.WrongValues.{bound_of}
use Rattle.certdef.specs.Verdicts.{Head, yes, verdict_by}
use Rattle.certdef.proofs.Depths.{depths_behind, depths_without}
use Rattle.certdef.proofs.Restarts.{bound_le}
use Rattle.verdict.proofs.Left.{all_named, Good}
use Rattle.verdict.proofs.CutSteps.{append_nil}
use Rattle.verdict.proofs.Runs.{AreOfForm, IsToldBound, AreGood, body, items_said, yes_is_good}
use Rattle.verdict.proofs.Decisions.{tour_from_one_yes, yes_tour_from_one, proper_yes, yes_proper, cut_yes, yes_cut, clique_yes, below_z, z_below}

-- ---- lists

pub all_first : {X : Type 0} (P : X → Type 0) (xs ys : List X) → AllByRecursion P (xs ++ ys) → AllByRecursion P xs
all_first P [] ys h = tt
all_first P (x ∷ xs) ys h = (h.0, all_first P xs ys h.1)

pub all_last : {X : Type 0} (P : X → Type 0) (xs ys : List X) → AllByRecursion P (xs ++ ys) → AllByRecursion P ys
all_last P [] ys h = h
all_last P (x ∷ xs) ys h = all_last P xs ys h.1

length_map : {X Y : Type 0} (f : X → Y) (xs : List X) → length (map f xs) ≡ length xs
length_map f [] = refl
length_map f (x ∷ xs) = let r = length_map f xs in omega arith

-- ---- the bounds of lines

bounds_of : (n : ℕ) (i : Item) → fits n i ≡ true → in_bounds n i ≡ true
bounds_of n i f = (and_parts (in_bounds n i) (nat_le (length (line i)) longest) f).0

pub edge_bounds : (n u v : ℕ) → fits n (edge_line u v) ≡ true → (u - 1 < v - 1) × (v - 1 < n)
edge_bounds n u v f =
    let p = and_parts (nat_lt 0 u) (nat_lt u v && nat_le v n) (bounds_of n (edge_line u v) f) in
    let q = and_parts (nat_lt u v) (nat_le v n) p.1 in
    let low = ltb-true 0 u p.0 in
    let between = ltb-true u v q.0 in
    let high = leb-true v n q.1 in
    (omega arith, omega arith)

leaf_bounds : (n a b c : ℕ) → fits n (leaf_line a b c) ≡ true → (b ≤ 4096) × (c ≤ 4096)
leaf_bounds n a b c f =
    let p = and_parts (nat_le a n) (nat_le b 4096 && nat_le c 4096) (bounds_of n (leaf_line a b c) f) in
    let q = and_parts (nat_le b 4096) (nat_le c 4096) p.1 in
    (leb-true b 4096 q.0, leb-true c 4096 q.1)

dual_size : (y : ℕ) → is_dual y ≡ true → IsDualSize y
dual_size y e =
    let p = and_parts (nat_lt 0 y) (nat_le y (2 ^ 62)) e in
    (ltb-true 0 y p.0, leb-true y (2 ^ 62) p.1)

-- ---- the closing that duals are

either_small : (b : Bool) (x y : ℤ) → nat_abs x ≤ 2 ^ 62 → nat_abs y ≤ 2 ^ 62 → nat_abs (cond b x y) ≤ 2 ^ 62
either_small true x y h k = h
either_small false x y h k = k

city_dual_small : (n : ℕ) (ps : List (ℕ × ℤ)) (v : ℕ) → AreOfForm n (map city_item ps) → nat_abs (dual_of ps v) ≤ 2 ^ 62
city_dual_small n [] v h = omega arith
city_dual_small n (p ∷ ps) v h =
    let b = and_parts (nat_lt 0 p.0 && nat_le p.0 n) (is_dual (nat_abs p.1)) (bounds_of n (city_line p.0 p.1) h.0) in
    either_small (p.0 == v) p.1 (dual_of ps v) (dual_size (nat_abs p.1) b.1).1 (city_dual_small n ps v h.1)

city_duals_small : (n : ℕ) (ps : List (ℕ × ℤ)) (v m : ℕ) → AreOfForm n (map city_item ps) → AllByRecursion (λ y. nat_abs y ≤ 2 ^ 62) (duals_from ps v m)
city_duals_small n ps v zero h = tt
city_duals_small n ps v (suc m) h = (city_dual_small n ps v h, city_duals_small n ps (v + 1) m h)

city_duals_count : (ps : List (ℕ × ℤ)) (v m : ℕ) → length (duals_from ps v m) ≡ m
city_duals_count ps v zero = refl
city_duals_count ps v (suc m) = let r = city_duals_count ps (v + 1) m in omega arith

cut_duals_size : (n : ℕ) (cs : List Cut) (qs : List (ℕ × ℕ)) → AreOfForm n (map cut_item qs) → AllByRecursion (λ (q : Cut × ℕ). IsDualSize q.1) (map (λ (q : ℕ × ℕ). (cut_at cs q.0, q.1)) qs)
cut_duals_size n cs [] h = tt
cut_duals_size n cs (q ∷ qs) h =
    let b = and_parts (nat_lt 0 q.0 && nat_lt q.0 (2 ^ 32)) (is_dual q.1) (bounds_of n (cut_line q.0 q.1) h.0) in
    (dual_size q.1 b.1, cut_duals_size n cs qs h.1)

condition_duals_size : (n : ℕ) (qs : List (ℕ × ℕ)) → AreOfForm n (map condition_item qs) → AllByRecursion (λ (q : ℕ × ℕ). IsDualSize q.1) qs
condition_duals_size n [] h = tt
condition_duals_size n (q ∷ qs) h =
    let b = and_parts (nat_lt 0 q.0 && nat_lt q.0 (2 ^ 32)) (is_dual q.1) (bounds_of n (condition_line q.0 q.1) h.0) in
    (dual_size q.1 b.1, condition_duals_size n qs h.1)

nth_is_cut : (n m : ℕ) (cs : List Cut) → AllByRecursion (IsCut n) cs → m < length cs → IsCut n (slice_index_or cs m (subtour 0 []))
nth_is_cut n m [] h l = absurd (omega arith)
nth_is_cut n zero (c ∷ cs) h l = h.0
nth_is_cut n (suc m) (c ∷ cs) h l = nth_is_cut n m cs h.1 (omega arith)

named_are_cuts : (n : ℕ) (cs : List Cut) (from : ℕ) (ys : List (ℕ × ℕ)) → AllByRecursion (IsCut n) cs → 1 ≤ from → rises from (length cs) (firsts ys) ≡ true → AllByRecursion (λ (q : Cut × ℕ). IsCut n q.0) (map (λ (q : ℕ × ℕ). (cut_at cs q.0, q.1)) ys)
named_are_cuts n cs from [] h b e = tt
named_are_cuts n cs from (y ∷ ys) h b e =
    let p = and_parts (nat_le from y.0 && nat_le y.0 (length cs)) (rises (y.0 + 1) (length cs) (firsts ys)) e in
    let q = and_parts (nat_le from y.0) (nat_le y.0 (length cs)) p.0 in
    let low = leb-true from y.0 q.0 in
    let high = leb-true y.0 (length cs) q.1 in
    (nth_is_cut n (y.0 - 1) cs h (omega arith), named_are_cuts n cs (y.0 + 1) ys h (omega arith) p.1)

names_cliques : (path : List Condition) (qs : List (ℕ × ℕ)) → name_cliques path (firsts qs) ≡ true → NamesCliques path qs
names_cliques path [] e = tt
names_cliques path (q ∷ qs) e =
    let p = and_parts (is_clique (condition_at path q.0)) (name_cliques path (firsts qs)) e in
    (clique_yes (condition_at path q.0) p.0, names_cliques path qs p.1)

pub duals_are_closing : (n : ℕ) (cs : List Listed) (path : List Condition) (d : Duals) → AllByRecursion (IsCut n) (cuts_of n cs) → AreOfForm n (leaf_line (length d.cities) (length d.cuts) (length d.conds) ∷ dual_items d)
    → rises 1 (length cs) (firsts d.cuts) ≡ true → name_cliques path (firsts d.conds) ≡ true → IsClosing n path (closing_of n (cuts_of n cs) d)
duals_are_closing n cs path d are f r named =
    let P : Item → Type 0 = λ i. fits n i ≡ true in
    let cities = map city_item d.cities in
    let cuts = map cut_item d.cuts in
    let conds = map condition_item d.conds in
    let all = cuts_of n cs in
    let counts = leaf_bounds n (length d.cities) (length d.cuts) (length d.conds) f.0 in
    let behind = all_last P cities (cuts ++ conds) f.1 in
    let few : length (closing_of n all d).cuts ≤ 4096 = subst (λ m. m ≤ 4096) (sym (length_map (λ (q : ℕ × ℕ). (cut_at all q.0, q.1)) d.cuts)) counts.0 in
    record {
      counts = record { city = city_duals_count d.cities 1 n; cuts = few; conds = counts.1 };
      sizes = record {
        city = city_duals_small n d.cities 1 n (all_first P cities (cuts ++ conds) f.1);
        cuts = cut_duals_size n all d.cuts (all_first P cuts conds behind);
        conds = condition_duals_size n d.conds (all_last P cuts conds behind);
      };
      cuts = named_are_cuts n all 1 d.cuts are (omega arith) (subst (λ k. rises 1 k (firsts d.cuts) ≡ true) (sym (length_map (cut_of n) cs)) r);
      cliques = names_cliques path d.conds named;
    }

-- ---- trees

cliques_yes : (i : Instance) (path : List Condition) (ds : List ℕ) → all_named (verifier i) path ds ≡ true → name_cliques path ds ≡ true
cliques_yes i path [] e = refl
cliques_yes i path (d ∷ ds) e =
    let p = and_parts (is_clique (condition_at path d)) (all_named (verifier i) path ds) e in
    and_from (is_clique (condition_at path d)) (name_cliques path ds) p.0 (cliques_yes i path ds p.1)

yes_cliques : (i : Instance) (path : List Condition) (ds : List ℕ) → name_cliques path ds ≡ true → all_named (verifier i) path ds ≡ true
yes_cliques i path [] e = refl
yes_cliques i path (d ∷ ds) e =
    let p = and_parts (is_clique (condition_at path d)) (name_cliques path ds) e in
    and_from (is_clique (condition_at path d)) (all_named (verifier i) path ds) p.0 (yes_cliques i path ds p.1)

-- what a written tree is for a bound, with cuts listed
pub record IsWell (i : Instance) (h : Head) (path : List Condition) (t : Written) : Type 0 where
  pub rise : LeavesRise i.n (length h.cuts) t
  pub depths : DepthsName path t
  pub sound : IsSound i (needed h.bound) path (tree_of i.n (cuts_of i.n h.cuts) t)
  pub none_open : open_leaves (tree_of i.n (cuts_of i.n h.cuts) t) ≡ 0

tree_yes : (i : Instance) (h : Head) (path : List Condition) (t : Written) → AllByRecursion (IsCut i.n) (cuts_of i.n h.cuts) → AreOfForm i.n (tree_items t) → Good (verifier i) h path t → IsWell i h path t
tree_yes i h path open_leaf c f g = cc
tree_yes i h path (closed_leaf d) c f g =
    let o = g.0 in
    let named = cliques_yes i path (firsts d.conds) o.named in
    record {
      rise = record { cities = o.cities; cuts = o.cuts; conds = o.conds };
      depths = named;
      sound = (
        duals_are_closing i.n h.cuts path d c f o.cuts named,
        below_z (needed h.bound) (bound i path (closing_of i.n (cuts_of i.n h.cuts) d)) g.1,
      );
      none_open = refl;
    }
tree_yes i h path (edge_split u v t s) c f g =
    let P : Item → Type 0 = λ x. fits i.n x ≡ true in
    let a = tree_yes i h (path ++ absent (u - 1) (v - 1) ∷ []) t c (all_first P (tree_items t) (tree_items s) f.1) g.1.0 in
    let b = tree_yes i h (path ++ present (u - 1) (v - 1) ∷ []) s c (all_last P (tree_items t) (tree_items s) f.1) g.1.1 in
    let none = a.none_open in
    let none_too = b.none_open in
    record { rise = (a.rise, b.rise); depths = (a.depths, b.depths); sound = ((edge_bounds i.n u v f.0, g.0), (a.sound, b.sound)); none_open = omega arith }
tree_yes i h path (clique_split q t s) c f g =
    let P : Item → Type 0 = λ x. fits i.n x ≡ true in
    let a = tree_yes i h (path ++ two (from_zero q) ∷ []) t c (all_first P (tree_items t) (tree_items s) f.1) g.1.0 in
    let b = tree_yes i h (path ++ four (from_zero q) ∷ []) s c (all_last P (tree_items t) (tree_items s) f.1) g.1.1 in
    let none = a.none_open in
    let none_too = b.none_open in
    record { rise = (a.rise, b.rise); depths = (a.depths, b.depths); sound = (proper_yes i.n (from_zero q) g.0, (a.sound, b.sound)); none_open = omega arith }

yes_tree : (i : Instance) (h : Head) (path : List Condition) (t : Written) → LeavesRise i.n (length h.cuts) t → DepthsName path t → IsSound i (needed h.bound) path (tree_of i.n (cuts_of i.n h.cuts) t) → open_leaves (tree_of i.n (cuts_of i.n h.cuts) t) ≡ 0
    → Good (verifier i) h path t
yes_tree i h path open_leaf o w s n = absurd (omega arith)
yes_tree i h path (closed_leaf d) o w s n =
    (record { cities = o.cities; cuts = o.cuts; conds = o.conds; named = yes_cliques i path (firsts d.conds) w }, z_below (needed h.bound) (bound i path (closing_of i.n (cuts_of i.n h.cuts) d)) s.1)
yes_tree i h path (edge_split u v t z) o w s n = (
  s.0.1,
  (yes_tree i h (path ++ absent (u - 1) (v - 1) ∷ []) t o.0 w.0 s.1.0 (omega arith), yes_tree i h (path ++ present (u - 1) (v - 1) ∷ []) z o.1 w.1 s.1.1 (omega arith)),
)
yes_tree i h path (clique_split q t z) o w s n = (
  yes_proper i.n (from_zero q) s.0,
  (yes_tree i h (path ++ two (from_zero q) ∷ []) t o.0 w.0 s.1.0 (omega arith), yes_tree i h (path ++ four (from_zero q) ∷ []) z o.1 w.1 s.1.1 (omega arith)),
)

pub cuts_yes : (n : ℕ) (cs : List Listed) → AllByRecursion (λ c. is_cut n (cut_of n c) ≡ true) cs → AllByRecursion (IsCut n) (cuts_of n cs)
cuts_yes n [] h = tt
cuts_yes n (c ∷ cs) h = (cut_yes n (cut_of n c) h.0, cuts_yes n cs h.1)

pub yes_cuts : (n : ℕ) (cs : List Listed) → AllByRecursion (IsCut n) (cuts_of n cs) → AllByRecursion (λ c. is_cut n (cut_of n c) ≡ true) cs
yes_cuts n [] h = tt
yes_cuts n (c ∷ cs) h = (yes_cut n (cut_of n c) h.0, yes_cuts n cs h.1)

-- the form's depths, from the root of an instance
pub depths_at_root : (i : Instance) (t : Written) → DepthsName [] t → DepthsName (root i) t
depths_at_root i t h = subst (λ r. DepthsName r t) (append_nil (root i)) (depths_behind i.fixed [] t h)

pub depths_from_root : (i : Instance) (t : Written) → DepthsName (root i) t → DepthsName [] t
depths_from_root i t h = depths_without i.fixed [] t (subst (λ r. DepthsName r t) (sym (append_nil (root i))) h)

-- ---- by a verifier's tests

-- the lines are those of a value of the grammar that is accepted with this length and this bound
pub record AreLinesOf (i : Instance) (ls : List (List ℕ)) (l b : ℕ) (p : Proof) : Type 0 where
  pub lines : ls ≡ lines p
  pub form : HasForm i.n p
  pub accepted : IsAcceptedProof i l b p

abbrev pub AreAccepted : Instance → List (List ℕ) → ℕ → ℕ → Type 0
AreAccepted i ls l b = (p : Proof) × AreLinesOf i ls l b p

pub bound_yes : (i : Instance) (told : Option ℕ) (l b : ℕ) → IsToldBound (verifier i) told (l, b) → IsBoundOf told l b
bound_yes i None l b h = h
bound_yes i (Some k) l b h = (h.0, ltb-true b l h.1)

pub yes_bound : (i : Instance) (told : Option ℕ) (l b : ℕ) → IsBoundOf told l b → IsToldBound (verifier i) told (l, b)
yes_bound i None l b h = h
yes_bound i (Some k) l b h = (h.0, lt-ltb b l h.1)

accepted : (i : Instance) (l b : ℕ) (ls : List (List ℕ)) → AreGood (verifier i) ls (l, b) → AreAccepted i ls l b
accepted i l b ls (p, e, f, g) =
    let P : Item → Type 0 = λ x. fits i.n x ≡ true in
    let cs = from_zero p.tour in
    let tour = tour_from_one_yes i p.tour g.is_tour in
    let cuts = cuts_yes i.n p.cuts g.cuts in
    let behind : AreOfForm i.n (body p.tour p.cuts p.tree) = all_last P (head_items p.cities p.long p.bound) (body p.tour p.cuts p.tree) (subst (λ r. AreOfForm i.n r) (items_said p) f) in
    let tree = tree_yes i (record { long = l; bound = b; cuts = p.cuts }) (root i) p.tree cuts (all_last P (flat_map listed_items p.cuts) (tree_items p.tree) behind.1.1) g.tree in
    let bound = bound_yes i p.bound l b g.bound in (
      p,
      record {
        lines = e;
        form = record { readable = record { lines = f; pairs = g.pairs; rise = tree.rise }; depths = depths_from_root i p.tree tree.depths };
        accepted = record {
          about = record { size = eqb-true p.cities i.n g.size; same = g.same_length; bound = bound; cuts = cuts; from_one = tour.from_one };
          accepted = record {
            is_tour = tour.is_tour;
            canonical = tour.canonical;
            long = sym (eqb-true (length_in i cs) l g.long);
            below = bound_le p.bound l b bound;
            sound = tree.sound;
            none_open = tree.none_open;
          };
        };
      },
    )

is_good : (i : Instance) (l b : ℕ) (ls : List (List ℕ)) → AreAccepted i ls l b → AreGood (verifier i) ls (l, b)
is_good i l b ls (p, k) =
    let cs = from_zero p.tour in
    let f = k.form in
    let about = k.accepted.about in
    let a = k.accepted.accepted in (
      p,
      k.lines,
      f.readable.lines,
      record {
        size = eq-eqb p.cities i.n about.size;
        same_length = about.same;
        bound = yes_bound i p.bound l b about.bound;
        is_tour = yes_tour_from_one i p.tour about.from_one a.is_tour a.canonical;
        long = eq-eqb (length_in i cs) l (sym a.long);
        pairs = f.readable.pairs;
        cuts = yes_cuts i.n p.cuts about.cuts;
        tree = yes_tree i (record { long = l; bound = b; cuts = p.cuts }) (root i) p.tree f.readable.rise (depths_at_root i p.tree f.depths) a.sound a.none_open;
      },
    )

-- the verdict on lines is yes exactly on those of accepted values
pub yes_is_accepted : (i : Instance) (ls : List (List ℕ)) (l b : ℕ) → i.n < 2 ^ 32 → (verdict_by (verifier i) ls ≡ yes l b) ↔ AreAccepted i ls l b
yes_is_accepted i ls l b h =
    let y = yes_is_good (verifier i) ls (l, b) h in
    (λ e. accepted i l b ls (y.0 e), λ a. y.1 (is_good i l b ls a))

-- ---- by the form alone

all_true : {X : Type 0} (xs : List X) → AllByRecursion (λ (x : X). true ≡ true) xs
all_true [] = tt
all_true (x ∷ xs) = (refl, all_true xs)

form_names : (n : ℕ) (path : List Condition) (ds : List ℕ) → all_named (form_only n) path ds ≡ true
form_names n path [] = refl
form_names n path (d ∷ ds) = form_names n path ds

rises_of : (n : ℕ) (h : Head) (path : List Condition) (t : Written) → Good (form_only n) h path t → LeavesRise n (length h.cuts) t
rises_of n h path open_leaf g = tt
rises_of n h path (closed_leaf d) g = let o = g.0 in record { cities = o.cities; cuts = o.cuts; conds = o.conds }
rises_of n h path (edge_split u v t s) g = (rises_of n h (path ++ absent (u - 1) (v - 1) ∷ []) t g.1.0, rises_of n h (path ++ present (u - 1) (v - 1) ∷ []) s g.1.1)
rises_of n h path (clique_split q t s) g = (rises_of n h (path ++ two (from_zero q) ∷ []) t g.1.0, rises_of n h (path ++ four (from_zero q) ∷ []) s g.1.1)

of_rises : (n : ℕ) (h : Head) (path : List Condition) (t : Written) → LeavesRise n (length h.cuts) t → Good (form_only n) h path t
of_rises n h path open_leaf g = refl
of_rises n h path (closed_leaf d) g = (record { cities = g.cities; cuts = g.cuts; conds = g.conds; named = form_names n path (firsts d.conds) }, refl)
of_rises n h path (edge_split u v t s) g = (refl, (of_rises n h (path ++ absent (u - 1) (v - 1) ∷ []) t g.0, of_rises n h (path ++ present (u - 1) (v - 1) ∷ []) s g.1))
of_rises n h path (clique_split q t s) g = (refl, (of_rises n h (path ++ two (from_zero q) ∷ []) t g.0, of_rises n h (path ++ four (from_zero q) ∷ []) s g.1))

-- a bound by the form alone: any number, where one is told
abbrev pub IsSaidBound : Option ℕ → ℕ → ℕ → Type 0
IsSaidBound None l b = b ≡ l
IsSaidBound (Some told) l b = told ≡ b

pub its_bound : (told : Option ℕ) (l : ℕ) → IsSaidBound told l (bound_of l told)
its_bound None l = refl
its_bound (Some k) l = refl

said_bound : (n : ℕ) (told : Option ℕ) (l b : ℕ) → IsToldBound (form_only n) told (l, b) → IsSaidBound told l b
said_bound n None l b h = h
said_bound n (Some k) l b h = h.0

of_said : (n : ℕ) (told : Option ℕ) (l b : ℕ) → IsSaidBound told l b → IsToldBound (form_only n) told (l, b)
of_said n None l b h = h
of_said n (Some k) l b h = (h, refl)

-- the lines are those of a value of the grammar
pub record AreReadable (n : ℕ) (ls : List (List ℕ)) (l b : ℕ) (p : Proof) : Type 0 where
  pub lines : ls ≡ lines p
  pub readable : IsReadable n p
  pub same : p.long ≡ l
  pub bound : IsSaidBound p.bound l b

pub form_is_readable : (n : ℕ) (ls : List (List ℕ)) (l b : ℕ) → n < 2 ^ 32 → (verdict_by (form_only n) ls ≡ yes l b) ↔ ((p : Proof) × AreReadable n ls l b p)
form_is_readable n ls l b h =
    let y = yes_is_good (form_only n) ls (l, b) h in (
      λ e. let g = y.0 e in (
        g.0,
        record {
          lines = g.1;
          readable = record { lines = g.2; pairs = g.3.pairs; rise = rises_of n (record { long = l; bound = b; cuts = g.0.cuts }) [] g.0.tree g.3.tree };
          same = g.3.same_length;
          bound = said_bound n g.0.bound l b g.3.bound;
        },
      ),
      λ a. y.1 (
        a.0,
        a.1.lines,
        a.1.readable.lines,
        record {
          size = refl;
          same_length = a.1.same;
          bound = of_said n a.0.bound l b a.1.bound;
          is_tour = refl;
          long = refl;
          pairs = a.1.readable.pairs;
          cuts = all_true a.0.cuts;
          tree = of_rises n (record { long = l; bound = b; cuts = a.0.cuts }) [] a.0.tree a.1.readable.rise;
        },
      ),
    )
