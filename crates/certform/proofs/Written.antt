-- A value that is written is of the grammar.
use Rattle.std.proofs.Common.{◌≡◌, ℕ, zero, suc, ◌+◌, ◌-◌, ◌*◌, ◌^◌, ◌<◌, ◌≤◌, true, List, [], ◌∷◌, ◌++◌, length, map, refl, sym, ap, ◌∙◌, subst, arith, length-append, ⊎_elim}
use Rattle.std.specs.Prelude.{nat_abs, nat_lt, nat_le, ◌%◌, ◌&&◌, ◌||◌, ◌==◌, ℤ, Option, Some, None, slice_get, codes}
use Rattle.std.specs.List.{AllByRecursion, flat_map}
use Rattle.std.proofs.lemmas.Bool.{and_from, and_parts, or_left, or_right, leb-true, lt-ltb, eq-eqb, cond_both, eqb-false, false≢true}
use Rattle.std.proofs.lemmas.List.{length-map}
use Rattle.tspdef.specs.Sets.{meet}
use Rattle.tspdef.specs.Cuts.{Cut, subtour, comb, odd, IsTooth, IsCut}
use Rattle.tspdef.specs.Fixed.{IsPairBefore, PairsRise, AreRisingPairs}
use Rattle.tspdef.specs.Paths.{Condition, fixed, absent, present, two, four, branches, condition_at, IsClique}
use Rattle.tspdef.proofs.RootLemmas.{branches_join}
use Rattle.tspdef.specs.Closings.{Closing, IsDualSize, DepthsRise, NamesCliques, Fits}
use Rattle.tspdef.specs.Trees as trees
use Rattle.tspdef.specs.Trees.{Tree, open_leaves, settled}
use Rattle.tspdef.proofs.SmallCuts.{cuts_are_small}
use Rattle.certdef.specs.Items.{Item, subtour_line, handle_line, tooth_line, clique_line, line, rises, is_before, pairs_rise_from, pairs_rise, in_bounds, longest, fits}
use Rattle.certdef.specs.Proofs.{Listed, listed_items, pair_item, city_item, cut_item, condition_item, tree_items, ended}
use Rattle.certdef.specs.Accepted.{firsts, is_clique, name_cliques, rises_in_cut, RisesIn, LeavesRise, DepthsName}
use Rattle.certform.specs.Written.{from_one, pair_from_one, listed, written_cities, written_cuts, written_leaf, written_tree, number_of}
use Rattle.certform.specs.Lines.{said}
use Rattle.certform.specs.Faithful.{IsFitting}
use Rattle.certform.proofs.Numbering.{HasAllOf, number_some, number_within}
use Rattle.certform.specs.Listing.{AreListed}
use Rattle.certform.proofs.Sorting.{all-put_in, length-written_cuts, numbers_rise, rises_again}
use Rattle.certform.proofs.Again.{less_one, cities_again}
use Rattle.certform.proofs.Spelling.{fits_comb, fits_odd, fits_pair, fits_edge, fits_leaf, fits_city, fits_cut, fits_condition, fits_open, fits_set, set_is_set}

abbrev pub AllFit : ℕ → List Item → Type 0
AllFit n xs = AllByRecursion (λ x. fits n x ≡ true) xs

pub all_join : (n : ℕ) (xs ys : List Item) → AllFit n xs → AllFit n ys → AllFit n (xs ++ ys)
all_join n [] ys h k = k
all_join n (x ∷ xs) ys h k = (h.0, all_join n xs ys h.1 k)

-- ---- listed cuts

meets_some : (t h : List ℕ) → meet t h ≡ true → 1 ≤ length t
meets_some [] h e = absurd (false≢true e)
meets_some (c ∷ cs) h e = omega arith

teeth_fit : (n : ℕ) (h : List ℕ) (ts : List (List ℕ)) → n ≤ 2000 → AllByRecursion (IsTooth n h) ts → AllFit n (map tooth_line (map from_one ts))
teeth_fit n h [] few k = tt
teeth_fit n h (t ∷ ts) few k =
    (fits_set n (tooth_line (from_one t)) (codes "T") t few k.0.set refl (omega arith) (set_is_set n t k.0.set (meets_some t h k.0.inside)), teeth_fit n h ts few k.1)

pairs_fit : (n : ℕ) (ps : List (ℕ × ℕ)) → n ≤ 2000 → AllByRecursion (λ p. (p.0 < p.1) × (p.1 < n)) ps → AllFit n (map pair_item (map pair_from_one ps))
pairs_fit n [] few h = tt
pairs_fit n (p ∷ ps) few h = (fits_pair n p.0 p.1 few h.0.0 h.0.1, pairs_fit n ps few h.1)

-- pairs that rise do so when their cities are counted from 1
is_before_one : (p q : ℕ × ℕ) → IsPairBefore p q → is_before (pair_from_one p) (pair_from_one q) ≡ true
is_before_one p q h = ⊎_elim
    (λ a. or_left (nat_lt (p.0 + 1) (q.0 + 1)) (((p.0 + 1) == (q.0 + 1)) && nat_lt (p.1 + 1) (q.1 + 1)) (lt-ltb (p.0 + 1) (q.0 + 1) (omega arith)))
    (λ b. let e = b.0 in let l = b.1 in or_right (nat_lt (p.0 + 1) (q.0 + 1)) (((p.0 + 1) == (q.0 + 1)) && nat_lt (p.1 + 1) (q.1 + 1))
    (and_from ((p.0 + 1) == (q.0 + 1)) (nat_lt (p.1 + 1) (q.1 + 1)) (eq-eqb (p.0 + 1) (q.0 + 1) (omega arith)) (lt-ltb (p.1 + 1) (q.1 + 1) (omega arith))))
    h

rise_from_one : (p : ℕ × ℕ) (ps : List (ℕ × ℕ)) → PairsRise p ps → pairs_rise_from (pair_from_one p) (map pair_from_one ps) ≡ true
rise_from_one p [] h = refl
rise_from_one p (q ∷ qs) h = and_from (is_before (pair_from_one p) (pair_from_one q)) (pairs_rise_from (pair_from_one q) (map pair_from_one qs)) (is_before_one p q h.0) (rise_from_one q qs h.1)

rise_one : (ps : List (ℕ × ℕ)) → AreRisingPairs ps → pairs_rise (map pair_from_one ps) ≡ true
rise_one [] h = refl
rise_one (p ∷ ps) h = rise_from_one p ps h

cut_rises : (n : ℕ) (c : Cut) → IsCut n c → rises_in_cut (listed c) ≡ true
cut_rises n (subtour m s) k = refl
cut_rises n (comb m h ts) k = refl
cut_rises n (odd m h ps) k = rise_one ps k.1.rising

pub cuts_rise : (n : ℕ) (cs : List Cut) → AllByRecursion (IsCut n) cs → AllByRecursion (λ c. rises_in_cut c ≡ true) (map listed cs)
cuts_rise n [] h = tt
cuts_rise n (c ∷ cs) h = (cut_rises n c h.0, cuts_rise n cs h.1)

some_odd : (k : ℕ) → k % 2 ≡ 1 → 1 ≤ k
some_odd k h = omega arith

cut_fits : (n : ℕ) (c : Cut) → n ≤ 2000 → IsCut n c → AllFit n (listed_items (listed c))
cut_fits n (subtour m s) few k =
    let p = k.1 in (fits_set n (subtour_line (from_one s)) (codes "S") s few p.set refl (omega arith) (set_is_set n s p.set p.some), tt)
cut_fits n (comb m h ts) few k =
    let p = k.1.proper in
    let small = (cuts_are_small n (comb m h ts) k).right in
    let l = length-map ts from_one in (
      fits_comb n (length (map from_one ts)) (omega arith),
      (
        fits_set n (handle_line (from_one h)) (codes "H") h few p.set refl (omega arith) (set_is_set n h p.set p.some),
        teeth_fit n h ts few k.1.each_tooth,
      ),
    )
cut_fits n (odd m h ps) few k =
    let p = k.1.proper in
    let small = k.1.few in
    let some = some_odd (length ps) k.1.odd in
    let l = length-map ps pair_from_one in (
      fits_odd n (length (map pair_from_one ps)) (omega arith) (omega arith),
      (
        fits_set n (handle_line (from_one h)) (codes "H") h few p.set refl (omega arith) (set_is_set n h p.set p.some),
        pairs_fit n ps few k.1.below,
      ),
    )

pub cuts_fit : (n : ℕ) (cs : List Cut) → n ≤ 2000 → AllByRecursion (IsCut n) cs → AllFit n (flat_map listed_items (map listed cs))
cuts_fit n [] few h = tt
cuts_fit n (c ∷ cs) few h = all_join n (listed_items (listed c)) (flat_map listed_items (map listed cs)) (cut_fits n c few h.0) (cuts_fit n cs few h.1)

cut_length : (n : ℕ) (c : Cut) → n ≤ 2000 → IsCut n c → length (listed_items (listed c)) ≤ 4097
cut_length n (subtour m s) few k = omega arith
cut_length n (comb m h ts) few k =
    let small = (cuts_are_small n (comb m h ts) k).right in
    let l = length-map ts from_one in let j = length-map (map from_one ts) tooth_line in omega arith
cut_length n (odd m h ps) few k =
    let small = k.1.few in
    let l = length-map ps pair_from_one in let j = length-map (map pair_from_one ps) pair_item in omega arith

pub cuts_length : (n : ℕ) (cs : List Cut) → n ≤ 2000 → AllByRecursion (IsCut n) cs → length (flat_map listed_items (map listed cs)) ≤ 4097 * length cs
cuts_length n [] few h = omega arith
cuts_length n (c ∷ cs) few h =
    let one = cut_length n c few h.0 in let ih = cuts_length n cs few h.1 in
    let l = length-append (listed_items (listed c)) (flat_map listed_items (map listed cs)) in omega arith

-- ---- the duals of cities

pub few_cities : (v : ℕ) (ys : List ℤ) → length (written_cities v ys) ≤ length ys
few_cities v [] = omega arith
few_cities v (y ∷ ys) = cond_both (nat_abs y == 0) (written_cities (v + 1) ys) ((v, y) ∷ written_cities (v + 1) ys) (λ ps. length ps ≤ length (y ∷ ys))
    (λ e. let ih = few_cities (v + 1) ys in omega arith) (λ e. let ih = few_cities (v + 1) ys in omega arith)

cities_fit : (n v : ℕ) (ys : List ℤ) → n ≤ 2000 → 1 ≤ v → v + length ys ≤ n + 1 → AllByRecursion (λ y. nat_abs y ≤ 2 ^ 62) ys → AllFit n (map city_item (written_cities v ys))
cities_fit n v [] few a b h = tt
cities_fit n v (y ∷ ys) few a b h = cond_both (nat_abs y == 0) (written_cities (v + 1) ys) ((v, y) ∷ written_cities (v + 1) ys) (λ ps. AllFit n (map city_item ps))
    (λ e. cities_fit n (v + 1) ys few (omega arith) (omega arith) h.1)
    (λ e. let some : 1 ≤ nat_abs y = not_zero (nat_abs y) (eqb-false (nat_abs y) 0 e) in
    (fits_city n v y few a (omega arith) some h.0, cities_fit n (v + 1) ys few (omega arith) (omega arith) h.1)) where
      not_zero : (k : ℕ) → (k ≡ 0 → ⊥) → 1 ≤ k
      not_zero k h = omega arith

cities_later : (most from v : ℕ) (ys : List ℤ) → from ≤ v → v + length ys ≤ most + 1 → rises from most (firsts (written_cities v ys)) ≡ true
cities_later most from v [] a b = refl
cities_later most from v (y ∷ ys) a b = cond_both (nat_abs y == 0) (written_cities (v + 1) ys) ((v, y) ∷ written_cities (v + 1) ys) (λ ps. rises from most (firsts ps) ≡ true)
    (λ e. cities_later most from (v + 1) ys (omega arith) (omega arith))
    (λ e. rises_again from most v (firsts (written_cities (v + 1) ys)) a (omega arith) (cities_later most (v + 1) (v + 1) ys (omega arith) (omega arith)))

-- ---- the duals of cuts

numbers_fit : (n : ℕ) (cs : List Cut) (qs : List (Cut × ℕ)) → length cs < 2 ^ 32 → AreListed cs qs → AllByRecursion (λ q. IsDualSize q.1) qs
    → AllByRecursion (λ q. fits n (cut_item q) ≡ true) (written_cuts cs qs)
numbers_fit n cs [] few h s = tt
numbers_fit n cs (q ∷ qs) few h s =
    let l = number_within cs q.0 h.0 in
    all-put_in (λ x. fits n (cut_item x) ≡ true) (number_of cs q.0, q.1) (written_cuts cs qs)
    (fits_cut n (number_of cs q.0) q.1 (number_some cs q.0) (omega arith) s.0.0 s.0.1) (numbers_fit n cs qs few h.1 s.1)

all_mapped : {X : Type 0} (n : ℕ) (f : X → Item) (xs : List X) → AllByRecursion (λ x. fits n (f x) ≡ true) xs → AllFit n (map f xs)
all_mapped n f [] h = tt
all_mapped n f (x ∷ xs) h = (h.0, all_mapped n f xs h.1)

-- ---- the duals of conditions

clique_within : (path : List Condition) (k : ℕ) → IsClique (slice_get path k) → k < length path
clique_within [] k h = absurd h
clique_within (c ∷ cs) zero h = omega arith
clique_within (c ∷ cs) (suc k) h = let ih = clique_within cs k h in omega arith

depth_within : (path : List Condition) (d : ℕ) → IsClique (condition_at path d) → d ≤ length (branches path)
depth_within path zero h = absurd h
depth_within path (suc k) h = let l = clique_within (branches path) k h in omega arith

depths_fit : (n d : ℕ) (path : List Condition) (qs : List (ℕ × ℕ)) → length (branches path) < 2 ^ 32 → DepthsRise d qs → NamesCliques path qs → AllByRecursion (λ q. IsDualSize q.1) qs
    → AllFit n (map condition_item qs)
depths_fit n d path [] few r h s = tt
depths_fit n d path (q ∷ qs) few r h s =
    let up = r.0 in let w = depth_within path q.0 h.0 in
    (fits_condition n q.0 q.1 (omega arith) (omega arith) s.0.0 s.0.1, depths_fit n q.0 path qs few r.1 h.1 s.1)

depths_rise : (d : ℕ) (path : List Condition) (qs : List (ℕ × ℕ)) → length (branches path) < 2 ^ 32 → DepthsRise d qs → NamesCliques path qs → rises (d + 1) (2 ^ 32) (firsts qs) ≡ true
depths_rise d path [] few r h = refl
depths_rise d path (q ∷ qs) few r h =
    let up = r.0 in let w = depth_within path q.0 h.0 in
    rises_again (d + 1) (2 ^ 32) q.0 (firsts qs) (omega arith) (omega arith) (depths_rise q.0 path qs few r.1 h.1)

named_clique : (c : Option Condition) → IsClique c → is_clique c ≡ true
named_clique None h = absurd h
named_clique (Some (fixed u v)) h = absurd h
named_clique (Some (absent u v)) h = absurd h
named_clique (Some (present u v)) h = absurd h
named_clique (Some (two s)) h = refl
named_clique (Some (four s)) h = refl

cliques_named : (path : List Condition) (qs : List (ℕ × ℕ)) → NamesCliques path qs → name_cliques path (firsts qs) ≡ true
cliques_named path [] h = refl
cliques_named path (q ∷ qs) h = and_from (is_clique (condition_at path q.0)) (name_cliques path (firsts qs)) (named_clique (condition_at path q.0) h.0) (cliques_named path qs h.1)

-- ---- a leaf

leaf_fits : (n : ℕ) (path : List Condition) (cs : List Cut) (c : Closing) → n ≤ 2000 → length cs < 2 ^ 32 → length (branches path) < 2 ^ 32 → AreListed cs c.cuts → Fits n path c
    → AllFit n (tree_items (written_tree cs (trees.closed_leaf c)))
leaf_fits n path cs c few some deep h f =
    let l = length-written_cuts cs c.cuts in
    let k = few_cities 1 c.city in
    let counts = f.counts in
    let city = counts.city in let cuts = counts.cuts in let conds = counts.conds in (
      fits_leaf n (length (written_cities 1 c.city)) (length (written_cuts cs c.cuts)) (length c.conds) few (omega arith) (omega arith) conds,
      all_join n (map city_item (written_cities 1 c.city)) (map cut_item (written_cuts cs c.cuts) ++ map condition_item c.conds)
          (cities_fit n 1 c.city few (omega arith) (omega arith) f.sizes.city)
          (all_join n (map cut_item (written_cuts cs c.cuts)) (map condition_item c.conds)
          (all_mapped n cut_item (written_cuts cs c.cuts) (numbers_fit n cs c.cuts some h f.sizes.cuts))
          (depths_fit n 0 path c.conds deep f.depths.rising f.depths.cliques f.sizes.conds)),
    )

leaf_rises : (n : ℕ) (path : List Condition) (cs : List Cut) (c : Closing) → length (branches path) < 2 ^ 32 → AreListed cs c.cuts → Fits n path c → RisesIn n (length cs) (written_leaf cs c)
leaf_rises n path cs c deep h f =
    let city = f.counts.city in
    record {
      cities = cities_later n 1 1 c.city (omega arith) (omega arith);
      cuts = numbers_rise cs c.cuts h f.cuts.rising;
      conds = depths_rise 0 path c.conds deep f.depths.rising f.depths.cliques;
    }

leaf_length : (n : ℕ) (path : List Condition) (cs : List Cut) (c : Closing) → n ≤ 2000 → Fits n path c → length (tree_items (written_tree cs (trees.closed_leaf c))) ≤ 10193
leaf_length n path cs c few f =
    let counts = f.counts in
    let city = counts.city in let cuts = counts.cuts in let conds = counts.conds in
    let k = few_cities 1 c.city in
    let l = length-written_cuts cs c.cuts in
    let x = length-append (map city_item (written_cities 1 c.city)) (map cut_item (written_cuts cs c.cuts) ++ map condition_item c.conds) in
    let y = length-append (map cut_item (written_cuts cs c.cuts)) (map condition_item c.conds) in
    let p = length-map (written_cities 1 c.city) city_item in let q = length-map (written_cuts cs c.cuts) cut_item in let r = length-map c.conds condition_item in
    omega arith

-- ---- a tree

-- the path of a node of a tree of so many nodes is not long, its fixed pairs apart
longer : (path : List Condition) (c : Condition) → branches (c ∷ []) ≡ c ∷ [] → length (branches (path ++ c ∷ [])) ≡ length (branches path) + 1
longer path c e = ap length (branches_join path (c ∷ []) ∙ ap (λ ds. branches path ++ ds) e) ∙ length-append (branches path) (c ∷ [])

pub tree_fits : (n : ℕ) (path : List Condition) (cs : List Cut) (t : Tree) → n ≤ 2000 → length cs < 2 ^ 32 → length (branches path) + (open_leaves t + settled t) ≤ 1048576 → HasAllOf cs t → IsFitting n path t
    → AllFit n (tree_items (written_tree cs t))
tree_fits n path cs trees.open_leaf few some deep h f = (fits_open n, tt)
tree_fits n path cs (trees.closed_leaf c) few some deep h f = leaf_fits n path cs c few some (omega arith) h f
tree_fits n path cs (trees.edge_split u v a b) few some deep h f =
    let x = longer path (absent u v) refl in let y = longer path (present u v) refl in (
      fits_edge n u v few f.0.0.0 f.0.0.1,
      all_join n (tree_items (written_tree cs a)) (tree_items (written_tree cs b))
          (tree_fits n (path ++ absent u v ∷ []) cs a few some (omega arith) h.0 f.1.0)
          (tree_fits n (path ++ present u v ∷ []) cs b few some (omega arith) h.1 f.1.1),
    )
tree_fits n path cs (trees.clique_split s a b) few some deep h f =
    let x = longer path (two s) refl in let y = longer path (four s) refl in let p = f.0 in (
      fits_set n (clique_line (from_one s)) (codes "K") s few p.set refl (omega arith) (set_is_set n s p.set p.some),
      all_join n (tree_items (written_tree cs a)) (tree_items (written_tree cs b))
          (tree_fits n (path ++ two s ∷ []) cs a few some (omega arith) h.0 f.1.0)
          (tree_fits n (path ++ four s ∷ []) cs b few some (omega arith) h.1 f.1.1),
    )

pub tree_rises : (n : ℕ) (path : List Condition) (cs : List Cut) (t : Tree) → length (branches path) + (open_leaves t + settled t) ≤ 1048576 → HasAllOf cs t → IsFitting n path t → LeavesRise n (length cs) (written_tree cs t)
tree_rises n path cs trees.open_leaf deep h f = tt
tree_rises n path cs (trees.closed_leaf c) deep h f = leaf_rises n path cs c (omega arith) h f
tree_rises n path cs (trees.edge_split u v a b) deep h f =
    let x = longer path (absent u v) refl in let y = longer path (present u v) refl in
    (tree_rises n (path ++ absent u v ∷ []) cs a (omega arith) h.0 f.1.0, tree_rises n (path ++ present u v ∷ []) cs b (omega arith) h.1 f.1.1)
tree_rises n path cs (trees.clique_split s a b) deep h f =
    let x = longer path (two s) refl in let y = longer path (four s) refl in
    (tree_rises n (path ++ two s ∷ []) cs a (omega arith) h.0 f.1.0, tree_rises n (path ++ four s ∷ []) cs b (omega arith) h.1 f.1.1)

pub tree_names : (n : ℕ) (path : List Condition) (cs : List Cut) (t : Tree) → IsFitting n path t → DepthsName path (written_tree cs t)
tree_names n path cs trees.open_leaf f = tt
tree_names n path cs (trees.closed_leaf c) f = cliques_named path c.conds f.depths.cliques
tree_names n path cs (trees.edge_split u v a b) f =
    let x = less_one u in let y = less_one v in
    let p : ◌≡◌ {A = Condition} (absent ((u + 1) - 1) ((v + 1) - 1)) (absent u v) = cc in
    let q : ◌≡◌ {A = Condition} (present ((u + 1) - 1) ((v + 1) - 1)) (present u v) = cc in (
      subst (λ (c : Condition). DepthsName (path ++ c ∷ []) (written_tree cs a)) (sym p) (tree_names n (path ++ absent u v ∷ []) cs a f.1.0),
      subst (λ (c : Condition). DepthsName (path ++ c ∷ []) (written_tree cs b)) (sym q) (tree_names n (path ++ present u v ∷ []) cs b f.1.1),
    )
tree_names n path cs (trees.clique_split s a b) f =
    let x = cities_again s in (
      subst (λ (z : List ℕ). DepthsName (path ++ two z ∷ []) (written_tree cs a)) (sym x) (tree_names n (path ++ two s ∷ []) cs a f.1.0),
      subst (λ (z : List ℕ). DepthsName (path ++ four z ∷ []) (written_tree cs b)) (sym x) (tree_names n (path ++ four s ∷ []) cs b f.1.1),
    )

pub tree_length : (n : ℕ) (path : List Condition) (cs : List Cut) (t : Tree) → n ≤ 2000 → IsFitting n path t → length (tree_items (written_tree cs t)) ≤ 10193 * (open_leaves t + settled t)
tree_length n path cs trees.open_leaf few f = omega arith
tree_length n path cs (trees.closed_leaf c) few f = let l = leaf_length n path cs c few f in omega arith
tree_length n path cs (trees.edge_split u v a b) few f =
    let x = tree_length n (path ++ absent u v ∷ []) cs a few f.1.0 in let y = tree_length n (path ++ present u v ∷ []) cs b few f.1.1 in
    let l = length-append (tree_items (written_tree cs a)) (tree_items (written_tree cs b)) in omega arith
tree_length n path cs (trees.clique_split s a b) few f =
    let x = tree_length n (path ++ two s ∷ []) cs a few f.1.0 in let y = tree_length n (path ++ four s ∷ []) cs b few f.1.1 in
    let l = length-append (tree_items (written_tree cs a)) (tree_items (written_tree cs b)) in omega arith

-- ---- how long a text is

pub text_length : (n : ℕ) (xs : List Item) → AllFit n xs → length (said xs) ≤ 16385 * length xs
text_length n [] h = omega arith
text_length n (x ∷ xs) h =
    let p = and_parts (in_bounds n x) (nat_le (length (line x)) longest) h.0 in
    let short = leb-true (length (line x)) longest p.1 in
    let l = length-append (line x) (10 ∷ []) in
    let k = length-append (ended (line x)) (said xs) in
    let ih = text_length n xs h.1 in omega arith
