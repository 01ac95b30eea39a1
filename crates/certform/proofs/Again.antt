-- What is written stands for the tree again, but for the order of the cuts in a leaf.
use Rattle.std.proofs.Common.{◌≡◌, ℕ, zero, suc, ◌+◌, ◌-◌, ◌*◌, ◌<◌, ◌≤◌, List, [], ◌∷◌, ◌++◌, length, map, refl, sym, ◌∙◌, ap, subst, arith}
use Rattle.std.specs.Prelude.{nat_abs, ◌==◌, ℤ, pos, negsuc, ◌+ℤ◌, ◌-ℤ◌, ◌<ℤ◌, ◌^◌}
use Rattle.std.specs.List.{AllByRecursion}
use Rattle.std.proofs.lemmas.Bool.{cond-true, cond-false, cond_both, eqb-true, eq-eqb, ne_eqb}
use Rattle.std.proofs.lemmas.List.{length-map}
use Rattle.tspdef.specs.Cuts.{Cut, subtour, comb, odd, IsCut}
use Rattle.tspdef.specs.Paths.{Condition, absent, present, two, four}
use Rattle.tspdef.specs.Closings.{Closing, IsClosing, IsDualSize}
use Rattle.tspdef.specs.Instances.{Instance, dist}
use Rattle.tspdef.specs.Sums.{sum_below, sum_pairs}
use Rattle.tspdef.specs.Bounds.{scale, cut_rows, condition_rows, price, worth, city_dual, pair_term, bound}
use Rattle.tspdef.specs.Trees as trees
use Rattle.tspdef.specs.Trees.{Tree, IsSound, open_leaves, settled}
use Rattle.certdef.specs.Accepted.{from_zero, pair_from_zero, cut_of, cuts_of, dual_of, duals_from, closing_of, tree_of}
use Rattle.certform.specs.Written.{from_one, pair_from_one, listed, written_cities, written_cuts, written_leaf, written_tree}
use Rattle.certform.specs.Faithful.{AreAlike}
use Rattle.certform.proofs.Numbering.{HasAllOf}
use Rattle.certform.specs.Listing.{AreListed}
use Rattle.certform.proofs.Sorting.{named, length-written_cuts, worth_same, price_same, duals_same, all_same}

-- ---- cities and cuts

pub less_one : (c : ℕ) → (c + 1) - 1 ≡ c
less_one c = omega arith

pub cities_again : (s : List ℕ) → from_zero (from_one s) ≡ s
cities_again [] = refl
cities_again (c ∷ cs) = let e = less_one c in let ih = cities_again cs in cc

sets_again : (ts : List (List ℕ)) → map from_zero (map from_one ts) ≡ ts
sets_again [] = refl
sets_again (t ∷ ts) = let e = cities_again t in let ih = sets_again ts in cc

pairs_again : (ps : List (ℕ × ℕ)) → map pair_from_zero (map pair_from_one ps) ≡ ps
pairs_again [] = refl
pairs_again (p ∷ ps) =
    ap (λ x. (x, p.1 + 1 - 1) ∷ map pair_from_zero (map pair_from_one ps)) (less_one p.0)
    ∙ (ap (λ x. (p.0, x) ∷ map pair_from_zero (map pair_from_one ps)) (less_one p.1) ∙ ap (λ qs. p ∷ qs) (pairs_again ps))

cut_again : (n : ℕ) (c : Cut) → IsCut n c → cut_of n (listed c) ≡ c
cut_again n (subtour m s) k = let e = cities_again s in let f = k.0 in cc
cut_again n (comb m h ts) k = let e = cities_again h in let g = sets_again ts in let f = k.0 in cc
cut_again n (odd m h ps) k = let e = cities_again h in let g = pairs_again ps in let f = k.0 in cc

pub cuts_again : (n : ℕ) (cs : List Cut) → AllByRecursion (IsCut n) cs → cuts_of n (map listed cs) ≡ cs
cuts_again n [] h = refl
cuts_again n (c ∷ cs) h = let e = cut_again n c h.0 in let ih = cuts_again n cs h.1 in cc

-- ---- the duals of cities

none_behind : (v w : ℕ) (ys : List ℤ) → v < w → dual_of (written_cities w ys) v ≡ pos 0
none_behind v w [] l = refl
none_behind v w (y ∷ ys) l = cond_both (nat_abs y == 0) (written_cities (w + 1) ys) ((w, y) ∷ written_cities (w + 1) ys) (λ ps. dual_of ps v ≡ pos 0)
    (λ e. none_behind v (w + 1) ys (omega arith))
    (λ e. cond-false (w == v) y (dual_of (written_cities (w + 1) ys) v) (ne_eqb w v (omega arith)) ∙ none_behind v (w + 1) ys (omega arith))

passed_over : (p : ℕ × ℤ) (ps : List (ℕ × ℤ)) (v m : ℕ) → p.0 < v → duals_from (p ∷ ps) v m ≡ duals_from ps v m
passed_over p ps v zero l = refl
passed_over p ps v (suc m) l =
    let e = cond-false (p.0 == v) p.1 (dual_of ps v) (ne_eqb p.0 v (omega arith)) in
    let ih = passed_over p ps (v + 1) m (omega arith) in cc

abs_zero : (y : ℤ) → nat_abs y ≡ 0 → y ≡ pos 0
abs_zero (pos n) e = ap pos e
abs_zero (negsuc n) e = absurd (omega arith)

duals_again : (v : ℕ) (ys : List ℤ) → duals_from (written_cities v ys) v (length ys) ≡ ys
duals_again v [] = refl
duals_again v (y ∷ ys) = cond_both (nat_abs y == 0) (written_cities (v + 1) ys) ((v, y) ∷ written_cities (v + 1) ys) (λ ps. duals_from ps v (suc (length ys)) ≡ y ∷ ys)
    (λ e. let z = none_behind v (v + 1) ys (omega arith) ∙ sym (abs_zero y (eqb-true (nat_abs y) 0 e)) in let ih = duals_again (v + 1) ys in cc)
    (λ e. let z = cond-true (v == v) y (dual_of (written_cities (v + 1) ys) v) (eq-eqb v v refl) in
    let t = passed_over (v, y) (written_cities (v + 1) ys) (v + 1) (length ys) (omega arith) in let ih = duals_again (v + 1) ys in cc)

-- ---- a leaf

-- the closing that is written for c and read again
abbrev pub again_in : ℕ → List Cut → Closing → Closing
again_in n cs c = closing_of n cs (written_leaf cs c)

pub city_again : (n : ℕ) (cs : List Cut) (c : Closing) → length c.city ≡ n → (again_in n cs c).city ≡ c.city
city_again n cs c e = ap (duals_from (written_cities 1 c.city) 1) (sym e) ∙ duals_again 1 c.city

-- a bound by its parts
bound_by : Instance → List Condition → List ℤ → ℤ → (ℕ → ℕ → ℤ) → List (ℕ × ℕ) → ℤ
bound_by i path city w p conds =
    let c : Closing = record { city = city; cuts = []; conds = conds } in
    sum_below (city_dual c) i.n +ℤ sum_below (city_dual c) i.n +ℤ w +ℤ worth (condition_rows path conds)
    +ℤ sum_pairs (pair_term path (λ u v. pos (scale * dist i u v) -ℤ city_dual c u -ℤ city_dual c v -ℤ p u v -ℤ price (condition_rows path conds) u v)) i.n

is_bound_by : (i : Instance) (path : List Condition) (c : Closing) → bound i path c ≡ bound_by i path c.city (worth (cut_rows c.cuts)) (price (cut_rows c.cuts)) c.conds
unfolding bound_by
is_bound_by i path c = refl

pub bound_again : (i : Instance) (path : List Condition) (cs : List Cut) (c : Closing) → length c.city ≡ i.n → AreListed cs c.cuts → bound i path (again_in i.n cs c) ≡ bound i path c
bound_again i path cs c e h =
    let city = city_again i.n cs c e in
    let w = worth_same cs c.cuts h in
    let p : price (cut_rows (map (named cs) (written_cuts cs c.cuts))) ≡ price (cut_rows c.cuts) = λ j u v. price_same u v cs c.cuts h j in
    is_bound_by i path (again_in i.n cs c)
    ∙ ap (λ x. bound_by i path x (worth (cut_rows (map (named cs) (written_cuts cs c.cuts)))) (price (cut_rows (map (named cs) (written_cuts cs c.cuts)))) c.conds) city
    ∙ ap (λ x. bound_by i path c.city x (price (cut_rows (map (named cs) (written_cuts cs c.cuts)))) c.conds) w
    ∙ ap (λ x. bound_by i path c.city (worth (cut_rows c.cuts)) x c.conds) p
    ∙ sym (is_bound_by i path c)

closing_again : (n : ℕ) (path : List Condition) (cs : List Cut) (c : Closing) → AreListed cs c.cuts → IsClosing n path c → IsClosing n path (again_in n cs c)
closing_again n path cs c h k =
    let city = city_again n cs c k.counts.city in
    let few = k.counts.cuts in
    let l = length-written_cuts cs c.cuts in
    let m = length-map (written_cuts cs c.cuts) (named cs) in
    record {
      counts = record { city = ap length city ∙ k.counts.city; cuts = omega arith; conds = k.counts.conds };
      sizes = record {
        city = subst (λ (ys : List ℤ). AllByRecursion (λ y. nat_abs y ≤ 2 ^ 62) ys) (sym city) k.sizes.city;
        cuts = all_same (λ q. IsDualSize q.1) cs c.cuts h k.sizes.cuts;
        conds = k.sizes.conds;
      };
      cuts = all_same (λ q. IsCut n q.0) cs c.cuts h k.cuts;
      cliques = k.cliques;
    }

-- ---- a tree

-- the tree with each closing written and read again
abbrev pub tree_again_in : ℕ → List Cut → Tree → Tree
tree_again_in n cs trees.open_leaf = trees.open_leaf
tree_again_in n cs (trees.closed_leaf c) = trees.closed_leaf (again_in n cs c)
tree_again_in n cs (trees.edge_split u v a b) = trees.edge_split u v (tree_again_in n cs a) (tree_again_in n cs b)
tree_again_in n cs (trees.clique_split s a b) = trees.clique_split s (tree_again_in n cs a) (tree_again_in n cs b)

pub tree_again : (n : ℕ) (cs : List Cut) (t : Tree) → tree_of n cs (written_tree cs t) ≡ tree_again_in n cs t
tree_again n cs trees.open_leaf = refl
tree_again n cs (trees.closed_leaf c) = refl
tree_again n cs (trees.edge_split u v a b) = let x = less_one u in let y = less_one v in let p = tree_again n cs a in let q = tree_again n cs b in cc
tree_again n cs (trees.clique_split s a b) = let x = cities_again s in let p = tree_again n cs a in let q = tree_again n cs b in cc

pub sound_again : (i : Instance) (number : ℤ) (path : List Condition) (cs : List Cut) (t : Tree) → HasAllOf cs t → IsSound i number path t → IsSound i number path (tree_again_in i.n cs t)
sound_again i number path cs trees.open_leaf h s = tt
sound_again i number path cs (trees.closed_leaf c) h s =
    (closing_again i.n path cs c h s.0, subst (λ (b : ℤ). number <ℤ b) (sym (bound_again i path cs c s.0.counts.city h)) s.1)
sound_again i number path cs (trees.edge_split u v a b) h s =
    (s.0, (sound_again i number (path ++ absent u v ∷ []) cs a h.0 s.1.0, sound_again i number (path ++ present u v ∷ []) cs b h.1 s.1.1))
sound_again i number path cs (trees.clique_split q a b) h s =
    (s.0, (sound_again i number (path ++ two q ∷ []) cs a h.0 s.1.0, sound_again i number (path ++ four q ∷ []) cs b h.1 s.1.1))

pub alike_again : (i : Instance) (number : ℤ) (path : List Condition) (cs : List Cut) (t : Tree) → HasAllOf cs t → IsSound i number path t → AreAlike t (tree_again_in i.n cs t)
alike_again i number path cs trees.open_leaf h s = tt
alike_again i number path cs (trees.closed_leaf c) h s = (city_again i.n cs c s.0.counts.city, (λ d. duals_same d cs c.cuts h), refl)
alike_again i number path cs (trees.edge_split u v a b) h s =
    ((refl, refl), (alike_again i number (path ++ absent u v ∷ []) cs a h.0 s.1.0, alike_again i number (path ++ present u v ∷ []) cs b h.1 s.1.1))
alike_again i number path cs (trees.clique_split q a b) h s =
    (refl, (alike_again i number (path ++ two q ∷ []) cs a h.0 s.1.0, alike_again i number (path ++ four q ∷ []) cs b h.1 s.1.1))

pub open_again : (n : ℕ) (cs : List Cut) (t : Tree) → open_leaves (tree_again_in n cs t) ≡ open_leaves t
open_again n cs trees.open_leaf = refl
open_again n cs (trees.closed_leaf c) = refl
open_again n cs (trees.edge_split u v a b) = let x = open_again n cs a in let y = open_again n cs b in omega arith
open_again n cs (trees.clique_split q a b) = let x = open_again n cs a in let y = open_again n cs b in omega arith

pub settled_again : (n : ℕ) (cs : List Cut) (t : Tree) → settled (tree_again_in n cs t) ≡ settled t
settled_again n cs trees.open_leaf = refl
settled_again n cs (trees.closed_leaf c) = refl
settled_again n cs (trees.edge_split u v a b) = let x = settled_again n cs a in let y = settled_again n cs b in omega arith
settled_again n cs (trees.clique_split q a b) = let x = settled_again n cs a in let y = settled_again n cs b in omega arith
