-- what the lines of a value say, from the first one on
use Rattle.std.proofs.Common.{◌≡◌, ℕ, zero, suc, ◌+◌, ◌-◌, ◌^◌, ◌<◌, ◌≤◌, Bool, true, false, cond, ◌&&◌, List, [], ◌∷◌, ◌++◌, length, length-append, map, Option, Some, None, ℤ, refl, sym, ap, ◌∙◌, subst, arith, append_assoc}
use Rattle.std.specs.Prelude.{nat_le, nat_lt, ◌==◌}
use Rattle.std.specs.List.{flat_map, AllByRecursion}
use Rattle.std.proofs.lemmas.Bool.{and_parts, and_from, eq-eqb}
use Rattle.tspdef.specs.Paths.{Condition, absent, present, two, four}
use Rattle.certdef.specs.Items.{Item, title_line, size_line, length_line, bound_line, tour_line, cuts_line, subtour_line, comb_line, handle_line, tooth_line, odd_line, pair_line, edge_line, clique_line, leaf_line, city_line, cut_line, condition_line, open_line, pairs_rise}
use Rattle.certdef.specs.Proofs.{Listed, subtour_cut, comb_cut, odd_cut, Duals, Written, open_leaf, closed_leaf, edge_split, clique_split, Proof, listed_items, pair_item, city_item, cut_item, condition_item, dual_items, tree_items, head_items, items}
use Rattle.certdef.specs.Accepted.{from_zero, cuts_of, closing_of, tree_of, tree_in, firsts, rises_in_cut}
use Rattle.certdef.specs.Tests.{Tests}
use Rattle.certdef.specs.Verdicts.{Head, OpenDuals, Stage, wants_title, wants_size, wants_length, wants_bound, wants_tour, wants_count, wants_cut, wants_handle, wants_tooth, wants_odd_handle, wants_pair, wants_trees, wants_duals, Outcome, go, refused, after, may_follow, with_cut, cuts_on, cut_end, teeth_on, pairs_on, duals_on, with_city, with_cut_dual, with_condition, fresh_duals, on_dual, step}
use Rattle.verdict.specs.Bodies.{merged_closing, merged}
use Rattle.verdict.specs.Parts as parts
use Rattle.verdict.specs.Parts.{Part, preorder, parts_of, leaf_says}
use Rattle.verdict.proofs.Left.{all_named, GoesOn, Good, joined, with_cuts, pairs_follow}
use Rattle.verdict.proofs.CutSteps.{append_nil, follow_first}
use Rattle.verdict.proofs.DualSteps.{joined_nil, rises_next}
use Rattle.verdict.proofs.Runs.{IsToldBound, IsGood, body, items_said}

-- what lines say, where a stage wants them, up to a refusal
abbrev pub lines_say : Tests → ℕ → Outcome → List Item → List Part
lines_say j at (refused k from) xs = []
lines_say j at (go s) [] = []
lines_say j at (go s) (x ∷ xs) = parts.says j.n s x ++ lines_say j (at + 1) (step j at s x) xs

-- The lines from `at` on say what `said` is and then what lines say from the outcome q on, whatever their numbers.
abbrev Says : Tests → ℕ → Outcome → List Item → List Part → Outcome → List Item → Type 0
Says j at o xs said q rest = (k : ℕ) × (lines_say j at o xs ≡ said ++ lines_say j k q rest)

-- the same from another outcome that is equal
from_same : (j : Tests) (at : ℕ) (o q : Outcome) (xs : List Item) (said : List Part) (r : Outcome) (rest : List Item) → o ≡ q → Says j at q xs said r rest → Says j at o xs said r rest
from_same j at o q xs said r rest e k = (k.0, ap (λ x. lines_say j at x xs) e ∙ k.1)

passed : (b : Bool) (o q : Outcome) → b ≡ true → cond b o q ≡ o
passed b o q e = ap (λ x. cond x o q) e

avoided : (b : Bool) (o q : Outcome) → b ≡ false → cond b o q ≡ q
avoided b o q e = ap (λ x. cond x o q) e

-- ---- cuts

cut_said : (j : Tests) (at from : ℕ) (h : Head) (m : ℕ) (c : Listed) (rest : List Item) → j.cut c ≡ true → Says j at (cut_end j from h m c) rest [] (go (cuts_on j (with_cut h c) m)) rest
cut_said j at from h m c rest e = (at, ap (λ x. lines_say j at x rest) (passed (j.cut c) (go (cuts_on j (with_cut h c) m)) (refused 5 from) e))

teeth_said : (j : Tests) (at from : ℕ) (h : Head) (m : ℕ) (s : List ℕ) (so_far ts : List (List ℕ)) (rest : List Item) → j.cut (comb_cut s (so_far ++ ts)) ≡ true
    → Says j at (teeth_on j from h m (length ts) s so_far) (map tooth_line ts ++ rest) [] (go (cuts_on j (with_cut h (comb_cut s (so_far ++ ts))) m)) rest
teeth_said j at from h m s so_far [] rest e =
    let same = append_nil so_far in
    subst (λ r. Says j at (cut_end j from h m (comb_cut s so_far)) rest [] (go (cuts_on j (with_cut h (comb_cut s r)) m)) rest) (sym same)
    (cut_said j at from h m (comb_cut s so_far) rest (subst (λ r. j.cut (comb_cut s r) ≡ true) same e))
teeth_said j at from h m s so_far (t ∷ ts) rest e =
    let all : (so_far ++ t ∷ []) ++ ts ≡ so_far ++ t ∷ ts = append_assoc so_far (t ∷ []) ts in
    subst (λ r. Says j (at + 1) (teeth_on j from h m (length ts) s (so_far ++ t ∷ [])) (map tooth_line ts ++ rest) [] (go (cuts_on j (with_cut h (comb_cut s r)) m)) rest) all
    (teeth_said j (at + 1) from h m s (so_far ++ t ∷ []) ts rest (subst (λ r. j.cut (comb_cut s r) ≡ true) (sym all) e))

pairs_said : (j : Tests) (at from : ℕ) (h : Head) (m : ℕ) (s : List ℕ) (so_far ps : List (ℕ × ℕ)) (rest : List Item) → pairs_follow so_far ps ≡ true → j.cut (odd_cut s (so_far ++ ps)) ≡ true
    → Says j at (pairs_on j from h m (length ps) s so_far) (map pair_item ps ++ rest) [] (go (cuts_on j (with_cut h (odd_cut s (so_far ++ ps))) m)) rest
pairs_said j at from h m s so_far [] rest f e =
    let same = append_nil so_far in
    subst (λ r. Says j at (cut_end j from h m (odd_cut s so_far)) rest [] (go (cuts_on j (with_cut h (odd_cut s r)) m)) rest) (sym same)
    (cut_said j at from h m (odd_cut s so_far) rest (subst (λ r. j.cut (odd_cut s r) ≡ true) same e))
pairs_said j at from h m s so_far (p ∷ ps) rest f e =
    let all : (so_far ++ p ∷ []) ++ ps ≡ so_far ++ p ∷ ps = append_assoc so_far (p ∷ []) ps in
    let r = and_parts (may_follow so_far p) (pairs_follow (so_far ++ p ∷ []) ps) f in
    let q = subst (λ r. Says j (at + 1) (pairs_on j from h m (length ps) s (so_far ++ p ∷ [])) (map pair_item ps ++ rest) [] (go (cuts_on j (with_cut h (odd_cut s r)) m)) rest) all
    (pairs_said j (at + 1) from h m s (so_far ++ p ∷ []) ps rest r.1 (subst (λ r. j.cut (odd_cut s r) ≡ true) (sym all) e)) in
    from_same j (at + 1) (cond (may_follow so_far p) (pairs_on j from h m (length ps) s (so_far ++ p ∷ [])) (refused 1 at)) (pairs_on j from h m (length ps) s (so_far ++ p ∷ [])) (map pair_item ps ++ rest) [] (go (cuts_on j (with_cut h (odd_cut s (so_far ++ p ∷ ps))) m)) rest
    (passed (may_follow so_far p) (pairs_on j from h m (length ps) s (so_far ++ p ∷ [])) (refused 1 at) r.0) q

listed_said : (j : Tests) (at : ℕ) (h : Head) (m : ℕ) (c : Listed) (rest : List Item) → rises_in_cut c ≡ true → j.cut c ≡ true → Says j at (go (wants_cut h m)) (listed_items c ++ rest) [] (go (cuts_on j (with_cut h c) m)) rest
listed_said j at h m (subtour_cut s) rest r e = cut_said j (at + 1) at h m (subtour_cut s) rest e
listed_said j at h m (comb_cut s ts) rest r e = teeth_said j (at + 1 + 1) at h m s [] ts rest e
listed_said j at h m (odd_cut s ps) rest r e = pairs_said j (at + 1 + 1) at h m s [] ps rest (follow_first ps ∙ r) e

cuts_said : (j : Tests) (at : ℕ) (h : Head) (cs : List Listed) (rest : List Item) → AllByRecursion (λ c. rises_in_cut c ≡ true) cs → AllByRecursion (λ c. j.cut c ≡ true) cs
    → Says j at (go (cuts_on j h (length cs))) (flat_map listed_items cs ++ rest) [] (go (wants_trees (with_cuts h cs) (j.root ∷ []))) rest
cuts_said j at h [] rest r e = (at, ap (λ q. lines_say j at (go (wants_trees (record { long = h.long; bound = h.bound; cuts = q }) (j.root ∷ []))) rest) (sym (append_nil h.cuts)))
cuts_said j at h (c ∷ cs) rest r e =
    let a = listed_said j at h (length cs) c (flat_map listed_items cs ++ rest) r.0 e.0 in
    let b = cuts_said j a.0 (with_cut h c) cs rest r.1 e.1 in
    let same : with_cuts (with_cut h c) cs ≡ with_cuts h (c ∷ cs) = ap (λ q. record { long = h.long; bound = h.bound; cuts = q }) (append_assoc h.cuts (c ∷ []) cs) in
    (b.0, ap (λ xs. lines_say j at (go (wants_cut h (length cs))) xs) (append_assoc (listed_items c) (flat_map listed_items cs) rest) ∙ (a.1 ∙ (b.1 ∙ ap (λ q. lines_say j b.0 (go (wants_trees q (j.root ∷ []))) rest) same)))

-- ---- leaves

-- the duals that are left of a leaf, and what is said once they are read
duals_said : (j : Tests) (at : ℕ) (h : Head) (ps : List (List Condition)) (o : OpenDuals) (cs : List (ℕ × ℤ)) (ys zs : List (ℕ × ℕ)) (rest : List Item)
    → GoesOn j (length h.cuts) o.path o.duals (record { cities = cs; cuts = ys; conds = zs }) → j.closes h.bound h.cuts o.path (joined o.duals (record { cities = cs; cuts = ys; conds = zs })) ≡ true
    → (k : ℕ) × (leaf_says j.n h o.duals (length cs) (length ys) (length zs) ++ lines_say j at (duals_on j h ps o (length cs) (length ys) (length zs)) ((map city_item cs ++ (map cut_item ys ++ map condition_item zs)) ++ rest)
    ≡ parts.closed (merged_closing (closing_of j.n (cuts_of j.n h.cuts) (joined o.duals (record { cities = cs; cuts = ys; conds = zs })))) ∷ lines_say j k (go (wants_trees h ps)) rest)
duals_said j at h ps o [] [] [] rest g e =
    let none = joined_nil o.duals (record { cities = []; cuts = []; conds = [] }) refl refl refl in
    let e' : j.closes h.bound h.cuts o.path o.duals ≡ true = subst (λ d. j.closes h.bound h.cuts o.path d ≡ true) none e in (
      at,
      ap (λ x. leaf_says j.n h o.duals 0 0 0 ++ lines_say j at x rest) (passed (j.closes h.bound h.cuts o.path o.duals) (go (wants_trees h ps)) (refused 7 o.at) e')
          ∙ ap (λ d. parts.closed (merged_closing (closing_of j.n (cuts_of j.n h.cuts) d)) ∷ lines_say j at (go (wants_trees h ps)) rest) (sym none),
    )
duals_said j at h ps o (p ∷ cs) ys zs rest g e =
    let r = rises_next o.duals.cities p j.n (firsts cs) g.cities in
    let q = with_city o p.0 p.1 in
    let xs = (map city_item cs ++ (map cut_item ys ++ map condition_item zs)) ++ rest in
    let more : Duals = record { cities = cs; cuts = ys; conds = zs } in
    let all : joined q.duals more ≡ joined o.duals (record { cities = p ∷ cs; cuts = ys; conds = zs }) =
    ap (λ r. record { cities = r; cuts = o.duals.cuts ++ ys; conds = o.duals.conds ++ zs }) (append_assoc o.duals.cities (p ∷ []) cs) in
    let b = duals_said j (at + 1) h ps q cs ys zs rest (record { cities = r.2; cuts = g.cuts; conds = g.conds; named = g.named }) (ap (λ d. j.closes h.bound h.cuts o.path d) all ∙ e) in (
      b.0,
      ap (λ x. leaf_says j.n h q.duals (length cs) (length ys) (length zs) ++ lines_say j (at + 1) x xs) (passed (nat_le (after o.duals.cities) p.0) (duals_on j h ps q (length cs) (length ys) (length zs)) (refused 1 at) r.0)
          ∙ (b.1 ∙ ap (λ d. parts.closed (merged_closing (closing_of j.n (cuts_of j.n h.cuts) d)) ∷ lines_say j b.0 (go (wants_trees h ps)) rest) all),
    )
duals_said j at h ps o [] (p ∷ ys) zs rest g e =
    let r = rises_next o.duals.cuts p (length h.cuts) (firsts ys) g.cuts in
    let q = with_cut_dual o p.0 p.1 in
    let xs = (map cut_item ys ++ map condition_item zs) ++ rest in
    let more : Duals = record { cities = []; cuts = ys; conds = zs } in
    let all : joined q.duals more ≡ joined o.duals (record { cities = []; cuts = p ∷ ys; conds = zs }) =
    ap (λ r. record { cities = o.duals.cities ++ []; cuts = r; conds = o.duals.conds ++ zs }) (append_assoc o.duals.cuts (p ∷ []) ys) in
    let b = duals_said j (at + 1) h ps q [] ys zs rest (record { cities = g.cities; cuts = r.2; conds = g.conds; named = g.named }) (ap (λ d. j.closes h.bound h.cuts o.path d) all ∙ e) in (
      b.0,
      ap (λ x. leaf_says j.n h q.duals 0 (length ys) (length zs) ++ lines_say j (at + 1) x xs)
          (passed (nat_le (after o.duals.cuts) p.0 && nat_le p.0 (length h.cuts)) (duals_on j h ps q 0 (length ys) (length zs)) (refused 1 at) (and_from (nat_le (after o.duals.cuts) p.0) (nat_le p.0 (length h.cuts)) r.0 r.1))
          ∙ (b.1 ∙ ap (λ d. parts.closed (merged_closing (closing_of j.n (cuts_of j.n h.cuts) d)) ∷ lines_say j b.0 (go (wants_trees h ps)) rest) all),
    )
duals_said j at h ps o [] [] (p ∷ zs) rest g e =
    let r = rises_next o.duals.conds p (2 ^ 32) (firsts zs) g.conds in
    let w = and_parts (j.names o.path p.0) (all_named j o.path (firsts zs)) g.named in
    let q = with_condition o p.0 p.1 in
    let xs = map condition_item zs ++ rest in
    let more : Duals = record { cities = []; cuts = []; conds = zs } in
    let all : joined q.duals more ≡ joined o.duals (record { cities = []; cuts = []; conds = p ∷ zs }) =
    ap (λ r. record { cities = o.duals.cities ++ []; cuts = o.duals.cuts ++ []; conds = r }) (append_assoc o.duals.conds (p ∷ []) zs) in
    let b = duals_said j (at + 1) h ps q [] [] zs rest (record { cities = g.cities; cuts = g.cuts; conds = r.2; named = w.1 }) (ap (λ d. j.closes h.bound h.cuts o.path d) all ∙ e) in (
      b.0,
      ap (λ x. leaf_says j.n h q.duals 0 0 (length zs) ++ lines_say j (at + 1) x xs)
          (passed (nat_le (after o.duals.conds) p.0 && j.names o.path p.0) (duals_on j h ps q 0 0 (length zs)) (refused 1 at) (and_from (nat_le (after o.duals.conds) p.0) (j.names o.path p.0) r.0 w.0))
          ∙ (b.1 ∙ ap (λ d. parts.closed (merged_closing (closing_of j.n (cuts_of j.n h.cuts) d)) ∷ lines_say j b.0 (go (wants_trees h ps)) rest) all),
    )

-- ---- trees

-- the nodes of a written tree in preorder, with cuts listed
abbrev nodes_of : ℕ → Head → Written → List Part
nodes_of n h t = preorder (merged (tree_of n (cuts_of n h.cuts) t))

-- two trees after each other
both_said : (j : Tests) (h : Head) (at : ℕ) (o : Outcome) (p q : List Condition) (ps : List (List Condition)) (t s : Written) (rest : List Item)
    → ((rest : List Item) → Says j at (go (wants_trees h (p ∷ q ∷ ps))) (tree_items t ++ rest) (nodes_of j.n h t) (go (wants_trees h (q ∷ ps))) rest)
    → ((at : ℕ) → Says j at (go (wants_trees h (q ∷ ps))) (tree_items s ++ rest) (nodes_of j.n h s) (go (wants_trees h ps)) rest)
    → o ≡ go (wants_trees h (p ∷ q ∷ ps))
    → Says j at o ((tree_items t ++ tree_items s) ++ rest) (nodes_of j.n h t ++ nodes_of j.n h s) (go (wants_trees h ps)) rest
both_said j h at o p q ps t s rest one other e =
    let a = one (tree_items s ++ rest) in
    let b = other a.0 in (
      b.0,
      ap (λ x. lines_say j at x ((tree_items t ++ tree_items s) ++ rest)) e
          ∙ (ap (λ xs. lines_say j at (go (wants_trees h (p ∷ q ∷ ps))) xs) (append_assoc (tree_items t) (tree_items s) rest)
          ∙ (a.1 ∙ (ap (λ xs. nodes_of j.n h t ++ xs) b.1 ∙ sym (append_assoc (nodes_of j.n h t) (nodes_of j.n h s) (lines_say j b.0 (go (wants_trees h ps)) rest))))),
    )

tree_said : (j : Tests) (h : Head) (path : List Condition) (ps : List (List Condition)) (t : Written) (at : ℕ) (rest : List Item) → Good j h path t
    → Says j at (go (wants_trees h (path ∷ ps))) (tree_items t ++ rest) (nodes_of j.n h t) (go (wants_trees h ps)) rest
tree_said j h path ps open_leaf at rest g = (at + 1, ap (λ x. parts.opened ∷ lines_say j (at + 1) x rest) (passed j.opens (go (wants_trees h ps)) (refused 8 at) g))
tree_said j h path ps (closed_leaf d) at rest g = duals_said j (at + 1) h ps (fresh_duals at path) d.cities d.cuts d.conds rest g.0 g.1
tree_said j h path ps (edge_split u v t s) at rest g =
    let p = path ++ absent (u - 1) (v - 1) ∷ [] in
    let q = path ++ present (u - 1) (v - 1) ∷ [] in
    let k = both_said j h (at + 1) (cond (j.decided path (u - 1) (v - 1)) (refused 6 at) (go (wants_trees h (p ∷ q ∷ ps)))) p q ps t s rest
    (λ r. tree_said j h p (q ∷ ps) t (at + 1) r g.1.0) (λ n. tree_said j h q ps s n rest g.1.1) (avoided (j.decided path (u - 1) (v - 1)) (refused 6 at) (go (wants_trees h (p ∷ q ∷ ps))) g.0) in
    (k.0, ap (λ xs. parts.edge (u - 1) (v - 1) ∷ xs) k.1)
tree_said j h path ps (clique_split c t s) at rest g =
    let p = path ++ two (from_zero c) ∷ [] in
    let q = path ++ four (from_zero c) ∷ [] in
    let k = both_said j h (at + 1) (cond (j.proper c) (go (wants_trees h (p ∷ q ∷ ps))) (refused 5 at)) p q ps t s rest
    (λ r. tree_said j h p (q ∷ ps) t (at + 1) r g.1.0) (λ n. tree_said j h q ps s n rest g.1.1) (passed (j.proper c) (go (wants_trees h (p ∷ q ∷ ps))) (refused 5 at) g.0) in
    (k.0, ap (λ xs. parts.clique (from_zero c) ∷ xs) k.1)

-- ---- whole values

nothing_left : (j : Tests) (k : ℕ) (h : Head) → lines_say j k (go (wants_trees h [])) [] ≡ []
nothing_left j k h = refl

-- from the line of the tour on
tour_said : (j : Tests) (at : ℕ) (l : ℕ × ℕ) (p : Proof) → IsGood j l p → lines_say j at (go (wants_tour l.0 l.1)) (body p.tour p.cuts p.tree) ≡ parts_of j.n p
tour_said j at l p g =
    let h : Head = record { long = l.0; bound = l.1; cuts = [] } in
    let next = cond (j.has_length p.tour l.0) (go (wants_count l.0 l.1)) (refused 4 at) in
    let count = cuts_line (length p.cuts) ∷ flat_map listed_items p.cuts ++ tree_items p.tree in
    let a = cuts_said j (at + 1 + 1) h p.cuts (tree_items p.tree) g.pairs g.cuts in
    let b = tree_said j (record { long = l.0; bound = l.1; cuts = p.cuts }) j.root [] p.tree a.0 [] g.tree in
    let nodes = preorder (merged (tree_in j.n p)) in
    let tour = parts.the_tour (from_zero p.tour) in
    ap (λ x. tour ∷ lines_say j (at + 1) x count) (passed (j.tour p.tour) next (refused 3 at) g.is_tour)
    ∙ (ap (λ x. tour ∷ lines_say j (at + 1) x count) (passed (j.has_length p.tour l.0) (go (wants_count l.0 l.1)) (refused 4 at) g.long)
    ∙ (ap (λ xs. tour ∷ xs) (a.1 ∙ (ap (λ xs. lines_say j a.0 (go (wants_trees (record { long = l.0; bound = l.1; cuts = p.cuts }) (j.root ∷ []))) xs) (sym (append_nil (tree_items p.tree)))
    ∙ (b.1 ∙ append_nil nodes)))))

-- the lines before the tour say nothing
head_said : (j : Tests) (l : ℕ × ℕ) (n m : ℕ) (told : Option ℕ) (ys : List Item) → j.size n ≡ true → m ≡ l.0 → IsToldBound j told l
    → (k : ℕ) × (lines_say j 1 (go wants_title) (head_items n m told ++ ys) ≡ lines_say j k (go (wants_tour l.0 l.1)) ys)
head_said j l n m None ys s e b = (
  4,
  ap (λ x. lines_say j 3 x (length_line m ∷ ys)) (passed (j.size n) (go (wants_length 1)) (refused 2 2) s)
      ∙ (ap (λ x. lines_say j 4 (go (wants_tour x x)) ys) e ∙ ap (λ x. lines_say j 4 (go (wants_tour l.0 x)) ys) (sym b)),
)
head_said j l n m (Some told) ys s e b = (
  5,
  ap (λ x. lines_say j 3 x (length_line m ∷ bound_line told ∷ ys)) (passed (j.size n) (go (wants_length 2)) (refused 2 2) s)
      ∙ (ap (λ x. lines_say j 5 (cond (j.below told x) (go (wants_tour x told)) (refused 11 4)) ys) e
      ∙ (ap (λ x. lines_say j 5 (cond (j.below x l.0) (go (wants_tour l.0 x)) (refused 11 4)) ys) b.0
      ∙ ap (λ x. lines_say j 5 x ys) (passed (j.below l.1 l.0) (go (wants_tour l.0 l.1)) (refused 11 4) b.1))),
)

-- the lines of a value that passes the tests say its parts
pub good_said : (j : Tests) (l : ℕ × ℕ) (p : Proof) → IsGood j l p → lines_say j 1 (go wants_title) (items p) ≡ parts_of j.n p
good_said j l p g =
    let k = head_said j l p.cities p.long p.bound (body p.tour p.cuts p.tree) g.size g.same_length g.bound in
    ap (λ xs. lines_say j 1 (go wants_title) xs) (items_said p) ∙ (k.1 ∙ tour_said j k.0 l p g)
