-- a line of the tree, forth and back
use Rattle.std.proofs.Common.{◌≡◌, ℕ, ◌-◌, List, [], ◌∷◌, ◌++◌, length, refl, sym, ap, ◌∙◌, subst, append_assoc}
use Rattle.tspdef.specs.Paths.{Condition, absent, present, two, four}
use Rattle.certdef.specs.Items.{Item, title_line, size_line, length_line, bound_line, tour_line, cuts_line, subtour_line, comb_line, handle_line, tooth_line, odd_line, pair_line, edge_line, clique_line, leaf_line, city_line, cut_line, condition_line, open_line}
use Rattle.certdef.specs.Proofs.{Written, open_leaf, closed_leaf, edge_split, clique_split, dual_items, tree_items}
use Rattle.certdef.specs.Accepted.{from_zero}
use Rattle.certdef.specs.Tests.{Tests}
use Rattle.certdef.specs.Verdicts.{Head, OpenDuals, wants_trees, go, refused, on_tree}
use Rattle.verdict.proofs.Left.{says, Good, Trees, LeftOf}
use Rattle.verdict.proofs.CutSteps.{passed, avoided, passes, avoids}
use Rattle.verdict.proofs.DualSteps.{duals_forth, duals_back}

pub on_tree_forth : (j : Tests) (l : ℕ × ℕ) (h : Head) (path : List Condition) (ps : List (List Condition)) (at : ℕ) (x : Item) (xs : List Item) → says h ≡ l → (t : Written) (rest : List Item) → x ∷ xs ≡ tree_items t ++ rest → Good j h path t → Trees j h ps rest → LeftOf j l (on_tree j h path ps at x) xs
on_tree_forth j l h path ps at x xs e open_leaf rest said good trees =
    let head : open_line ≡ x = cc in
    let tail : rest ≡ xs = cc in
    subst (λ y. LeftOf j l (on_tree j h path ps at y) xs) head (passes j l j.opens (go (wants_trees h ps)) (refused 8 at) xs good (e, subst (λ r. Trees j h ps r) tail trees))
on_tree_forth j l h path ps at x xs e (closed_leaf d) rest said good trees =
    let head : leaf_line (length d.cities) (length d.cuts) (length d.conds) ≡ x = cc in
    let o : OpenDuals = record { at = at; path = path; duals = record { cities = []; cuts = []; conds = [] } } in
    let w = good.0 in
    subst (λ y. LeftOf j l (on_tree j h path ps at y) xs) head (duals_forth j l h ps o (length d.cities) (length d.cuts) (length d.conds) xs e (record {
      more = d;
      rest = rest;
      said = cc;
      cities = refl;
      cuts = refl;
      conds = refl;
      order = record { cities = w.cities; cuts = w.cuts; conds = w.conds; named = w.named };
      closed = good.1;
      trees = trees;
    }))
on_tree_forth j l h path ps at x xs e (edge_split u v t s) rest said good trees =
    let head : edge_line u v ≡ x = cc in
    let tail : xs ≡ (tree_items t ++ tree_items s) ++ rest = cc in
    subst (λ y. LeftOf j l (on_tree j h path ps at y) xs) head
    (avoids j l (j.decided path (u - 1) (v - 1)) (refused 6 at) (go (wants_trees h ((path ++ absent (u - 1) (v - 1) ∷ []) ∷ (path ++ present (u - 1) (v - 1) ∷ []) ∷ ps))) xs good.0
    (e, (t, tree_items s ++ rest, tail ∙ append_assoc (tree_items t) (tree_items s) rest, good.1.0, (s, rest, refl, good.1.1, trees))))
on_tree_forth j l h path ps at x xs e (clique_split q t s) rest said good trees =
    let head : clique_line q ≡ x = cc in
    let tail : xs ≡ (tree_items t ++ tree_items s) ++ rest = cc in
    subst (λ y. LeftOf j l (on_tree j h path ps at y) xs) head
    (passes j l (j.proper q) (go (wants_trees h ((path ++ two (from_zero q) ∷ []) ∷ (path ++ four (from_zero q) ∷ []) ∷ ps))) (refused 5 at) xs good.0
    (e, (t, tree_items s ++ rest, tail ∙ append_assoc (tree_items t) (tree_items s) rest, good.1.0, (s, rest, refl, good.1.1, trees))))

pub on_tree_back : (j : Tests) (l : ℕ × ℕ) (h : Head) (path : List Condition) (ps : List (List Condition)) (at : ℕ) (x : Item) (xs : List Item) → LeftOf j l (on_tree j h path ps at x) xs → (says h ≡ l) × Trees j h (path ∷ ps) (x ∷ xs)
on_tree_back j l h path ps at (edge_line u v) xs k =
    let p = avoided j l (j.decided path (u - 1) (v - 1)) (wants_trees h ((path ++ absent (u - 1) (v - 1) ∷ []) ∷ (path ++ present (u - 1) (v - 1) ∷ []) ∷ ps)) 6 at xs k in
    let a = p.1.1 in
    let b = a.4 in
    (p.1.0, (edge_split u v a.0 b.0, b.1, ap (λ r. edge_line u v ∷ r) (a.2 ∙ ap (λ r. tree_items a.0 ++ r) b.2 ∙ sym (append_assoc (tree_items a.0) (tree_items b.0) b.1)), (p.0, (a.3, b.3)), b.4))
on_tree_back j l h path ps at (clique_line q) xs k =
    let p = passed j l (j.proper q) (wants_trees h ((path ++ two (from_zero q) ∷ []) ∷ (path ++ four (from_zero q) ∷ []) ∷ ps)) 5 at xs k in
    let a = p.1.1 in
    let b = a.4 in
    (p.1.0, (clique_split q a.0 b.0, b.1, ap (λ r. clique_line q ∷ r) (a.2 ∙ ap (λ r. tree_items a.0 ++ r) b.2 ∙ sym (append_assoc (tree_items a.0) (tree_items b.0) b.1)), (p.0, (a.3, b.3)), b.4))
on_tree_back j l h path ps at (leaf_line x y z) xs k =
    let o : OpenDuals = record { at = at; path = path; duals = record { cities = []; cuts = []; conds = [] } } in
    let q = duals_back j l h ps o x y z xs k in
    let d = q.1 in
    let g = d.order in
    let counts : leaf_line x y z ≡ leaf_line (length d.more.cities) (length d.more.cuts) (length d.more.conds) = let a = d.cities in let b = d.cuts in let c = d.conds in cc in (
      q.0,
      (
        closed_leaf d.more,
        d.rest,
        ap (λ r. leaf_line x y z ∷ r) d.said ∙ ap (λ r. r ∷ dual_items d.more ++ d.rest) counts,
        (record { cities = g.cities; cuts = g.cuts; conds = g.conds; named = g.named }, d.closed),
        d.trees,
      ),
    )
on_tree_back j l h path ps at (title_line z) xs k = absurd k
on_tree_back j l h path ps at (size_line z) xs k = absurd k
on_tree_back j l h path ps at (length_line z) xs k = absurd k
on_tree_back j l h path ps at (bound_line z) xs k = absurd k
on_tree_back j l h path ps at (tour_line cs) xs k = absurd k
on_tree_back j l h path ps at (cuts_line z) xs k = absurd k
on_tree_back j l h path ps at (subtour_line q) xs k = absurd k
on_tree_back j l h path ps at (comb_line z) xs k = absurd k
on_tree_back j l h path ps at (handle_line q) xs k = absurd k
on_tree_back j l h path ps at (tooth_line q) xs k = absurd k
on_tree_back j l h path ps at (odd_line z) xs k = absurd k
on_tree_back j l h path ps at (pair_line u v) xs k = absurd k
on_tree_back j l h path ps at (city_line v w) xs k = absurd k
on_tree_back j l h path ps at (cut_line y z) xs k = absurd k
on_tree_back j l h path ps at (condition_line y z) xs k = absurd k
on_tree_back j l h path ps at open_line xs k =
    let p = passed j l j.opens (wants_trees h ps) 8 at xs k in
    (p.1.0, (open_leaf, xs, refl, p.0, p.1.1))
