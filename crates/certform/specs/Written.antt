-- The proof that is written for a tour and a tree: each cut that a leaf names is listed once, in order of first use.
use Rattle.std.specs.Prelude.{◌≡◌, ℕ, ◌+◌, cond, nat_lt, nat_le, Bool, List, [], ◌∷◌, ◌++◌, map, Option, Some, None, ℤ, nat_abs, ◌==◌}
use Rattle.std.specs.List.{list_any}
use Rattle.std.specs.Ordering.{eq_by_cmp}
use Rattle.tspdef.specs.Tours.{IsCanonicalForm}
use Rattle.tspdef.specs.Instances.{Instance, length_in}
use Rattle.tspdef.specs.Cuts.{Cut, subtour, comb, odd, cut_cmp}
use Rattle.tspdef.specs.Closings.{Closing}
use Rattle.tspdef.specs.Trees as trees
use Rattle.tspdef.specs.Trees.{Tree}
use Rattle.certdef.specs.Proofs.{Listed, subtour_cut, comb_cut, odd_cut, Duals, Written, open_leaf, closed_leaf, edge_split, clique_split, Proof, text}

-- cities from 1, of cities from 0
abbrev pub from_one : List ℕ → List ℕ
from_one s = map (λ c. c + 1) s

abbrev pub pair_from_one : (ℕ × ℕ) → (ℕ × ℕ)
pair_from_one p = (p.0 + 1, p.1 + 1)

-- how a cut is listed
abbrev pub listed : Cut → Listed
listed (subtour n s) = subtour_cut (from_one s)
listed (comb n h ts) = comb_cut (from_one h) (map from_one ts)
listed (odd n h ps) = odd_cut (from_one h) (map pair_from_one ps)

abbrev pub is_same_cut : Cut → Cut → Bool
is_same_cut a b = eq_by_cmp cut_cmp a b

-- a list of cuts with one more, where it is not there yet
abbrev pub with_cut : List Cut → Cut → List Cut
with_cut cuts c = cond (list_any (is_same_cut c) cuts) cuts (cuts ++ c ∷ [])

abbrev pub with_cuts : List Cut → List (Cut × ℕ) → List Cut
with_cuts cuts [] = cuts
with_cuts cuts (q ∷ qs) = with_cuts (with_cut cuts q.0) qs

-- a list of cuts with those of a tree's closed leaves, in preorder
abbrev pub with_cuts_of : List Cut → Tree → List Cut
with_cuts_of cuts trees.open_leaf = cuts
with_cuts_of cuts (trees.closed_leaf c) = with_cuts cuts c.cuts
with_cuts_of cuts (trees.edge_split u v a b) = with_cuts_of (with_cuts_of cuts a) b
with_cuts_of cuts (trees.clique_split s a b) = with_cuts_of (with_cuts_of cuts a) b

-- each distinct cut of a tree, in order of first use
abbrev pub used_cuts : Tree → List Cut
used_cuts t = with_cuts_of [] t

-- the number of a cut in a list, from 1
abbrev pub number_of : List Cut → Cut → ℕ
number_of [] c = 1
number_of (x ∷ xs) c = cond (is_same_cut c x) 1 (number_of xs c + 1)

-- the duals that are not 0, with their cities, the first of which is v
abbrev pub written_cities : ℕ → List ℤ → List (ℕ × ℤ)
written_cities v [] = []
written_cities v (y ∷ ys) = cond (nat_abs y == 0) (written_cities (v + 1) ys) ((v, y) ∷ written_cities (v + 1) ys)

-- a numbered dual put into its place among rising ones
abbrev pub put_in : (ℕ × ℕ) → List (ℕ × ℕ) → List (ℕ × ℕ)
put_in q [] = q ∷ []
put_in q (r ∷ rs) = cond (nat_le q.0 r.0) (q ∷ r ∷ rs) (r ∷ put_in q rs)

-- the duals of a closing's cuts by the cuts' numbers, rising
abbrev pub written_cuts : List Cut → List (Cut × ℕ) → List (ℕ × ℕ)
written_cuts cuts [] = []
written_cuts cuts (q ∷ qs) = put_in (number_of cuts q.0, q.1) (written_cuts cuts qs)

abbrev pub written_leaf : List Cut → Closing → Duals
written_leaf cuts c = record { cities = written_cities 1 c.city; cuts = written_cuts cuts c.cuts; conds = c.conds }

abbrev pub written_tree : List Cut → Tree → Written
written_tree cuts trees.open_leaf = open_leaf
written_tree cuts (trees.closed_leaf c) = closed_leaf (written_leaf cuts c)
written_tree cuts (trees.edge_split u v a b) = edge_split (u + 1) (v + 1) (written_tree cuts a) (written_tree cuts b)
written_tree cuts (trees.clique_split s a b) = clique_split (from_one s) (written_tree cuts a) (written_tree cuts b)

-- a bound is told where it is below the length
abbrev pub told : ℕ → ℕ → Option ℕ
told l b = cond (nat_lt b l) (Some b) None

-- the proof of n cities that is written for a tour, a length, a bound and a tree
abbrev pub written : ℕ → List ℕ → ℕ → ℕ → Tree → Proof
written n tour l b t = record {
  cities = n;
  long = l;
  bound = told l b;
  tour = from_one tour;
  cuts = map listed (used_cuts t);
  tree = written_tree (used_cuts t) t;
}

-- the bytes are the text of a tour's canonical form, its length in the instance, a bound and a tree
abbrev pub IsBody : Instance → List ℕ → ℕ → Tree → List ℕ → Type 0
IsBody i tour b t bytes = (form : List ℕ) × IsCanonicalForm tour form × (bytes ≡ text (written i.n form (length_in i form) b t))
