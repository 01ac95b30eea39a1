-- What a proof text says, as a value of its own, and the text of the value.
use Rattle.std.specs.Prelude.{ℕ, List, [], ◌∷◌, ◌++◌, length, map, Option, Some, None, ℤ}
use Rattle.std.specs.List.{flat_map}
use Rattle.certdef.specs.Items.{Item, title_line, size_line, length_line, bound_line, tour_line, cuts_line, subtour_line, comb_line, handle_line, tooth_line, odd_line, pair_line, edge_line, clique_line, leaf_line, city_line, cut_line, condition_line, open_line, line}

-- a cut as it is listed, by its sets of cities from 1: one set, or a handle and teeth, or a handle and pairs
pub data Listed : Type 0 where
  subtour_cut : (set : List ℕ) → Listed
  comb_cut : (handle : List ℕ) → (teeth : List (List ℕ)) → Listed
  odd_cut : (handle : List ℕ) → (pairs : List (ℕ × ℕ)) → Listed

-- the duals of a closed leaf: of cities by number, of cuts by their number in the list, of conditions by depth; all from 1
pub record Duals : Type 0 where
  pub cities : List (ℕ × ℤ)
  pub cuts : List (ℕ × ℕ)
  pub conds : List (ℕ × ℕ)

-- a proof tree as it is written, its cities from 1
pub data Written : Type 0 where
  open_leaf : Written
  closed_leaf : (duals : Duals) → Written
  edge_split : (u v : ℕ) → (without with : Written) → Written
  clique_split : (set : List ℕ) → (twice more : Written) → Written

-- a value of the grammar: the number of cities, a length, a bound or none, a tour of cities from 1, the list of cuts and the tree
pub record Proof : Type 0 where
  pub cities : ℕ
  pub long : ℕ
  pub bound : Option ℕ
  pub tour : List ℕ
  pub cuts : List Listed
  pub tree : Written

abbrev pub pair_item : (ℕ × ℕ) → Item
pair_item p = pair_line p.0 p.1

abbrev pub listed_items : Listed → List Item
listed_items (subtour_cut s) = subtour_line s ∷ []
listed_items (comb_cut h ts) = comb_line (length ts) ∷ handle_line h ∷ map tooth_line ts
listed_items (odd_cut h ps) = odd_line (length ps) ∷ handle_line h ∷ map pair_item ps

abbrev pub city_item : (ℕ × ℤ) → Item
city_item p = city_line p.0 p.1

abbrev pub cut_item : (ℕ × ℕ) → Item
cut_item p = cut_line p.0 p.1

abbrev pub condition_item : (ℕ × ℕ) → Item
condition_item p = condition_line p.0 p.1

abbrev pub dual_items : Duals → List Item
dual_items d = map city_item d.cities ++ (map cut_item d.cuts ++ map condition_item d.conds)

-- a tree in preorder
abbrev pub tree_items : Written → List Item
tree_items open_leaf = open_line ∷ []
tree_items (closed_leaf d) = leaf_line (length d.cities) (length d.cuts) (length d.conds) ∷ dual_items d
tree_items (edge_split u v a b) = edge_line u v ∷ tree_items a ++ tree_items b
tree_items (clique_split s a b) = clique_line s ∷ tree_items a ++ tree_items b

-- the lines before the tour: a text of the second version tells a bound, one of the first does not
abbrev pub head_items : ℕ → ℕ → Option ℕ → List Item
head_items n l None = title_line 1 ∷ size_line n ∷ length_line l ∷ []
head_items n l (Some b) = title_line 2 ∷ size_line n ∷ length_line l ∷ bound_line b ∷ []

abbrev pub items : Proof → List Item
items p = head_items p.cities p.long p.bound ++ tour_line p.tour ∷ cuts_line (length p.cuts) ∷ flat_map listed_items p.cuts ++ tree_items p.tree

-- the lines of a proof, without the LF at the end of each
abbrev pub lines : Proof → List (List ℕ)
lines p = map line (items p)

-- each line ends with one LF
abbrev pub ended : List ℕ → List ℕ
ended l = l ++ 10 ∷ []

abbrev pub text_of : List (List ℕ) → List ℕ
text_of ls = flat_map ended ls

-- the text of a proof
abbrev pub text : Proof → List ℕ
text p = text_of (lines p)
