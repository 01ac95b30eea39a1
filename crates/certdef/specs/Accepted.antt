-- Which values are of the grammar, and which of them are proofs for an instance.
use Rattle.std.specs.Prelude.{◌≡◌, ℕ, zero, suc, ◌+◌, ◌-◌, ◌^◌, ◌<◌, ◌≤◌, Bool, true, false, ◌&&◌, ◌==◌, cond, List, [], ◌∷◌, ◌++◌, length, map, slice_index_or, Option, Some, None, ℤ, pos}
use Rattle.std.specs.List.{AllByRecursion}
use Rattle.tspdef.specs.Instances.{Instance}
use Rattle.tspdef.specs.Cuts.{Cut, subtour, comb, odd, IsCut}
use Rattle.tspdef.specs.Paths.{Condition, fixed, absent, present, two, four, condition_at}
use Rattle.tspdef.specs.Closings.{Closing}
use Rattle.tspdef.specs.Trees as trees
use Rattle.tspdef.specs.Trees.{Tree, IsAccepted}
use Rattle.certdef.specs.Items.{rises, pairs_rise, fits}
use Rattle.certdef.specs.Proofs.{Listed, subtour_cut, comb_cut, odd_cut, Duals, Written, open_leaf, closed_leaf, edge_split, clique_split, Proof, items, text}

-- cities from 0, of cities from 1
abbrev pub from_zero : List ℕ → List ℕ
from_zero s = map (λ c. c - 1) s

-- a pair of cities from 0, of one of cities from 1
abbrev pub pair_from_zero : (ℕ × ℕ) → (ℕ × ℕ)
pair_from_zero p = (p.0 - 1, p.1 - 1)

-- the cut of n cities that is listed
abbrev pub cut_of : ℕ → Listed → Cut
cut_of n (subtour_cut s) = subtour n (from_zero s)
cut_of n (comb_cut h ts) = comb n (from_zero h) (map from_zero ts)
cut_of n (odd_cut h ps) = odd n (from_zero h) (map pair_from_zero ps)

abbrev pub cuts_of : ℕ → List Listed → List Cut
cuts_of n cs = map (cut_of n) cs

-- the dual that is written for a city; a city without one has dual 0
abbrev pub dual_of : List (ℕ × ℤ) → ℕ → ℤ
dual_of [] v = pos 0
dual_of (p ∷ ps) v = cond (p.0 == v) p.1 (dual_of ps v)

-- the duals of m cities from v on
abbrev pub duals_from : List (ℕ × ℤ) → ℕ → ℕ → List ℤ
duals_from ps v zero = []
duals_from ps v (suc m) = dual_of ps v ∷ duals_from ps (v + 1) m

-- the cut with a number in a list; numbers count from 1
abbrev pub cut_at : List Cut → ℕ → Cut
cut_at cs k = slice_index_or cs (k - 1) (subtour 0 [])

-- the closing that duals are, where these cuts are listed
abbrev pub closing_of : ℕ → List Cut → Duals → Closing
closing_of n cs d = record { city = duals_from d.cities 1 n; cuts = map (λ q. (cut_at cs q.0, q.1)) d.cuts; conds = d.conds }

-- the proof tree that is written, with cities from 0 and cuts in full
abbrev pub tree_of : ℕ → List Cut → Written → Tree
tree_of n cs open_leaf = trees.open_leaf
tree_of n cs (closed_leaf d) = trees.closed_leaf (closing_of n cs d)
tree_of n cs (edge_split u v a b) = trees.edge_split (u - 1) (v - 1) (tree_of n cs a) (tree_of n cs b)
tree_of n cs (clique_split s a b) = trees.clique_split (from_zero s) (tree_of n cs a) (tree_of n cs b)

-- the tree of a proof for n cities
abbrev pub tree_in : ℕ → Proof → Tree
tree_in n p = tree_of n (cuts_of n p.cuts) p.tree

-- ---- the grammar

abbrev pub firsts : {X : Type 0} → List (ℕ × X) → List ℕ
firsts ps = map (λ p. p.0) ps

-- the condition is on a set
abbrev pub is_clique : Option Condition → Bool
is_clique None = false
is_clique (Some (fixed u v)) = false
is_clique (Some (absent u v)) = false
is_clique (Some (present u v)) = false
is_clique (Some (two s)) = true
is_clique (Some (four s)) = true

abbrev pub name_cliques : List Condition → List ℕ → Bool
name_cliques path [] = true
name_cliques path (d ∷ ds) = is_clique (condition_at path d) && name_cliques path ds

-- a leaf's cities of the n, its cuts of the k listed, and its depths rise
pub record RisesIn (n k : ℕ) (d : Duals) : Type 0 where
  pub cities : rises 1 n (firsts d.cities) ≡ true
  pub cuts : rises 1 k (firsts d.cuts) ≡ true
  pub conds : rises 1 (2 ^ 32) (firsts d.conds) ≡ true

abbrev pub LeavesRise : ℕ → ℕ → Written → Type 0
LeavesRise n k open_leaf = Unit {0}
LeavesRise n k (closed_leaf d) = RisesIn n k d
LeavesRise n k (edge_split u v a b) = LeavesRise n k a × LeavesRise n k b
LeavesRise n k (clique_split s a b) = LeavesRise n k a × LeavesRise n k b

-- each depth names a condition on a set of its leaf's path; fixed pairs, with which a path may begin, have no depth
abbrev pub DepthsName : List Condition → Written → Type 0
DepthsName path open_leaf = Unit {0}
DepthsName path (closed_leaf d) = name_cliques path (firsts d.conds) ≡ true
DepthsName path (edge_split u v a b) = DepthsName (path ++ absent (u - 1) (v - 1) ∷ []) a × DepthsName (path ++ present (u - 1) (v - 1) ∷ []) b
DepthsName path (clique_split s a b) = DepthsName (path ++ two (from_zero s) ∷ []) a × DepthsName (path ++ four (from_zero s) ∷ []) b

-- the pairs of an odd cut rise
abbrev pub rises_in_cut : Listed → Bool
rises_in_cut (subtour_cut s) = true
rises_in_cut (comb_cut h ts) = true
rises_in_cut (odd_cut h ps) = pairs_rise ps

-- a value of the grammar for n cities, but for its own number of cities and for what depths name
pub record IsReadable (n : ℕ) (p : Proof) : Type 0 where
  pub lines : AllByRecursion (λ i. fits n i ≡ true) (items p)
  pub pairs : AllByRecursion (λ c. rises_in_cut c ≡ true) p.cuts
  pub rise : LeavesRise n (length p.cuts) p.tree

-- a value of the grammar, but for its own number of cities
pub record HasForm (n : ℕ) (p : Proof) : Type 0 where
  pub readable : IsReadable n p
  pub depths : DepthsName [] p.tree

-- ---- what a value says of an instance

-- the bound of a text for length l: the length itself where none is told, else the number that is told, which is less
abbrev pub IsBoundOf : Option ℕ → ℕ → ℕ → Type 0
IsBoundOf None l b = b ≡ l
IsBoundOf (Some told) l b = (told ≡ b) × (b < l)

-- A value is about an instance, a length and a bound: its size is the instance's, it says the length and the bound, its cuts are
-- cuts, whether a leaf names them or not, and its tour counts cities from 1.
pub record IsAbout (i : Instance) (l b : ℕ) (p : Proof) : Type 0 where
  pub size : p.cities ≡ i.n
  pub same : p.long ≡ l
  pub bound : IsBoundOf p.bound l b
  pub cuts : AllByRecursion (IsCut i.n) (cuts_of i.n p.cuts)
  pub from_one : AllByRecursion (λ c. 1 ≤ c) p.tour

-- it is, and its tour and its tree are an accepted proof
pub record IsAcceptedProof (i : Instance) (l b : ℕ) (p : Proof) : Type 0 where
  pub about : IsAbout i l b p
  pub accepted : IsAccepted i (from_zero p.tour) l b (tree_in i.n p)

-- a text that may be accepted has at most so many bytes
abbrev pub most_bytes : ℕ
most_bytes = 2 ^ 60

-- the bytes are the text of a value of the grammar that is accepted with length l and bound b
pub record IsTextOf (i : Instance) (bytes : List ℕ) (l b : ℕ) (p : Proof) : Type 0 where
  pub text : bytes ≡ text p
  pub form : HasForm i.n p
  pub accepted : IsAcceptedProof i l b p

abbrev pub IsAcceptedText : Instance → List ℕ → ℕ → ℕ → Type 0
IsAcceptedText i bytes l b = (length bytes ≤ most_bytes) × (p : Proof) × IsTextOf i bytes l b p
