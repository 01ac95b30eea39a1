-- what is left of an accepted text where a line is wanted
use Rattle.std.proofs.Common.{◌≡◌, ℕ, zero, suc, ◌-◌, ◌^◌, ◌&&◌, Bool, true, false, List, [], ◌∷◌, ◌++◌, length, map}
use Rattle.std.specs.Prelude.{◌==◌}
use Rattle.std.specs.List.{flat_map, AllByRecursion}
use Rattle.tspdef.specs.Paths.{Condition, absent, present, two, four}
use Rattle.certdef.specs.Items.{Item, title_line, size_line, length_line, bound_line, tour_line, cuts_line, handle_line, tooth_line, rises}
use Rattle.certdef.specs.Proofs.{Listed, comb_cut, odd_cut, Duals, Written, open_leaf, closed_leaf, edge_split, clique_split, listed_items, dual_items, tree_items, pair_item}
use Rattle.certdef.specs.Accepted.{from_zero, firsts, rises_in_cut}
use Rattle.certdef.specs.Tests.{Tests}
use Rattle.certdef.specs.Verdicts.{Head, OpenDuals, Stage, wants_title, wants_size, wants_length, wants_bound, wants_tour, wants_count, wants_cut, wants_handle, wants_tooth, wants_odd_handle, wants_pair, wants_trees, wants_duals, Outcome, go, refused, after, may_follow, with_cut}

abbrev pub all_named : Tests → List Condition → List ℕ → Bool
all_named j path [] = true
all_named j path (d ∷ ds) = j.names path d && all_named j path ds

-- the length and the bound that a head says
abbrev pub says : Head → ℕ × ℕ
says h = (h.long, h.bound)

-- the duals e go on where d ends
pub record GoesOn (j : Tests) (k : ℕ) (path : List Condition) (d e : Duals) : Type 0 where
  pub cities : rises (after d.cities) j.n (firsts e.cities) ≡ true
  pub cuts : rises (after d.cuts) k (firsts e.cuts) ≡ true
  pub conds : rises (after d.conds) (2 ^ 32) (firsts e.conds) ≡ true
  pub named : all_named j path (firsts e.conds) ≡ true

-- a tree that is in order, sound and closed, by the tests
abbrev pub Good : Tests → Head → List Condition → Written → Type 0
Good j h path open_leaf = j.opens ≡ true
Good j h path (closed_leaf d) = GoesOn j (length h.cuts) path (record { cities = []; cuts = []; conds = [] }) d × (j.closes h.bound h.cuts path d ≡ true)
Good j h path (edge_split u v t s) = (j.decided path (u - 1) (v - 1) ≡ false) × (Good j h (path ++ absent (u - 1) (v - 1) ∷ []) t × Good j h (path ++ present (u - 1) (v - 1) ∷ []) s)
Good j h path (clique_split q t s) = (j.proper q ≡ true) × (Good j h (path ++ two (from_zero q) ∷ []) t × Good j h (path ++ four (from_zero q) ∷ []) s)

-- a good tree on each path in turn, and nothing more
abbrev pub Trees : Tests → Head → List (List Condition) → List Item → Type 0
Trees j h [] xs = xs ≡ []
Trees j h (p ∷ ps) xs = (t : Written) × (rest : List Item) × (xs ≡ tree_items t ++ rest) × Good j h p t × Trees j h ps rest

abbrev pub joined : Duals → Duals → Duals
joined d e = record { cities = d.cities ++ e.cities; cuts = d.cuts ++ e.cuts; conds = d.conds ++ e.conds }

pub record DualsLeft (j : Tests) (h : Head) (ps : List (List Condition)) (o : OpenDuals) (a b c : ℕ) (xs : List Item) : Type 0 where
  pub more : Duals
  pub rest : List Item
  pub said : xs ≡ dual_items more ++ rest
  pub cities : length more.cities ≡ a
  pub cuts : length more.cuts ≡ b
  pub conds : length more.conds ≡ c
  pub order : GoesOn j (length h.cuts) o.path o.duals more
  pub closed : j.closes h.bound h.cuts o.path (joined o.duals more) ≡ true
  pub trees : Trees j h ps rest

abbrev pub with_cuts : Head → List Listed → Head
with_cuts h cs = record { long = h.long; bound = h.bound; cuts = h.cuts ++ cs }

pub record CutsLeft (j : Tests) (h : Head) (m : ℕ) (xs : List Item) : Type 0 where
  pub more : List Listed
  pub rest : List Item
  pub said : xs ≡ flat_map listed_items more ++ rest
  pub count : length more ≡ m
  pub pairs : AllByRecursion (λ c. rises_in_cut c ≡ true) more
  pub cuts : AllByRecursion (λ c. j.cut c ≡ true) more
  pub trees : Trees j (with_cuts h more) (j.root ∷ []) rest

-- the teeth of a comb, and then m cuts
pub record TeethLeft (j : Tests) (h : Head) (m t : ℕ) (s : List ℕ) (ts : List (List ℕ)) (xs : List Item) : Type 0 where
  pub more : List (List ℕ)
  pub rest : List Item
  pub said : xs ≡ map tooth_line more ++ rest
  pub count : length more ≡ t
  pub cut : j.cut (comb_cut s (ts ++ more)) ≡ true
  pub cuts : CutsLeft j (with_cut h (comb_cut s (ts ++ more))) m rest

pub record HandleLeft (j : Tests) (h : Head) (m t : ℕ) (xs : List Item) : Type 0 where
  pub set : List ℕ
  pub rest : List Item
  pub said : xs ≡ handle_line set ∷ rest
  pub teeth : TeethLeft j h m t set [] rest

-- pairs that rise behind others
abbrev pub pairs_follow : List (ℕ × ℕ) → List (ℕ × ℕ) → Bool
pairs_follow ps [] = true
pairs_follow ps (q ∷ qs) = may_follow ps q && pairs_follow (ps ++ q ∷ []) qs

-- the pairs of an odd cut, and then m cuts
pub record PairsLeft (j : Tests) (h : Head) (m t : ℕ) (s : List ℕ) (ps : List (ℕ × ℕ)) (xs : List Item) : Type 0 where
  pub more : List (ℕ × ℕ)
  pub rest : List Item
  pub said : xs ≡ map pair_item more ++ rest
  pub count : length more ≡ t
  pub follow : pairs_follow ps more ≡ true
  pub cut : j.cut (odd_cut s (ps ++ more)) ≡ true
  pub cuts : CutsLeft j (with_cut h (odd_cut s (ps ++ more))) m rest

pub record OddHandleLeft (j : Tests) (h : Head) (m t : ℕ) (xs : List Item) : Type 0 where
  pub set : List ℕ
  pub rest : List Item
  pub said : xs ≡ handle_line set ∷ rest
  pub pairs : PairsLeft j h m t set [] rest

pub record CountLeft (j : Tests) (l : ℕ × ℕ) (xs : List Item) : Type 0 where
  pub cuts : ℕ
  pub rest : List Item
  pub said : xs ≡ cuts_line cuts ∷ rest
  pub left : CutsLeft j (record { long = l.0; bound = l.1; cuts = [] }) cuts rest

pub record TourLeft (j : Tests) (l : ℕ × ℕ) (xs : List Item) : Type 0 where
  pub cities : List ℕ
  pub rest : List Item
  pub said : xs ≡ tour_line cities ∷ rest
  pub is_tour : j.tour cities ≡ true
  pub long : j.has_length cities l.0 ≡ true
  pub left : CountLeft j l rest

pub record BoundLeft (j : Tests) (m b : ℕ) (xs : List Item) : Type 0 where
  pub rest : List Item
  pub said : xs ≡ bound_line b ∷ rest
  pub below : j.below b m ≡ true
  pub left : TourLeft j (m, b) rest

-- behind the length of the first version comes the tour, and its bound is the length; of the second version the bound comes
abbrev pub LengthThen : Tests → Bool → ℕ × ℕ → List Item → Type 0
LengthThen j true l xs = (l.1 ≡ l.0) × TourLeft j l xs
LengthThen j false l xs = BoundLeft j l.0 l.1 xs

pub record LengthLeft (j : Tests) (v : ℕ) (l : ℕ × ℕ) (xs : List Item) : Type 0 where
  pub rest : List Item
  pub said : xs ≡ length_line l.0 ∷ rest
  pub left : LengthThen j (v == 1) l rest

pub record SizeLeft (j : Tests) (v : ℕ) (l : ℕ × ℕ) (xs : List Item) : Type 0 where
  pub cities : ℕ
  pub rest : List Item
  pub said : xs ≡ size_line cities ∷ rest
  pub same : j.size cities ≡ true
  pub left : LengthLeft j v l rest

pub record TitleLeft (j : Tests) (l : ℕ × ℕ) (xs : List Item) : Type 0 where
  pub version : ℕ
  pub rest : List Item
  pub said : xs ≡ title_line version ∷ rest
  pub left : SizeLeft j version l rest

-- at a stage, these items are left of an accepted text of a length and a bound
abbrev pub Left : Tests → ℕ × ℕ → Stage → List Item → Type 0
Left j l wants_title xs = TitleLeft j l xs
Left j l (wants_size v) xs = SizeLeft j v l xs
Left j l (wants_length v) xs = LengthLeft j v l xs
Left j l (wants_bound m) xs = (m ≡ l.0) × BoundLeft j m l.1 xs
Left j l (wants_tour m b) xs = ((m, b) ≡ l) × TourLeft j (m, b) xs
Left j l (wants_count m b) xs = ((m, b) ≡ l) × CountLeft j (m, b) xs
Left j l (wants_cut h m) xs = (says h ≡ l) × CutsLeft j h (suc m) xs
Left j l (wants_handle h m from t) xs = (says h ≡ l) × HandleLeft j h m t xs
Left j l (wants_tooth h m from t s ts) xs = (says h ≡ l) × TeethLeft j h m (suc t) s ts xs
Left j l (wants_odd_handle h m from t) xs = (says h ≡ l) × OddHandleLeft j h m t xs
Left j l (wants_pair h m from t s ps) xs = (says h ≡ l) × PairsLeft j h m (suc t) s ps xs
Left j l (wants_trees h ps) xs = (says h ≡ l) × Trees j h ps xs
Left j l (wants_duals h ps o zero zero zero) xs = ⊥
Left j l (wants_duals h ps o a b c) xs = (says h ≡ l) × DualsLeft j h ps o a b c xs

abbrev pub LeftOf : Tests → ℕ × ℕ → Outcome → List Item → Type 0
LeftOf j l (go s) xs = Left j l s xs
LeftOf j l (refused k at) xs = ⊥
