-- What is wrong with a line that is refused, in the words of the format. Refusals are numbered as in `certdef`.
use Rattle.std.specs.Prelude.{◌≡◌, ◌≢◌, ℕ, zero, suc, ◌+◌, ◌-◌, ◌<◌, ◌≤◌, true, false, ◌⊎◌, List, [], ◌∷◌, ◌++◌, length, map, Option, Some, None, ◌≤ℤ◌}
use Rattle.tspdef.specs.Instances.{Instance, length_in}
use Rattle.tspdef.specs.Cuts.{IsComb, IsOdd}
use Rattle.tspdef.specs.Paths.{Condition, condition_at, IsClique, is_decided}
use Rattle.tspdef.specs.Bounds.{bound, needed}
use Rattle.certdef.specs.Items.{Item, title_line, size_line, length_line, bound_line, tour_line, cuts_line, subtour_line, comb_line, handle_line, tooth_line, odd_line, pair_line, edge_line, clique_line, leaf_line, city_line, cut_line, condition_line, open_line}
use Rattle.certdef.specs.Accepted.{from_zero, pair_from_zero, cuts_of, closing_of}
use Rattle.certdef.specs.Verdicts.{Head, OpenDuals, Stage, wants_title, wants_size, wants_length, wants_bound, wants_tour, wants_count, wants_cut, wants_handle, wants_tooth, wants_odd_handle, wants_pair, wants_trees, wants_duals, may_follow, after, with_city, with_cut_dual, with_condition, fresh_duals, is_end}
use Rattle.verdict.specs.Decided.{IsTourFromOne}

-- a cut begins with this line
abbrev pub BeginsCut : Item → Type 0
BeginsCut (subtour_line s) = Unit {0}
BeginsCut (comb_line t) = Unit {0}
BeginsCut (odd_line t) = Unit {0}
BeginsCut _ = ⊥

-- a tree begins with this line
abbrev pub BeginsTree : Item → Type 0
BeginsTree (edge_line u v) = Unit {0}
BeginsTree (clique_line s) = Unit {0}
BeginsTree (leaf_line a b c) = Unit {0}
BeginsTree open_line = Unit {0}
BeginsTree _ = ⊥

-- Of a leaf so many lines P, Y and Z are to come, in this order. The numbers of each kind rise, a cut is one of those listed, and a
-- depth is that of a condition on a set.
abbrev pub ComesInLeaf : Head → OpenDuals → (a b c : ℕ) → Item → Type 0
ComesInLeaf h o (suc a) b c (city_line v x) = after o.duals.cities ≤ v
ComesInLeaf h o zero (suc b) c (cut_line q y) = (after o.duals.cuts ≤ q) × (q ≤ length h.cuts)
ComesInLeaf h o zero zero (suc c) (condition_line d z) = (after o.duals.conds ≤ d) × IsClique (condition_at o.path d)
ComesInLeaf h o _ _ _ _ = ⊥

-- the line may stand where the stage wants one; the pairs of an odd cut rise
abbrev pub MayStand : Stage → Item → Type 0
MayStand wants_title (title_line v) = Unit {0}
MayStand (wants_size v) (size_line n) = Unit {0}
MayStand (wants_length v) (length_line l) = Unit {0}
MayStand (wants_bound l) (bound_line b) = Unit {0}
MayStand (wants_tour l b) (tour_line cs) = Unit {0}
MayStand (wants_count l b) (cuts_line c) = Unit {0}
MayStand (wants_cut h m) x = BeginsCut x
MayStand (wants_handle h m from t) (handle_line s) = Unit {0}
MayStand (wants_tooth h m from t s ts) (tooth_line q) = Unit {0}
MayStand (wants_odd_handle h m from t) (handle_line s) = Unit {0}
MayStand (wants_pair h m from t s ps) (pair_line u v) = may_follow ps (u, v) ≡ true
MayStand (wants_trees h (p ∷ ps)) x = BeginsTree x
MayStand (wants_duals h ps o a b c) x = ComesInLeaf h o a b c x
MayStand _ _ = ⊥

-- a line that is of the form by itself, and at its place
abbrev pub IsOfForm : Stage → Option Item → Type 0
IsOfForm s None = ⊥
IsOfForm s (Some x) = MayStand s x

-- 1: the line is not of the form at its place
pub record NotAProof (s : Stage) (m : ℕ) (x : Option Item) (k at : ℕ) : Type 0 where
  pub refusal : k ≡ 1
  pub line : at ≡ m
  pub before_end : is_end s ≡ false
  pub no_form : ¬ IsOfForm s x

-- 2: line 2 says another number of cities
pub record OtherSize (i : Instance) (s : Stage) (m : ℕ) (x : Option Item) (k at : ℕ) : Type 0 where
  pub refusal : k ≡ 2
  pub line : at ≡ m
  pub second : m ≡ 2
  pub cities : ℕ
  pub says : x ≡ Some (size_line cities)
  pub other : cities ≢ i.n

-- The line of the tour: line 4 in the first version, where the bound is the length; line 5 in the second, where line 4 tells a lesser
-- bound.
abbrev pub IsTourLine : (long bound m : ℕ) → Type 0
IsTourLine l b m = ((b ≡ l) × (m ≡ 4)) ⊎ ((b < l) × (m ≡ 5))

-- 3: the line of the tour lists no canonical tour of the instance: not of its cities, which count from 1, not canonical, or without a
-- fixed pair
pub record NotATour (i : Instance) (s : Stage) (m : ℕ) (x : Option Item) (k at : ℕ) : Type 0 where
  pub refusal : k ≡ 3
  pub line : at ≡ m
  pub long : ℕ
  pub bound : ℕ
  pub said : s ≡ wants_tour long bound
  pub place : IsTourLine long bound m
  pub cities : List ℕ
  pub says : x ≡ Some (tour_line cities)
  pub none : ¬ IsTourFromOne i cities

-- 4: the line of the tour lists a canonical tour of the instance, and it is not as long as line 3 says
pub record WrongLength (i : Instance) (s : Stage) (m : ℕ) (x : Option Item) (k at : ℕ) : Type 0 where
  pub refusal : k ≡ 4
  pub line : at ≡ m
  pub long : ℕ
  pub bound : ℕ
  pub said : s ≡ wants_tour long bound
  pub place : IsTourLine long bound m
  pub cities : List ℕ
  pub says : x ≡ Some (tour_line cities)
  pub tour : IsTourFromOne i cities
  pub other : length_in i (from_zero cities) ≢ long

-- 5: the set of an S or a K line is that of all cities
pub record SetOfAll (i : Instance) (s : Stage) (m : ℕ) (x : Option Item) (k at : ℕ) : Type 0 where
  pub refusal : k ≡ 5
  pub line : at ≡ m
  pub set : List ℕ
  pub says : (x ≡ Some (subtour_line set)) ⊎ (x ≡ Some (clique_line set))
  pub all : length set ≡ i.n

-- the comb whose sets are read with this line: the number of its C line, its handle, and its teeth so far
abbrev pub comb_with : Stage → Option Item → Option (ℕ × List ℕ × List (List ℕ))
comb_with (wants_handle h m from t) (Some (handle_line s)) = Some (from, s, [])
comb_with (wants_tooth h m from t s ts) (Some (tooth_line q)) = Some (from, s, ts ++ q ∷ [])
comb_with _ _ = None

-- 5: the H and T lines behind the C line `at`, of which line m is the last, list no comb
pub record NotAComb (i : Instance) (s : Stage) (m : ℕ) (x : Option Item) (k at : ℕ) : Type 0 where
  pub refusal : k ≡ 5
  pub handle : List ℕ
  pub teeth : List (List ℕ)
  pub says : comb_with s x ≡ Some (at, handle, teeth)
  pub begins : 1 ≤ at
  pub last : m ≡ at + 1 + length teeth
  pub none : ¬ IsComb i.n (from_zero handle) (map from_zero teeth)

-- the odd cut whose handle and pairs are read with this line: the number of its B line, its handle, and its pairs so far
abbrev pub odd_with : Stage → Option Item → Option (ℕ × List ℕ × List (ℕ × ℕ))
odd_with (wants_odd_handle h m from t) (Some (handle_line s)) = Some (from, s, [])
odd_with (wants_pair h m from t s ps) (Some (pair_line u v)) = Some (from, s, ps ++ (u, v) ∷ [])
odd_with _ _ = None

-- 5: the H and F lines behind the B line `at`, of which line m is the last, list no odd cut
pub record NotAnOddCut (i : Instance) (s : Stage) (m : ℕ) (x : Option Item) (k at : ℕ) : Type 0 where
  pub refusal : k ≡ 5
  pub handle : List ℕ
  pub pairs : List (ℕ × ℕ)
  pub says : odd_with s x ≡ Some (at, handle, pairs)
  pub begins : 1 ≤ at
  pub last : m ≡ at + 1 + length pairs
  pub none : ¬ IsOdd i.n (from_zero handle) (map pair_from_zero pairs)

-- 6: the pair of an E line is decided by the path that stands there; with the instance's fixed pairs each path begins
pub record DecidedEdge (s : Stage) (m : ℕ) (x : Option Item) (k at : ℕ) : Type 0 where
  pub refusal : k ≡ 6
  pub line : at ≡ m
  pub head : Head
  pub path : List Condition
  pub others : List (List Condition)
  pub stands : s ≡ wants_trees head (path ∷ others)
  pub u : ℕ
  pub v : ℕ
  pub says : x ≡ Some (edge_line u v)
  pub decided : is_decided path (u - 1) (v - 1) ≡ true

-- the leaf that is read so far with this line, and the head of its text
abbrev pub leaf_with : Stage → ℕ → Option Item → Option (Head × OpenDuals)
leaf_with (wants_trees h (p ∷ ps)) m (Some (leaf_line a b c)) = Some (h, fresh_duals m p)
leaf_with (wants_duals h ps o a b c) m (Some (city_line v x)) = Some (h, with_city o v x)
leaf_with (wants_duals h ps o a b c) m (Some (cut_line q y)) = Some (h, with_cut_dual o q y)
leaf_with (wants_duals h ps o a b c) m (Some (condition_line d z)) = Some (h, with_condition o d z)
leaf_with _ _ _ = None

-- 7: the bound of the leaf whose L line is `at` and whose last line is m is at most b - 1 lengths, with b the bound that is told, or the
-- length where none is told
pub record WeakLeaf (i : Instance) (s : Stage) (m : ℕ) (x : Option Item) (k at : ℕ) : Type 0 where
  pub refusal : k ≡ 7
  pub head : Head
  pub leaf : OpenDuals
  pub says : leaf_with s m x ≡ Some (head, leaf)
  pub line : at ≡ leaf.at
  pub begins : 1 ≤ at
  pub last : m ≡ at + (length leaf.duals.cities + (length leaf.duals.cuts + length leaf.duals.conds))
  pub weak : bound i leaf.path (closing_of i.n (cuts_of i.n head.cuts) leaf.duals) ≤ℤ needed head.bound

-- 8: an open leaf
pub record OpenLeaf (s : Stage) (m : ℕ) (x : Option Item) (k at : ℕ) : Type 0 where
  pub refusal : k ≡ 8
  pub line : at ≡ m
  pub says : x ≡ Some open_line

-- 9: there is a byte behind the tree
pub record Trailing (s : Stage) (m : ℕ) (k at : ℕ) : Type 0 where
  pub refusal : k ≡ 9
  pub line : at ≡ m
  pub behind : is_end s ≡ true

-- 11: line 4 tells a bound that is not below the length, which line 3 says
pub record WrongBound (s : Stage) (m : ℕ) (x : Option Item) (k at : ℕ) : Type 0 where
  pub refusal : k ≡ 11
  pub line : at ≡ m
  pub fourth : m ≡ 4
  pub long : ℕ
  pub said : s ≡ wants_bound long
  pub told : ℕ
  pub says : x ≡ Some (bound_line told)
  pub great : long ≤ told

-- The refusal k at line `at`, told once line m is read, where the stage s wants this line and x is what it says, if anything.
pub data Fault (i : Instance) (s : Stage) (m : ℕ) (x : Option Item) (k at : ℕ) : Type 0 where
  not_a_proof : NotAProof s m x k at → Fault i s m x k at
  other_size : OtherSize i s m x k at → Fault i s m x k at
  not_a_tour : NotATour i s m x k at → Fault i s m x k at
  wrong_length : WrongLength i s m x k at → Fault i s m x k at
  set_of_all : SetOfAll i s m x k at → Fault i s m x k at
  not_a_comb : NotAComb i s m x k at → Fault i s m x k at
  not_an_odd_cut : NotAnOddCut i s m x k at → Fault i s m x k at
  decided_edge : DecidedEdge s m x k at → Fault i s m x k at
  weak_leaf : WeakLeaf i s m x k at → Fault i s m x k at
  open_leaf : OpenLeaf s m x k at → Fault i s m x k at
  trailing : Trailing s m k at → Fault i s m x k at
  wrong_bound : WrongBound s m x k at → Fault i s m x k at
