-- The laws that everything rests on.
use Rattle.std.specs.Prelude.{◌≡◌, ◌++◌, ℕ, ◌+◌, ◌-◌, ◌*◌, ◌%◌, ◌^◌, ◌<◌, ◌≤◌, max, Bool, false, List, pos, ◌≤ℤ◌, ◌<ℤ◌, Some}
use Rattle.std.specs.List.{AllByRecursion}
use Rattle.tspdef.specs.Distances.{Rule, euclidean, rounded_up, pseudo_euclidean, manhattan, maximum, is_enough, root as root_of, squared, distance_apart, IsLeast}
use Rattle.tspdef.specs.Sets.{has, IsProper}
use Rattle.tspdef.specs.Tours.{IsTour, steps, crossings, IsSameCycle, IsCanonicalForm, has_step}
use Rattle.tspdef.specs.Fixed.{AreRisingPairs}
use Rattle.tspdef.specs.Instances.{Instance, IsTourOf, length_in}
use Rattle.tspdef.specs.Cuts.{Cut, subtour, comb, odd, IsCut, HoldsOf, sets_of, right_side, coefficient, most_pairs}
use Rattle.tspdef.specs.Paths.{Condition, Meets, Obeys, is_decided, IsPair, DecidesAll, IsPath, branches, fixed_conditions, root}
use Rattle.tspdef.specs.Closings.{Closing, Fits, IsClosing}
use Rattle.tspdef.specs.Bounds.{scale, bound, needed}
use Rattle.tspdef.specs.Rays.{IsRay, AreStepsOf}
use Rattle.tspdef.specs.Trees.{Tree, open_leaf, closed_leaf, edge_split, clique_split, IsAccepted, open_leaves, Covers, Side, open_path, with_leaf}

-- The distance from a squared distance is the least number that is enough for it.
abbrev pub RootsAreLeast : Type 0
RootsAreLeast = (rule : Rule) (s : ℕ) → IsLeast (is_enough rule s) (root_of rule s)

-- What the distance k of two points is that are x apart along one axis and y along the other: by EUC_2D, CEIL_2D and ATT the
-- least whole number that is enough for the squared distance, by MAN_2D the sum of x and y, by MAX_2D the greater of them.
abbrev pub IsDistanceApart : Rule → ℕ → ℕ → ℕ → Type 0
IsDistanceApart euclidean x y k = IsLeast (is_enough euclidean (squared x y)) k
IsDistanceApart rounded_up x y k = IsLeast (is_enough rounded_up (squared x y)) k
IsDistanceApart pseudo_euclidean x y k = IsLeast (is_enough pseudo_euclidean (squared x y)) k
IsDistanceApart manhattan x y k = k ≡ x + y
IsDistanceApart maximum x y k = k ≡ max x y

abbrev pub DistancesGoByRules : Type 0
DistancesGoByRules = (rule : Rule) (x y : ℕ) → IsDistanceApart rule x y (distance_apart rule x y)

-- A tour crosses a proper set an even number of times, and at least twice.
abbrev pub CrossingsAreEven : Type 0
CrossingsAreEven = (i : Instance) (tour s : List ℕ) → IsTourOf i tour → IsProper i.n s
    → (crossings (has s) (steps tour) % 2 ≡ 0) × (2 ≤ crossings (has s) (steps tour))

-- Every tour meets every cut.
abbrev pub ToursMeetCuts : Type 0
ToursMeetCuts = (i : Instance) (tour : List ℕ) (c : Cut) → 3 ≤ i.n → IsTourOf i tour → IsCut i.n c → HoldsOf c tour

-- how great the right side of a cut of n cities may be: a comb has no more than n teeth
abbrev pub most_right : ℕ → Cut → ℕ
most_right n (subtour m s) = 2
most_right n (comb m handle teeth) = 3 * n + 1
most_right n (odd m handle pairs) = 3 * most_pairs + 1

-- how many of its sets may have exactly one of two cities: a city is in n - 1 different pairs at most
abbrev pub most_crossed : ℕ → Cut → ℕ
most_crossed n (subtour m s) = 1
most_crossed n (comb m handle teeth) = 3
most_crossed n (odd m handle pairs) = 2 * n - 1

pub record IsSmallCut (n : ℕ) (c : Cut) : Type 0 where
  pub right : right_side c ≤ most_right n c
  pub crossed : (u v : ℕ) → coefficient (sets_of c) u v ≤ most_crossed n c

abbrev pub CutsAreSmall : Type 0
CutsAreSmall = (n : ℕ) (c : Cut) → IsCut n c → IsSmallCut n c

-- The bound of a closing is at most the length, in units, of each tour that obeys the path.
abbrev pub BoundIsBelow : Type 0
BoundIsBelow = (i : Instance) (path : List Condition) (c : Closing) (tour : List ℕ) → 3 ≤ i.n → IsTourOf i tour
    → IsClosing i.n path c → Obeys (steps tour) path → bound i path c ≤ℤ pos (scale * length_in i tour)

-- A closing that fits is a closing.
abbrev pub FittingIsClosing : Type 0
FittingIsClosing = (n : ℕ) (path : List Condition) (c : Closing) → Fits n path c → IsClosing n path c

-- Where a proof is accepted, no tour is shorter than its bound.
abbrev pub AcceptedIsBelow : Type 0
AcceptedIsBelow = (i : Instance) (tour other : List ℕ) (l b : ℕ) (t : Tree) → 3 ≤ i.n → IsAccepted i tour l b t
    → IsTourOf i other → b ≤ length_in i other

-- Fixed pairs are a path: none is decided by those before it. And they have no depth: the conditions behind them are those of
-- the path behind the root.
pub record IsRootPath (n : ℕ) (pairs : List (ℕ × ℕ)) : Type 0 where
  pub is_path : IsPath n (fixed_conditions pairs)
  pub behind : (path : List Condition) → branches (fixed_conditions pairs ++ path) ≡ branches path

abbrev pub RootsArePaths : Type 0
RootsArePaths = (n : ℕ) (pairs : List (ℕ × ℕ)) → AllByRecursion (λ p. (p.0 < p.1) × (p.1 < n)) pairs → AreRisingPairs pairs → IsRootPath n pairs

-- A tour of an instance obeys the path of its root.
abbrev pub ToursObeyRoots : Type 0
ToursObeyRoots = (i : Instance) (tour : List ℕ) → IsTourOf i tour → Obeys (steps tour) (root i)

-- The tree of one open leaf covers every tour.
abbrev pub RootCovers : Type 0
RootCovers = (i : Instance) (l : ℕ) → Covers i open_leaf l

-- Splitting an open leaf by an undecided pair keeps what the tree covers, for each l.
abbrev pub EdgeSplitCovers : Type 0
EdgeSplitCovers = (i : Instance) (t : Tree) (sides : List Side) (path : List Condition) (u v l : ℕ)
    → open_path (root i) t sides ≡ Some path → IsPair i.n u v → is_decided path u v ≡ false
    → Covers i t l → Covers i (with_leaf t sides (edge_split u v open_leaf open_leaf)) l

-- So does splitting by a proper set.
abbrev pub CliqueSplitCovers : Type 0
CliqueSplitCovers = (i : Instance) (t : Tree) (sides : List Side) (path : List Condition) (s : List ℕ) (l : ℕ)
    → open_path (root i) t sides ≡ Some path → IsProper i.n s
    → Covers i t l → Covers i (with_leaf t sides (clique_split s open_leaf open_leaf)) l

-- Closing an open leaf by a closing whose bound exceeds what l needs keeps it for that l.
abbrev pub ClosingCovers : Type 0
ClosingCovers = (i : Instance) (t : Tree) (sides : List Side) (path : List Condition) (c : Closing) (l : ℕ) → 3 ≤ i.n
    → open_path (root i) t sides ≡ Some path → IsClosing i.n path c → needed l <ℤ (bound i path c)
    → Covers i t l → Covers i (with_leaf t sides (closed_leaf c)) l

-- A tree that covers and has no open leaf makes l a lower bound.
abbrev pub CoveredIsLeast : Type 0
CoveredIsLeast = (i : Instance) (t : Tree) (l : ℕ) → open_leaves t ≡ 0 → Covers i t l
    → (tour : List ℕ) → IsTourOf i tour → l ≤ length_in i tour

-- A ray closes its node: it fits, and its bound exceeds what the best needs, where the path decides every pair and
-- the best is no longer than the used pairs where they are a tour.
abbrev pub RaysClose : Type 0
RaysClose = (i : Instance) (path : List Condition) (best : ℕ) (c : Closing) → 3 ≤ i.n → best < 2 ^ 42 → DecidesAll i.n path
    → ((tour : List ℕ) → IsTour i.n tour → AreStepsOf i.n path tour → best ≤ length_in i tour)
    → IsRay i.n path best c → Fits i.n path c × (needed best <ℤ (bound i path c))

-- Where a list of cities starts and in which direction it goes makes no difference to the tour that it is.
pub record IsSameTour (i : Instance) (tour other : List ℕ) : Type 0 where
  pub is_tour : IsTourOf i other
  pub long : length_in i other ≡ length_in i tour
  pub crossed : (s : ℕ → Bool) → crossings s (steps other) ≡ crossings s (steps tour)
  pub joined : (u v : ℕ) → has_step (steps other) u v ≡ has_step (steps tour) u v
  pub meets : (c : Condition) → Meets (steps tour) c → Meets (steps other) c

abbrev pub SameCycleIsSameTour : Type 0
SameCycleIsSameTour = (i : Instance) (tour other : List ℕ) → IsTourOf i tour → IsSameCycle tour other → IsSameTour i tour other

-- Each tour of three cities or more has a canonical form, and only one.
abbrev pub CanonicalFormExists : Type 0
CanonicalFormExists = (i : Instance) (tour : List ℕ) → 3 ≤ i.n → IsTourOf i tour → (form : List ℕ) × IsCanonicalForm tour form

abbrev pub CanonicalFormIsOne : Type 0
CanonicalFormIsOne = (i : Instance) (tour form other : List ℕ) → 3 ≤ i.n → IsTourOf i tour
    → IsCanonicalForm tour form → IsCanonicalForm tour other → form ≡ other
