-- Cuts: lists of sets with a right side that every tour meets.
use Rattle.std.specs.Prelude.{◌≡◌, ℕ, ◌+◌, ◌*◌, ◌%◌, ◌<◌, ◌≤◌, true, cond, List, [], ◌∷◌, length, map}
use Rattle.std.specs.declared.cmp.Ordering.{Ordering}
use Rattle.std.specs.declared.cmp.Ordering.TheVariants.{Less, Greater}
use Rattle.std.specs.Ordering.{nat_cmp, ordering_then}
use Rattle.std.specs.Cmp.Lexicographic.{slice_cmp}
use Rattle.std.specs.List.{AllByRecursion}
use Rattle.tspdef.specs.Sets.{has, IsSet, IsProper, meet, leaves, AreDisjoint}
use Rattle.tspdef.specs.Tours.{crosses, crossings, steps}
use Rattle.tspdef.specs.Fixed.{AreRisingPairs}

-- a cut of n cities: a subtour cut is one set (Dantzig, Fulkerson and Johnson 1954), a comb is a handle
-- and its teeth (Grötschel and Padberg 1979), an odd cut is a handle and an odd number of pairs that cross it (the odd cuts, or
-- blossoms, of Edmonds 1965 and of Padberg and Rao 1982)
pub data Cut : Type 0 where
  subtour : (n : ℕ) → (set : List ℕ) → Cut
  comb : (n : ℕ) → (handle : List ℕ) → (teeth : List (List ℕ)) → Cut
  odd : (n : ℕ) → (handle : List ℕ) → (pairs : List (ℕ × ℕ)) → Cut

-- of how many cities it is
abbrev pub cities_of : Cut → ℕ
cities_of (subtour n s) = n
cities_of (comb n handle teeth) = n
cities_of (odd n handle pairs) = n

-- a pair as a set of two cities
abbrev pub pair_set : (ℕ × ℕ) → List ℕ
pair_set p = p.0 ∷ p.1 ∷ []

-- the sets that it counts crossings of
abbrev pub sets_of : Cut → List (List ℕ)
sets_of (subtour n s) = s ∷ []
sets_of (comb n handle teeth) = handle ∷ teeth
sets_of (odd n handle pairs) = handle ∷ map pair_set pairs

-- what the crossings of its sets add up to at least
abbrev pub right_side : Cut → ℕ
right_side (subtour n s) = 2
right_side (comb n handle teeth) = 3 * length teeth + 1
right_side (odd n handle pairs) = 3 * length pairs + 1

-- a tooth is a set with a city in the handle and one outside
pub record IsTooth (n : ℕ) (handle tooth : List ℕ) : Type 0 where
  pub set : IsSet n tooth
  pub inside : meet tooth handle ≡ true
  pub outside : leaves tooth handle ≡ true

-- a proper handle, and an odd number, three or more, of teeth that do not meet
pub record IsComb (n : ℕ) (handle : List ℕ) (teeth : List (List ℕ)) : Type 0 where
  pub proper : IsProper n handle
  pub odd : length teeth % 2 ≡ 1
  pub many : 3 ≤ length teeth
  pub each_tooth : AllByRecursion (IsTooth n handle) teeth
  pub disjoint : AreDisjoint teeth

-- how many pairs an odd cut has at most
abbrev pub most_pairs : ℕ
most_pairs = 4095

-- a proper handle, and an odd number, 4,095 at most, of different pairs u < v below n, each with one end in the handle; pairs may
-- share cities
pub record IsOdd (n : ℕ) (handle : List ℕ) (pairs : List (ℕ × ℕ)) : Type 0 where
  pub proper : IsProper n handle
  pub odd : length pairs % 2 ≡ 1
  pub few : length pairs ≤ most_pairs
  pub below : AllByRecursion (λ p. (p.0 < p.1) × (p.1 < n)) pairs
  pub rising : AreRisingPairs pairs
  pub crossed : AllByRecursion (λ p. crosses (has handle) p ≡ true) pairs

-- a cut of n cities
abbrev pub IsCut : ℕ → Cut → Type 0
IsCut n (subtour m s) = (m ≡ n) × IsProper n s
IsCut n (comb m handle teeth) = (m ≡ n) × IsComb n handle teeth
IsCut n (odd m handle pairs) = (m ≡ n) × IsOdd n handle pairs

-- how many of the sets have exactly one of u and v
abbrev pub coefficient : List (List ℕ) → ℕ → ℕ → ℕ
coefficient [] u v = 0
coefficient (s ∷ ss) u v = cond (crosses (has s) (u, v)) 1 0 + coefficient ss u v

-- how often the steps cross the sets, added up
abbrev pub crossings_of_all : List (List ℕ) → List (ℕ × ℕ) → ℕ
crossings_of_all [] es = 0
crossings_of_all (s ∷ ss) es = crossings (has s) es + crossings_of_all ss es

-- the tour meets the cut
abbrev pub HoldsOf : Cut → List ℕ → Type 0
HoldsOf c tour = right_side c ≤ crossings_of_all (sets_of c) (steps tour)

-- the order of cuts: subtour cuts before combs before odd cuts, then by the lists of sets, element by element; cuts of fewer
-- cities first
abbrev pub cut_cmp : Cut → Cut → Ordering
cut_cmp (subtour n s) (subtour m t) = ordering_then (slice_cmp nat_cmp s t) (nat_cmp n m)
cut_cmp (subtour n s) (comb m handle teeth) = Less
cut_cmp (comb m handle teeth) (subtour n s) = Greater
cut_cmp (comb n handle teeth) (comb m handle' teeth') = ordering_then (slice_cmp (slice_cmp nat_cmp) (handle ∷ teeth) (handle' ∷ teeth')) (nat_cmp n m)
cut_cmp (subtour n s) (odd m handle pairs) = Less
cut_cmp (odd m handle pairs) (subtour n s) = Greater
cut_cmp (comb n handle teeth) (odd m handle' pairs) = Less
cut_cmp (odd m handle' pairs) (comb n handle teeth) = Greater
cut_cmp (odd n handle pairs) (odd m handle' pairs') = ordering_then (slice_cmp (slice_cmp nat_cmp) (handle ∷ map pair_set pairs) (handle' ∷ map pair_set pairs')) (nat_cmp n m)
