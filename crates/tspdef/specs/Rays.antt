-- Rays: the closings of a node whose path decides every pair. Where the used pairs are no tour, one dual is as
-- large as it takes; where they are a tour, no dual is needed.
use Rattle.std.specs.Prelude.{◌≡◌, ℕ, ◌+◌, ◌*◌, ◌<◌, true, cond, ◌==◌, ◌&&◌, ◌||◌, ◌⊎◌, List, [], ◌∷◌, length, replicate, slice_set, ℤ, pos, neg_ℤ, ◌≤ℤ◌}
use Rattle.tspdef.specs.Sets.{has, IsSet}
use Rattle.tspdef.specs.Tours.{steps, has_step, IsTour}
use Rattle.tspdef.specs.Cuts.{subtour}
use Rattle.tspdef.specs.Paths.{Condition, is_present}
use Rattle.tspdef.specs.Closings.{Closing}
use Rattle.tspdef.specs.Sums.{sum_pairs}
use Rattle.tspdef.specs.Bounds.{scale}

-- how many pairs with this city the path uses
abbrev pub degree : ℕ → List Condition → ℕ → ℤ
degree n path v = sum_pairs (λ a b. cond (is_present path a b && ((a == v) || (b == v))) (pos 1) (pos 0)) n

abbrev pub HasFew : ℕ → List Condition → ℕ → Type 0
HasFew n path v = degree n path v ≤ℤ pos 1

abbrev pub HasMany : ℕ → List Condition → ℕ → Type 0
HasMany n path v = pos 3 ≤ℤ degree n path v

-- no city has fewer than two used pairs
abbrev pub NoneHasFew : ℕ → List Condition → Type 0
NoneHasFew n path = (v : ℕ) → v < n → ¬ HasFew n path v

-- no city has more than two used pairs
abbrev pub NoneHasMany : ℕ → List Condition → Type 0
NoneHasMany n path = (v : ℕ) → v < n → ¬ HasMany n path v

-- no used pair has exactly one end in the set
abbrev pub IsClosedUnder : ℕ → List Condition → List ℕ → Type 0
IsClosedUnder n path s = (u v : ℕ) → u < v → v < n → is_present path u v ≡ true → has s u ≡ has s v

-- the cities that used pairs lead to from city 0: the least set with city 0 that no used pair leaves
pub record IsReached (n : ℕ) (path : List Condition) (s : List ℕ) : Type 0 where
  pub set : IsSet n s
  pub home : has s 0 ≡ true
  pub closed : IsClosedUnder n path s
  pub least : (t : List ℕ) → has t 0 ≡ true → IsClosedUnder n path t → (c : ℕ) → has s c ≡ true → has t c ≡ true

-- the pairs that the path uses are the steps of the tour
abbrev pub AreStepsOf : ℕ → List Condition → List ℕ → Type 0
AreStepsOf n path tour = (u v : ℕ) → u < v → v < n → is_present path u v ≡ has_step (steps tour) u v

-- the large dual: one length more than the best, in units
abbrev pub large_dual : ℕ → ℕ
large_dual best = scale * (best + 1)

-- all duals are 0
abbrev pub zero_closing : ℕ → Closing
zero_closing n = record { city = replicate n (pos 0); cuts = []; conds = [] }

-- one city's dual is y and all others are 0
abbrev pub city_closing : ℕ → ℕ → ℤ → Closing
city_closing n v y = record { city = slice_set (replicate n (pos 0)) v y; cuts = []; conds = [] }

-- the dual of one subtour cut is y and all others are 0
abbrev pub subtour_closing : ℕ → List ℕ → ℕ → Closing
subtour_closing n s y = record { city = replicate n (pos 0); cuts = (subtour n s, y) ∷ []; conds = [] }

-- the lowest city with one used pair or none has the large dual
pub record IsFewRay (n : ℕ) (path : List Condition) (best : ℕ) (c : Closing) (v : ℕ) : Type 0 where
  pub city : v < n
  pub few : HasFew n path v
  pub lowest : (u : ℕ) → u < v → ¬ HasFew n path u
  pub closing : c ≡ city_closing n v (pos (large_dual best))

-- the lowest city with three used pairs or more has the large dual, negative
pub record IsManyRay (n : ℕ) (path : List Condition) (best : ℕ) (c : Closing) (v : ℕ) : Type 0 where
  pub none_few : NoneHasFew n path
  pub city : v < n
  pub many : HasMany n path v
  pub lowest : (u : ℕ) → u < v → ¬ HasMany n path u
  pub closing : c ≡ city_closing n v (neg_ℤ (pos (large_dual best)))

-- the used pairs are several cycles, and the one through city 0 is a subtour cut with the large dual
pub record IsCycleRay (n : ℕ) (path : List Condition) (best : ℕ) (c : Closing) (s : List ℕ) : Type 0 where
  pub none_few : NoneHasFew n path
  pub none_many : NoneHasMany n path
  pub reached : IsReached n path s
  pub not_all : length s < n
  pub closing : c ≡ subtour_closing n s (large_dual best)

-- the used pairs are a tour, and all duals are 0
pub record IsTourRay (n : ℕ) (path : List Condition) (c : Closing) (tour : List ℕ) : Type 0 where
  pub is_tour : IsTour n tour
  pub used : AreStepsOf n path tour
  pub closing : c ≡ zero_closing n

-- The ray of a path that decides every pair: too few used pairs at a city, else too many, else several cycles, else a tour.
abbrev pub IsRay : ℕ → List Condition → ℕ → Closing → Type 0
IsRay n path best c =
    ((v : ℕ) × IsFewRay n path best c v)
    ⊎ ((v : ℕ) × IsManyRay n path best c v)
    ⊎ ((s : List ℕ) × IsCycleRay n path best c s)
    ⊎ ((tour : List ℕ) × IsTourRay n path c tour)
