-- Tours: cyclic lists of distinct cities, their steps, their length and how often they cross a set.
use Rattle.std.specs.Prelude.{◌≡◌, ℕ, ◌+◌, ◌<◌, Bool, false, cond, ◌==◌, ◌&&◌, ◌||◌, not, List, [], ◌∷◌, ◌++◌, length, reverse, ◌⊎◌}
use Rattle.std.specs.List.{AllByRecursion}
use Rattle.tspdef.specs.Sets.{has}

abbrev pub AreDistinct : List ℕ → Type 0
AreDistinct [] = Unit {0}
AreDistinct (x ∷ xs) = (has xs x ≡ false) × AreDistinct xs

-- each of the cities 0 to n - 1 once
pub record IsTour (n : ℕ) (tour : List ℕ) : Type 0 where
  pub all : length tour ≡ n
  pub below : AllByRecursion (λ c. c < n) tour
  pub distinct : AreDistinct tour

-- the steps of a walk that stands at a, goes through bs, and ends at home
abbrev pub walk : ℕ → ℕ → List ℕ → List (ℕ × ℕ)
walk home a [] = (a, home) ∷ []
walk home a (b ∷ bs) = (a, b) ∷ walk home b bs

-- the steps of a tour: from each city to the next, and from the last to the first
abbrev pub steps : List ℕ → List (ℕ × ℕ)
steps [] = []
steps (a ∷ bs) = walk a a bs

-- the step joins u and v, in one of the two directions
abbrev pub joins : ℕ → ℕ → (ℕ × ℕ) → Bool
joins u v e = ((e.0 == u) && (e.1 == v)) || ((e.0 == v) && (e.1 == u))

-- one of the steps joins u and v
abbrev pub has_step : List (ℕ × ℕ) → ℕ → ℕ → Bool
has_step [] u v = false
has_step (e ∷ es) u v = joins u v e || has_step es u v

-- the sum of d over the steps
abbrev pub travelled : (ℕ → ℕ → ℕ) → List (ℕ × ℕ) → ℕ
travelled d [] = 0
travelled d (e ∷ es) = d e.0 e.1 + travelled d es

-- the length of a tour under the distances d
abbrev pub tour_length : (ℕ → ℕ → ℕ) → List ℕ → ℕ
tour_length d tour = travelled d (steps tour)

-- exactly one end of the step is in the set
abbrev pub crosses : (ℕ → Bool) → (ℕ × ℕ) → Bool
crosses s e = cond (s e.0) (not (s e.1)) (s e.1)

-- how many of the steps have exactly one end in the set
abbrev pub crossings : (ℕ → Bool) → List (ℕ × ℕ) → ℕ
crossings s [] = 0
crossings s (e ∷ es) = cond (crosses s e) 1 0 + crossings s es

-- the last city of a list that begins with a
abbrev pub last_city : ℕ → List ℕ → ℕ
last_city a [] = a
last_city a (b ∷ bs) = last_city b bs

-- city 0 comes first, and the second city is less than the last
abbrev pub IsCanonical : List ℕ → Type 0
IsCanonical [] = ⊥
IsCanonical (a ∷ []) = ⊥
IsCanonical (a ∷ b ∷ cs) = (a ≡ 0) × (b < last_city b cs)

-- the other list is the same cycle in the same direction, begun elsewhere
abbrev pub IsTurned : List ℕ → List ℕ → Type 0
IsTurned tour other = (front : List ℕ) × (back : List ℕ) × (tour ≡ front ++ back) × (other ≡ back ++ front)

-- the other list is the same cycle, begun anywhere and gone through in either direction
abbrev pub IsSameCycle : List ℕ → List ℕ → Type 0
IsSameCycle tour other = IsTurned tour other ⊎ IsTurned (reverse tour) other

-- the canonical form of a tour
pub record IsCanonicalForm (tour form : List ℕ) : Type 0 where
  pub same : IsSameCycle tour form
  pub canonical : IsCanonical form
