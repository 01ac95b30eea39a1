-- One-trees and the Held-Karp bound (Held and Karp 1970).
use Rattle.std.specs.Prelude.{◌≡◌, ℕ, ◌+◌, ◌*◌, ◌<◌, ◌≤◌, Bool, cond, ◌==◌, ◌||◌, List, [], ◌∷◌, length, ℤ, pos, ◌+ℤ◌, ◌-ℤ◌, ◌≤ℤ◌, nat_abs, ◌^◌, slice_index_or}
use Rattle.std.specs.List.{AllByRecursion}
use Rattle.tspdef.specs.Tours.{joins, crossings}
use Rattle.tspdef.specs.Sums.{sum_below}
use Rattle.tspdef.specs.Instances.{Instance, dist}
use Rattle.tspdef.specs.Bounds.{scale}

-- the city is an end of the pair
abbrev pub is_end : ℕ → (ℕ × ℕ) → Bool
is_end c e = (e.0 == c) || (e.1 == c)

-- how many of the pairs meet a city
abbrev pub degree : ℕ → List (ℕ × ℕ) → ℕ
degree c [] = 0
degree c (e ∷ es) = cond (is_end c e) 1 0 + degree c es

-- how many of the pairs join u and v
abbrev pub times_joined : ℕ → ℕ → List (ℕ × ℕ) → ℕ
times_joined u v [] = 0
times_joined u v (e ∷ es) = cond (joins u v e) 1 0 + times_joined u v es

-- the pairs that do not meet city 0
abbrev pub elsewhere : List (ℕ × ℕ) → List (ℕ × ℕ)
elsewhere [] = []
elsewhere (e ∷ es) = cond (is_end 0 e) (elsewhere es) (e ∷ elsewhere es)

-- two different cities below n
abbrev pub IsPair : ℕ → (ℕ × ℕ) → Type 0
IsPair n e = (e.0 < n) × (e.1 < n) × (e.0 ≡ e.1 → ⊥)

-- The pairs connect the cities from 1 to n - 1: a set that no pair crosses has all of these cities or none.
abbrev pub Connects : ℕ → List (ℕ × ℕ) → Type 0
Connects n es = (s : ℕ → Bool) → crossings s es ≡ 0 → (u v : ℕ) → 0 < u → u < n → 0 < v → v < n → s u ≡ s v

-- A one-tree of n cities: two different pairs at city 0, and a spanning tree of the other n - 1 cities, which is n - 2 pairs that
-- connect them.
pub record IsOneTree (n : ℕ) (pairs : List (ℕ × ℕ)) : Type 0 where
  pub within : AllByRecursion (IsPair n) pairs
  pub all : length pairs ≡ n
  pub two : degree 0 pairs ≡ 2
  pub different : (v : ℕ) → times_joined 0 v pairs ≤ 1
  pub spans : Connects n (elsewhere pairs)

-- the sum of the costs of the pairs
abbrev pub weight : (ℕ → ℕ → ℤ) → List (ℕ × ℕ) → ℤ
weight cost [] = pos 0
weight cost (e ∷ es) = cost e.0 e.1 +ℤ weight cost es

-- no one-tree of n cities is lighter
abbrev pub IsLightest : ℕ → (ℕ → ℕ → ℤ) → ℤ → Type 0
IsLightest n cost w = (pairs : List (ℕ × ℕ)) → IsOneTree n pairs → w ≤ℤ weight cost pairs

-- the least weight of the one-trees of n cities
abbrev pub IsLeastWeight : ℕ → (ℕ → ℕ → ℤ) → ℤ → Type 0
IsLeastWeight n cost w = ((pairs : List (ℕ × ℕ)) × IsOneTree n pairs × (weight cost pairs ≡ w)) × IsLightest n cost w

-- the dual of a city
abbrev pub dual_of : List ℤ → ℕ → ℤ
dual_of p v = slice_index_or p v (pos 0)

-- a dual for each of n cities, of size at most 2^62
pub record AreDuals (n : ℕ) (p : List ℤ) : Type 0 where
  pub all : length p ≡ n
  pub sizes : AllByRecursion (λ y. nat_abs y ≤ 2 ^ 62) p

-- the cost of a pair, in units: its distance less the duals of its cities
abbrev pub reduced : Instance → List ℤ → ℕ → ℕ → ℤ
reduced i p u v = pos (scale * dist i u v) -ℤ dual_of p u -ℤ dual_of p v

-- The Held-Karp value of some duals, in units: the least weight of a one-tree, and twice the sum of the duals.
abbrev pub IsHeldKarp : Instance → List ℤ → ℤ → Type 0
IsHeldKarp i p h = (w : ℤ) × IsLeastWeight i.n (reduced i p) w × (h ≡ w +ℤ sum_below (dual_of p) i.n +ℤ sum_below (dual_of p) i.n)
