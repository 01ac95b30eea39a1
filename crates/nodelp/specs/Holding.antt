-- What the duals of rows count at cities and at pairs, and the rows that suffice for the pairs of one city. A set that has
-- one or two of two different cities is crossed by their pair just if it does not have both, so what the rows take off a
-- pair's cost is what they count at its cities less twice what they count where a set has both.
use Rattle.std.specs.Prelude.{◌≡◌, ◌≢◌, ℕ, ◌+◌, ◌<◌, ◌≤◌, ◌^◌, Bool, false, ◌&&◌, ◌||◌, nat_lt, cond, List, [], ◌∷◌, length, drop, slice_index_or, ℤ, pos, ◌+ℤ◌, ◌-ℤ◌, ◌*ℤ◌, All}
use Rattle.tspdef.specs.Sets.{has}
use Rattle.lpcheck.specs.Sizes.{IsWithin}
use Rattle.lpcheck.specs.Rows.{cities_of_each, signed}
use Rattle.lpcheck.specs.declared.row.Row.{Row}
use Rattle.nodelp.specs.Potentials.{holders, weight}

-- how many of the sets have both cities
abbrev pub shared : List (List ℕ) → ℕ → ℕ → ℕ
shared [] u v = 0
shared (s ∷ ss) u v = cond (has s u && has s v) 1 0 + shared ss u v

-- one of the sets has a city and others
abbrev pub is_joined : List (List ℕ) → ℕ → Bool
is_joined [] v = false
is_joined (s ∷ ss) v = (nat_lt 1 (length s) && has s v) || is_joined ss v

-- the sum of the duals, each as often as its row's sets have a city
abbrev pub holding : List Row → List ℤ → ℕ → ℤ
holding (row ∷ rows) (y ∷ ys) v = signed row.sense y *ℤ pos (holders (cities_of_each row.sets.items) v) +ℤ holding rows ys v
holding (row ∷ rows) [] v = pos 0
holding [] ys v = pos 0

-- what a city's potential has beyond that, by the rows of several cities whose duals count negative
abbrev pub excess : List Row → List ℤ → ℕ → ℤ
excess (row ∷ rows) (y ∷ ys) v = (weight row y -ℤ signed row.sense y) *ℤ pos (holders (cities_of_each row.sets.items) v) +ℤ excess rows ys v
excess (row ∷ rows) [] v = pos 0
excess [] ys v = pos 0

-- the sum of the duals, each as often as its row's sets have both cities
abbrev pub sharing : List Row → List ℤ → ℕ → ℕ → ℤ
sharing (row ∷ rows) (y ∷ ys) u v = signed row.sense y *ℤ pos (shared (cities_of_each row.sets.items) u v) +ℤ sharing rows ys u v
sharing (row ∷ rows) [] u v = pos 0
sharing [] ys u v = pos 0

-- the first row's part of that sum
abbrev pub first_sharing : List Row → List ℤ → ℕ → ℕ → ℤ
first_sharing (row ∷ rows) (y ∷ ys) u v = signed row.sense y *ℤ pos (shared (cities_of_each row.sets.items) u v)
first_sharing (row ∷ rows) [] u v = pos 0
first_sharing [] ys u v = pos 0

-- the sum over the rows at some places alone
abbrev pub sharing_at : List Row → List ℤ → List ℕ → ℕ → ℕ → ℤ
sharing_at rows ys [] u v = pos 0
sharing_at rows ys (k ∷ ks) u v = first_sharing (drop k rows) (drop k ys) u v +ℤ sharing_at rows ys ks u v

-- what the duals count at each of n cities
pub record AreHoldings (n : ℕ) (rows : List Row) (ys hs : List ℤ) : Type 0 where
  pub long : length hs ≡ n
  pub each : (v : ℕ) → v < n → slice_index_or hs v (pos 0) ≡ holding rows ys v
  pub size : All (IsWithin (2 ^ 101)) hs

-- places of rows, which suffice for the pairs of a city
pub record AreJoining (rows : List Row) (ys : List ℤ) (v : ℕ) (places : List ℕ) : Type 0 where
  pub few : length places ≤ length rows
  pub within : All (λ k. k < length rows) places
  pub enough : (u : ℕ) → u ≢ v → sharing_at rows ys places u v ≡ sharing rows ys u v
