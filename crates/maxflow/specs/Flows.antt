-- Least sides: what the value of a greatest flow is (Ford and Fulkerson 1956).
use Rattle.std.specs.Prelude.{◌≡◌, ℕ, ◌<◌, ◌≤◌, Bool, true, false, List, slice_index_or, pos, ◌≤ℤ◌}
use Rattle.tspdef.specs.Sets.{has, IsSet}
use Rattle.cyc.specs.Frac.{Values}
use Rattle.maxflow.specs.declared.LeastSide.{LeastSide}
use Rattle.maxflow.specs.Crossings.{crossing_weight, crossing}

-- The side holds s and not t and is crossed by exactly the value, the least of all such sets.
pub record IsLeastSide (x : Values) (s t : ℕ) (f : LeastSide) : Type 0 where
  pub cities : f.side.n ≡ x.n
  pub set : IsSet x.n f.side.cities
  pub holds : has f.side.cities s ≡ true
  pub lacks : has f.side.cities t ≡ false
  pub crossed : crossing_weight x (has f.side.cities) ≡ pos f.value
  pub least : (other : List ℕ) → IsSet x.n other → has other s ≡ true → has other t ≡ false → pos f.value ≤ℤ crossing_weight x (has other)

-- a city is marked as a stop
abbrev pub is_stop : List Bool → ℕ → Bool
is_stop stops k = slice_index_or stops k false

-- no stop is in the set
abbrev pub LacksStops : ℕ → List Bool → (ℕ → Bool) → Type 0
LacksStops n stops p = (k : ℕ) → k < n → is_stop stops k ≡ true → p k ≡ false

-- each set that holds s and no stop is crossed by as much at least
abbrev pub IsBelowAll : Values → ℕ → List Bool → ℕ → Type 0
IsBelowAll x s stops value = (p : ℕ → Bool) → p s ≡ true → LacksStops x.n stops p → value ≤ crossing x.entries p

-- the side holds s and no stop, and is crossed by exactly the value, the least of all such sets
pub record IsLeastFlow (x : Values) (s : ℕ) (stops : List Bool) (f : LeastSide) : Type 0 where
  pub cities : f.side.n ≡ x.n
  pub set : IsSet x.n f.side.cities
  pub holds : has f.side.cities s ≡ true
  pub lacks : LacksStops x.n stops (has f.side.cities)
  pub crossed : crossing x.entries (has f.side.cities) ≡ f.value
  pub least : IsBelowAll x s stops f.value
