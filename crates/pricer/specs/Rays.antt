-- What the code keeps while it looks for a ray.
use Rattle.std.specs.Prelude.{◌≡◌, ℕ, ◌<◌, ◌≤◌, cond, ◌==◌, ◌||◌, List, length, slice_index, true, pos}
use Rattle.tspdef.specs.Sets.{has}
use Rattle.tspdef.specs.Paths.{Condition, fixed, absent, present, two, four, is_present}
use Rattle.tspdef.specs.Rays.{degree, IsClosedUnder}

-- how often a condition uses a pair at a city
abbrev pub ends_at : Condition → ℕ → ℕ
ends_at (fixed a b) v = cond ((a == v) || (b == v)) 1 0
ends_at (absent a b) v = 0
ends_at (present a b) v = cond ((a == v) || (b == v)) 1 0
ends_at (two s) v = 0
ends_at (four s) v = 0

-- the number of used pairs at each city
pub record AreDegrees (n : ℕ) (path : List Condition) (degrees : List ℕ) : Type 0 where
  pub long : length degrees ≡ n
  pub each : (v : ℕ) → v < n → pos (slice_index degrees v) ≡ degree n path v

-- the lowest city with one used pair or none
pub record IsFirstFew (degrees : List ℕ) (v : ℕ) : Type 0 where
  pub city : v < length degrees
  pub few : slice_index degrees v ≤ 1
  pub lowest : (u : ℕ) → u < v → 2 ≤ slice_index degrees u

-- the lowest city with three used pairs or more
pub record IsFirstMany (degrees : List ℕ) (v : ℕ) : Type 0 where
  pub city : v < length degrees
  pub many : 3 ≤ slice_index degrees v
  pub lowest : (u : ℕ) → u < v → slice_index degrees u ≤ 2

-- Cities with one label are those that used pairs connect: a used pair has one, and a list that no used pair leaves has all
-- or none of those with one.
pub record AreLabels (n : ℕ) (path : List Condition) (labels : List ℕ) : Type 0 where
  pub joined : (u v : ℕ) → u < v → v < n → is_present path u v ≡ true → slice_index labels u ≡ slice_index labels v
  pub least : (t : List ℕ) → IsClosedUnder n path t → (u v : ℕ) → u < n → v < n → slice_index labels u ≡ slice_index labels v → has t u ≡ has t v

-- a label, with one in place of another
abbrev pub relabelled : List ℕ → ℕ → ℕ → ℕ → ℕ
relabelled labels from to v = cond (slice_index labels v == from) to (slice_index labels v)

-- a condition that uses a pair makes the labels of its cities one
abbrev pub IsMerge : Condition → List ℕ → List ℕ → Type 0
IsMerge (fixed a b) old new = (v : ℕ) → v < length old → slice_index new v ≡ relabelled old (slice_index old a) (slice_index old b) v
IsMerge (absent a b) old new = new ≡ old
IsMerge (present a b) old new = (v : ℕ) → v < length old → slice_index new v ≡ relabelled old (slice_index old a) (slice_index old b) v
IsMerge (two s) old new = new ≡ old
IsMerge (four s) old new = new ≡ old
