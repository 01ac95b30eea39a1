-- An instance of the symmetric travelling salesman problem: n cities, the table of their distances, and the pairs of cities that
-- each tour must join (the fixed edges of TSPLIB 95).
use Rattle.std.specs.Prelude.{◌≡◌, ℕ, ◌+◌, ◌*◌, ◌^◌, ◌<◌, ◌≤◌, min, max, List, length, slice_index}
use Rattle.tspdef.specs.Tours.{IsTour, steps, tour_length}
use Rattle.tspdef.specs.Fixed.{AreFixable, AreSteps}

-- n cities, the distance of u and v at place u * n + v, and the fixed pairs
pub record Instance : Type 0 where
  pub n : ℕ
  pub table : List ℕ
  pub fixed : List (ℕ × ℕ)

-- the distance of two cities, symmetric whatever the table is
abbrev pub dist : Instance → ℕ → ℕ → ℕ
dist i u v = slice_index i.table (min u v * i.n + max u v)

-- 3 to 2,000 cities, a square table that is symmetric with zeros on its diagonal, distances below 2^30, and fixed pairs that
-- may be part of one tour
pub record IsInstance (i : Instance) : Type 0 where
  pub many : 3 ≤ i.n
  pub few : i.n ≤ 2000
  pub square : length i.table ≡ i.n * i.n
  pub symmetric : (u v : ℕ) → u < i.n → v < i.n → slice_index i.table (u * i.n + v) ≡ slice_index i.table (v * i.n + u)
  pub at_home : (u : ℕ) → u < i.n → slice_index i.table (u * i.n + u) ≡ 0
  pub small : (k : ℕ) → slice_index i.table k < 2 ^ 30
  pub fixed : AreFixable i.n i.fixed

-- a tour of the instance: of its cities, and with each fixed pair as a step
pub record IsTourOf (i : Instance) (tour : List ℕ) : Type 0 where
  pub is_tour : IsTour i.n tour
  pub holds_fixed : AreSteps (steps tour) i.fixed

-- how long a tour of the instance is
abbrev pub length_in : Instance → List ℕ → ℕ
length_in i tour = tour_length (dist i) tour
