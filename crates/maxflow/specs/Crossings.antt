-- How much of the values on pairs crosses a set of cities.
use Rattle.std.specs.Prelude.{ℕ, ◌*◌, ◌^◌, ◌<◌, ◌≤◌, Bool, cond, ◌==◌, List, sum_by, ℤ, pos}
use Rattle.tspdef.specs.Sums.{sum_pairs}
use Rattle.tspdef.specs.Tours.{crosses}
use Rattle.cyc.specs.declared.frac.Entry.{Entry}
use Rattle.cyc.specs.Frac.{Values, value_of}

-- the crossing weight of a set: the sum of the values of all pairs that have exactly one city in it
abbrev pub crossing_weight : Values → (ℕ → Bool) → ℤ
crossing_weight x s = sum_pairs (λ u v. pos (value_of x.entries u v * cond (crosses s (u, v)) 1 0)) x.n

-- what an entry adds to it
abbrev pub crossing_at : (ℕ → Bool) → Entry → ℕ
crossing_at s e = cond (s e.u) (cond (s e.v) 0 e.x) (cond (s e.v) e.x 0)

-- the same sum, over entries
abbrev pub crossing : List Entry → (ℕ → Bool) → ℕ
crossing es s = sum_by (crossing_at s) es

-- the value x of the pair u v where it joins the cities s and t
abbrev pub joining : ℕ → ℕ → ℕ → ℕ → ℕ → ℕ
joining s t u v x = cond (u == s) (cond (v == t) x 0) (cond (v == s) (cond (u == t) x 0) 0)

-- what an entry has between two sets
abbrev pub between_at : (ℕ → Bool) → (ℕ → Bool) → Entry → ℕ
between_at s t e = cond (s e.u) (cond (t e.v) e.x 0) (cond (s e.v) (cond (t e.u) e.x 0) 0)

-- the sum of the values of the pairs that join a city of s to one of t
abbrev pub between : List Entry → (ℕ → Bool) → (ℕ → Bool) → ℕ
between es s t = sum_by (between_at s t) es

-- the same of two cities
abbrev pub between_cities : List Entry → ℕ → ℕ → ℕ
between_cities es u v = between es (λ k. k == u) (λ k. k == v)

-- a value of at most 2^30 on cities below n
abbrev pub IsPair : ℕ → Entry → Type 0
IsPair n e = (e.u < n) × ((e.v < n) × (e.x ≤ 2 ^ 30))
