-- The walk that goes to the nearest city each time, and keeps to the fixed pairs.
use Rattle.std.specs.Prelude.{ℕ, zero, suc, ◌-◌, Bool, nat_lt, nat_le, cond, ◌==◌, List, [], ◌∷◌}
use Rattle.std.specs.List.{range_with_len, filter}
use Rattle.tspdef.specs.Tours.{has_step}
use Rattle.tspdef.specs.Fixed.{pairs_at}
use Rattle.tspdef.specs.Instances.{Instance, IsInstance, IsTourOf, dist}

-- of a city and some more the least far one, of equally far ones the first
abbrev pub nearest_of : (ℕ → ℕ) → ℕ → List ℕ → ℕ
nearest_of far best [] = best
nearest_of far best (c ∷ cs) = nearest_of far (cond (nat_lt (far c) (far best)) c best) cs

-- the nearest of some cities
abbrev pub nearest_in : (ℕ → ℕ) → List ℕ → ℕ
nearest_in far [] = 0
nearest_in far (c ∷ cs) = nearest_of far c cs

-- the list without a city
abbrev pub without : ℕ → List ℕ → List ℕ
without city [] = []
without city (c ∷ cs) = cond (c == city) (without city cs) (c ∷ without city cs)

-- at most one of the pairs has the city
abbrev pub is_end : List (ℕ × ℕ) → ℕ → Bool
is_end pairs c = nat_le (pairs_at pairs c) 1

-- the first of two lists, or the second where that is empty
abbrev pub or_else : List ℕ → List ℕ → List ℕ
or_else [] others = others
or_else (c ∷ cs) others = c ∷ cs

-- Where a walk goes on from a city, when the rest is not visited yet: to a fixed partner, or where there is none, to any city
-- with at most one fixed pair.
abbrev pub open_to : Instance → ℕ → List ℕ → List ℕ
open_to i here rest = or_else (filter (has_step i.fixed here) rest) (filter (is_end i.fixed) rest)

-- the city that a walk goes to: the nearest of those, of equally near ones the first in the list of the rest
abbrev pub next_city : Instance → ℕ → List ℕ → ℕ
next_city i here rest = nearest_in (dist i here) (open_to i here rest)

-- the next m cities of a walk that stands at a city
abbrev pub walk_on : Instance → ℕ → ℕ → List ℕ → List ℕ
walk_on i zero here rest = []
walk_on i (suc m) here rest = next_city i here rest ∷ walk_on i m (next_city i here rest) (without (next_city i here rest) rest)

-- the first of some cities, or else city 0
abbrev pub lowest_of : List ℕ → ℕ
lowest_of [] = 0
lowest_of (c ∷ cs) = c

-- the lowest city with at most one fixed pair; city 0 where each has two
abbrev pub start_city : Instance → ℕ
start_city i = lowest_of (filter (is_end i.fixed) (range_with_len 0 i.n))

-- The walk from the lowest city with at most one fixed pair, or from city 0 where the fixed pairs are the whole tour. From each city
-- it goes to a fixed partner not visited yet if there is one (of two, with which only a whole tour begins, to the nearer), and else
-- to the nearest city not visited yet that has at most one fixed pair, of equally near ones to that with the least number: the rest
-- is in rising order. So it walks each path of fixed pairs from one of its ends to the other.
abbrev pub nearest_walk : Instance → List ℕ
nearest_walk i = start_city i ∷ walk_on i (i.n - 1) (start_city i) (without (start_city i) (range_with_len 0 i.n))

-- Each instance has a tour that holds its fixed pairs: the walk is one.
abbrev pub ToursExist : Type 0
ToursExist = (i : Instance) → IsInstance i → (tour : List ℕ) × IsTourOf i tour
