-- The closing that is made of any whole-number duals, such as those of a linear program: the sizes and counts of a closing
-- are kept, and what is past them is cut off.
use Rattle.std.specs.Prelude.{ℕ, ◌^◌, cond, int_lt, List, [], ◌∷◌, ◌++◌, map, take, replicate, min, ℤ, pos, neg_ℤ, nat_abs}
use Rattle.std.specs.Int.{int_min, int_max}
use Rattle.tspdef.specs.Cuts.{Cut}
use Rattle.tspdef.specs.Closings.{Closing}

-- the nearest number of size at most 2^62
abbrev pub clamped : ℤ → ℤ
clamped y = int_max (neg_ℤ (pos (2 ^ 62))) (int_min (pos (2 ^ 62)) y)

-- the duals of n cities: the first n of the list, 0 for those that it lacks
abbrev pub city_duals : ℕ → List ℤ → List ℤ
city_duals n ys = take n (map clamped ys ++ replicate n (pos 0))

-- those with a positive dual, in their order, each dual at most 2^62
abbrev pub positive : {X : Type 0} → List (X × ℤ) → List (X × ℕ)
positive [] = []
positive (q ∷ qs) = cond (int_lt (pos 0) q.1) ((q.0, min (nat_abs q.1) (2 ^ 62)) ∷ positive qs) (positive qs)

-- the closing of duals of cities, of cuts, and of depths of conditions on sets: of the positive ones of the two latter kinds
-- the first 4,096
abbrev pub rounded : ℕ → List ℤ → List (Cut × ℤ) → List (ℕ × ℤ) → Closing
rounded n city cuts conds = record { city = city_duals n city; cuts = take 4096 (positive cuts); conds = take 4096 (positive conds) }
