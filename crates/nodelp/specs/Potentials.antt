-- What the duals of rows take off the cost of a pair at most, city by city.
use Rattle.std.specs.Prelude.{ℕ, ◌+◌, Bool, true, false, cond, List, [], ◌∷◌, ℤ, pos, ◌+ℤ◌, ◌*ℤ◌}
use Rattle.std.specs.Int.{int_max}
use Rattle.tspdef.specs.Sets.{has}
use Rattle.lpcheck.specs.Rows.{cities_of_each, signed}
use Rattle.lpcheck.specs.declared.row.Row.{Row}

-- the sets are one city
abbrev pub is_single : List (List ℕ) → Bool
is_single [] = false
is_single ([] ∷ ss) = false
is_single ((a ∷ []) ∷ []) = true
is_single ((a ∷ []) ∷ s ∷ ss) = false
is_single ((a ∷ b ∷ cs) ∷ ss) = false

-- how many of the sets have a city
abbrev pub holders : List (List ℕ) → ℕ → ℕ
holders [] v = 0
holders (s ∷ ss) v = cond (has s v) 1 0 + holders ss v

-- what a row counts at a city: its dual where it is one city's row, else its dual if that is positive
abbrev pub weight : Row → ℤ → ℤ
weight row y = cond (is_single (cities_of_each row.sets.items)) (signed row.sense y) (int_max (pos 0) (signed row.sense y))

-- the sum of those over the sets that have a city
abbrev pub potential : List Row → List ℤ → ℕ → ℤ
potential (row ∷ rows) (y ∷ ys) v = weight row y *ℤ pos (holders (cities_of_each row.sets.items) v) +ℤ potential rows ys v
potential (row ∷ rows) [] v = pos 0
potential [] ys v = pos 0
